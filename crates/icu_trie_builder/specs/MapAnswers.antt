-- What a trie that was built from a map returns.
use Rattle.std.specs.Prelude.{◌≡◌, ℕ, ◌<◌, ◌↔◌, nat_le, List, Some, None, map, if◌then◌else◌}
use Rattle.icu_zerovec.specs.CodePoints.{code_point_limit}
use Rattle.icu_trie_core.specs.Contents.{contents_of}
use Rattle.icu_trie_core.specs.Format.{answer}
use Rattle.icu_trie.specs.Parts.{Parts, trie_value}
use Rattle.icu_trie.specs.Ranges.{answers}
use Rattle.icu_trie_core.specs.Runs.{Run, AreMaximalRuns, some_run}

-- The trie t has the values of the map f. A look-up of a code point yields f's value, however its
-- cells are stored. A look-up above 0x10FFFF yields nothing, and the trie's value there is the
-- error value.
pub record AnswersMap {T : Type 0} (f : ℕ → T) (error : T) (t : Parts T) : Type 0 where
  pub look_up : (u : ℕ) → answer t.header (contents_of t.index t.values) u
      ≡ (if nat_le u 0x10FFFF then Some (f u) else None)
  pub value : (u : ℕ) → trie_value t u ≡ Some (if nat_le u 0x10FFFF then f u else error)

-- The trie t has the ranges and the value sets of the map f: its look-up results have f's maximal
-- runs, and equal a value at exactly the code points at which f does.
pub record HasRangesOf {T : Type 0} (f : ℕ → T) (t : Parts T) : Type 0 where
  pub runs : (rs : List (Run T))
      → AreMaximalRuns (answers t) (map some_run rs) ↔ AreMaximalRuns f rs
  pub sets : (v : T) (c : ℕ) → c < code_point_limit → (answers t c ≡ Some v) ↔ (f c ≡ v)
