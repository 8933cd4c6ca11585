-- The ranges of a trie as runs of its map.
use Rattle.std.proofs.Common.{◌≡◌, ◌≢◌, ℕ, List, [], ◌∷◌, map, refl, ap}
use Rattle.icu_trie_core.specs.Range.{run_of}
use Rattle.icu_trie_core.specs.Runs.{Run, AreMaximalRuns, some_run}
use Rattle.icu_trie_core.specs.declared.range.CodePointMapRange.{CodePointMapRange}
use Rattle.ucptab_table.specs.TableText.{answers_text, runs_text, IsTextOfMap}
use Rattle.ucptab_table.specs.Inside.Ranges.{run_of_values}

-- a run of the answers is a run of the values
pub runs-of-ranges : (xs : List (CodePointMapRange ℕ)) → map run_of xs ≡ map some_run (map run_of_values xs)
runs-of-ranges [] = refl
runs-of-ranges (x ∷ xs) = ap (λ runs. run_of x ∷ runs) (runs-of-ranges xs)

module _ (value answer : ℕ → ℕ) (text : List ℕ) where
  -- The text if some number is asked for.
  pub text_of_some : (asked : List ℕ) → asked ≢ [] → text ≡ answers_text answer asked → IsTextOfMap value answer asked text
  text_of_some [] some lines = absurd (some refl)
  text_of_some (n ∷ asked) some lines = lines
