-- The parts of the index, one after another.
use Rattle.std.proofs.Common.{◌≡◌, ℕ, ◌+◌, ◌*◌, ◌/◌, ◌%◌, ◌≤◌, List, length, get_or, arith, ap, ◌∙◌}
use Rattle.icu_trie_core.specs.declared.header.TrieType.{TrieType}
use Rattle.icu_trie_core.specs.declared.header.TrieType.TheVariants.{Fast, Small}
use Rattle.icu_trie_core.specs.Format.{fast_limit, index1_start}
use Rattle.icu_trie_builder.specs.Inside.Index.Layout.{IsIndex}
use Rattle.icu_trie_builder.specs.Inside.Index.IndexParts.{IsGrown, IsUpper}
use Rattle.icu_trie_builder.proofs.IndexLemmas.Growing.{cell_there}

pub parts : (trie_type : TrieType) → (index1_start trie_type + fast_limit trie_type / 16384 ≡ fast_limit trie_type / 64)
    × (fast_limit trie_type ≡ 16384 * (fast_limit trie_type / 16384) + 512 * (fast_limit trie_type % 16384 / 512))
    × (fast_limit trie_type ≤ 65536) × (4096 ≤ fast_limit trie_type)
parts Fast = (omega arith, omega arith, omega arith, omega arith)
parts Small = (omega arith, omega arith, omega arith, omega arith)

module _ (trie_type : TrieType) (high : ℕ) (fast small empty old : List ℕ) (none : length empty ≡ 0)
    (len : length fast ≡ fast_limit trie_type / 64)
    (g : IsGrown (length fast) (λ i. get_or fast i 0) empty old) where
  -- The whole index, if the cells after the fast index are laid out too.
  pub index-upper : (index : List ℕ) → IsUpper trie_type high small old index → IsIndex trie_type high fast small index
  index-upper index u =
      let p = parts trie_type in
      record {
        longer = omega (arith, g.len, u.longer);
        on_fast = λ c l. cell_there index (c / 64) (get_or fast (c / 64) 0) (omega (arith, g.len, len, l, p.1, u.longer))
            (u.kept (c / 64) (omega (arith, g.len, len, l, p.1))
            ∙ (ap (λ i. get_or old i 0) (omega (arith, none)) ∙ g.more (c / 64) (omega (arith, len, l, p.1))));
        gives = u.gives;
      }
