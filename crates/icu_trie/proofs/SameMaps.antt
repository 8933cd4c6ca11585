-- Maps that are equal on all code points have the same mapped runs.
use Rattle.std.proofs.Common.{◌≡◌, ℕ, ◌+◌, ◌<◌, Bool, List, [], ◌∷◌, Option, ◌∙◌, arith}
use Rattle.icu_trie_core.specs.declared.range.CodePointMapRange.{CodePointMapRange}
use Rattle.icu_trie_core.specs.Range.{last_of}
use Rattle.icu_trie.specs.MappedRanges.{MapsTo, AreMappedRunsFrom}

module _ {A B : Type 0} (eq : B → B → Bool) (h : A → B) (f g : ℕ → Option A) (same : (u : ℕ) → u < 0x110000 → f u ≡ g u) where
  MapsTo-same : (first last : ℕ) (v : B) → MapsTo eq h f first last v → MapsTo eq h g first last v
  MapsTo-same first last v m =
      let o = m.ordered in
      let w = m.within in record {
        ordered = o;
        within = w;
        starts = λ x e. m.starts x (same first (omega (arith, o, w)) ∙ e);
        equal = λ u x a b e. m.equal u x a b (same u (omega (arith, b, w)) ∙ e);
      }

  pub AreMappedRunsFrom-same : (c : ℕ) (rs : List (CodePointMapRange B)) → AreMappedRunsFrom eq h f c rs → AreMappedRunsFrom eq h g c rs
  AreMappedRunsFrom-same c [] k = k
  AreMappedRunsFrom-same c (r ∷ rs) k = (
    k.0,
    k.1,
    record { maps = MapsTo-same c (last_of r) r.value k.2.maps; ends = λ x l e. k.2.ends x l (same (last_of r + 1) l ∙ e) },
    AreMappedRunsFrom-same (last_of r + 1) rs k.3,
  )
