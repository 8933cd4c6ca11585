-- The maximal runs of a map: there is exactly one list of them, and maps that are equal on all code
-- points have the same list.
use Rattle.std.proofs.Common.{◌≡◌, ℕ, ◌+◌, ◌<◌, List, [], ◌∷◌, map, Option, Some, refl, arith, ◌∙◌, sym, ap, ◌↔◌}
use Rattle.icu_trie_core.specs.Range.{run_of, value_run}
use Rattle.icu_trie_core.specs.declared.range.CodePointMapRange.{CodePointMapRange}
use Rattle.icu_trie_core.specs.Runs.{Run, LongestRun, AreRunsFrom, AreMaximalRuns, some_run}

module _ {A : Type 0} (f : ℕ → A) where
  -- If a run ends before another one with the same start, the next code point after it has the same
  -- value.
  no_longer : (c k l : ℕ) (x y : A) → LongestRun f c k x → LongestRun f c l y → k < l → ⊥
  no_longer c k l x y h j lt =
      let here = sym (h.equal c (omega arith) h.ordered) ∙ j.equal c (omega arith) j.ordered in
      let before = h.ordered in
      let within = j.within in
      h.ends (omega (arith, lt, within)) (j.equal (k + 1) (omega (arith, before)) (omega (arith, lt)) ∙ sym here)

  same_run : (r s : Run A) → r.first ≡ s.first → r.last ≡ s.last → r.value ≡ s.value → r ≡ s
  same_run r s a b v = λ i. record { first = a i; last = b i; value = v i }

  runs_from-unique : (c : ℕ) (rs ss : List (Run A)) → AreRunsFrom f c rs → AreRunsFrom f c ss → rs ≡ ss
  runs_from-unique c [] [] h k = refl
  runs_from-unique c [] (s ∷ ss) h k =
      let first = k.0 in let before = k.1.ordered in let within = k.1.within in absurd (omega (arith, h, first, before, within))
  runs_from-unique c (r ∷ rs) [] h k =
      let first = h.0 in let before = h.1.ordered in let within = h.1.within in absurd (omega (arith, k, first, before, within))
  runs_from-unique c (r ∷ rs) (s ∷ ss) h k =
      let one : LongestRun f c r.last r.value = rw h.0 at h.1 in
      let other : LongestRun f c s.last s.value = rw k.0 at k.1 in
      let up : r.last < s.last → ⊥ = no_longer c r.last s.last r.value s.value one other in
      let down : s.last < r.last → ⊥ = no_longer c s.last r.last s.value r.value other one in
      let last : r.last ≡ s.last = omega (arith, up, down) in
      let value : r.value ≡ s.value = sym (one.equal c (omega arith) one.ordered) ∙ other.equal c (omega arith) other.ordered in
      let run : r ≡ s = same_run r s (h.0 ∙ sym k.0) last value in
      let rest : rs ≡ ss = runs_from-unique (r.last + 1) rs ss h.2 (rw (sym last) at k.2) in
      λ i. run i ∷ rest i

  -- A map has at most one list of maximal runs.
  pub runs-unique : (rs ss : List (Run A)) → AreMaximalRuns f rs → AreMaximalRuns f ss → rs ≡ ss
  runs-unique rs ss h k = runs_from-unique 0 rs ss h k

module _ {A : Type 0} (f g : ℕ → A) (same : (u : ℕ) → u < 0x110000 → f u ≡ g u) where
  LongestRun-along : (first last : ℕ) (value : A) → LongestRun f first last value → LongestRun g first last value
  LongestRun-along first last value h =
      let w = h.within in
      record {
        ordered = h.ordered;
        within = w;
        equal = λ u a b. sym (same u (omega (arith, b, w))) ∙ h.equal u a b;
        ends = λ lt e. h.ends lt (same (last + 1) lt ∙ e);
      }

  AreRunsFrom-along : (c : ℕ) (rs : List (Run A)) → AreRunsFrom f c rs → AreRunsFrom g c rs
  AreRunsFrom-along c [] h = h
  AreRunsFrom-along c (r ∷ rs) h = (h.0, LongestRun-along r.first r.last r.value h.1, AreRunsFrom-along (r.last + 1) rs h.2)

-- Maps that are equal on all code points have the same maximal runs.
pub AreMaximalRuns-same : {A : Type 0} (f g : ℕ → A) → ((u : ℕ) → u < 0x110000 → f u ≡ g u) → (rs : List (Run A))
    → AreMaximalRuns f rs ↔ AreMaximalRuns g rs
AreMaximalRuns-same f g same rs = (AreRunsFrom-along f g same 0 rs, AreRunsFrom-along g f (λ u lt. sym (same u lt)) 0 rs)

module _ {A : Type 0} (g : ℕ → A) where
  AreRunsFrom-to_some : (c : ℕ) (rs : List (Run A)) → AreRunsFrom g c rs → AreRunsFrom (λ u. Some (g u)) c (map some_run rs)
  AreRunsFrom-to_some c [] h = h
  AreRunsFrom-to_some c (r ∷ rs) h =
      let run = h.1 in (
        h.0,
        record {
          ordered = run.ordered;
          within = run.within;
          equal = λ u a b. ap (λ x. Some x) (run.equal u a b);
          ends = λ lt e. run.ends lt (let same : g (r.last + 1) ≡ r.value = cc in same);
        },
        AreRunsFrom-to_some (r.last + 1) rs h.2,
      )

  AreRunsFrom-from_some : (c : ℕ) (rs : List (Run A)) → AreRunsFrom (λ u. Some (g u)) c (map some_run rs) → AreRunsFrom g c rs
  AreRunsFrom-from_some c [] h = h
  AreRunsFrom-from_some c (r ∷ rs) h =
      let run = h.1 in (
        h.0,
        record {
          ordered = run.ordered;
          within = run.within;
          equal = λ u a b. let e : Some (g u) ≡ Some r.value = run.equal u a b in let same : g u ≡ r.value = cc in same;
          ends = λ lt e. run.ends lt (ap (λ x. Some x) e);
        },
        AreRunsFrom-from_some (r.last + 1) rs h.2,
      )

-- Wrapping each value of a map in Some does not change its maximal runs.
pub AreMaximalRuns-some : {A : Type 0} (f : ℕ → Option A) (g : ℕ → A) → ((u : ℕ) → u < 0x110000 → f u ≡ Some (g u)) → (rs : List (Run A))
    → AreMaximalRuns f (map some_run rs) ↔ AreMaximalRuns g rs
AreMaximalRuns-some f g same rs =
    let along = AreMaximalRuns-same f (λ u. Some (g u)) same (map some_run rs) in
    (λ h. AreRunsFrom-from_some g 0 rs (along.0 h), λ h. along.1 (AreRunsFrom-to_some g 0 rs h))

-- Ranges as runs of look-up results, by their values.
pub value_runs-some : {A : Type 0} (xs : List (CodePointMapRange A)) → map run_of xs ≡ map some_run (map value_run xs)
value_runs-some [] = refl
value_runs-some (x ∷ xs) = ap (λ rs. run_of x ∷ rs) (value_runs-some xs)
