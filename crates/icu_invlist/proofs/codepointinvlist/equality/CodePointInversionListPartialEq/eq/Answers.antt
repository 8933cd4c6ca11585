use Rattle.std.proofs.Common.{◌≡◌, ◌∙◌, ap, sym, ℕ, Bool, List, Some, Decides}
use Rattle.std.specs.List.{flat_map}
use Rattle.std.proofs.lemmas.Bool.Decides.{same_from_decides}
use Rattle.std.proofs.lemmas.Slice.Eq.{bytes_eq-Decides}
use Rattle.icu_zerovec.specs.Cells.{values_of}
use Rattle.icu_zerovec.specs.PackedBytes.{low_bytes, number_of}
use Rattle.icu_zerovec.proofs.CallerLemmas.{canonical_point}
use Rattle.icu_invlist.specs.InversionList.{holds}
use Rattle.icu_invlist.proofs.EqualSets.{same_sets}
use Rattle.icu_invlist.proofs.codepointinvlist.equality.CodePointInversionListPartialEq.eq.Goals as goal

-- The bytes determine the lists and the lists the bytes, so comparing bytes decides whether the
-- lists are equal.
decided : (values bytes : List ℕ → List ℕ) (a b xs ys : List ℕ) (r : Bool) → Decides r (a ≡ b) → xs ≡ values a → ys ≡ values b
    → a ≡ bytes xs → b ≡ bytes ys
    → Decides r (xs ≡ ys)
decided values bytes a b xs ys r d p q u v = (λ t. p ∙ (ap values (d.0 t) ∙ sym q), λ e. d.1 (u ∙ (ap bytes e ∙ sym v)))

by_bytes : goal.returns-clause-same
by_bytes c =
    let d = bytes_eq-Decides c.as_bytes.result.now c.as_bytes-2.result.now in
    decided (values_of (λ b. Some (number_of 3 b)) 3)
    (flat_map (low_bytes 3)) c.as_bytes.result.now c.as_bytes-2.result.now c.args.self.now c.args.other.now c.eq.result
    (λ t. d.0 (sym c.eq.ensures ∙ t), λ e. c.eq.ensures ∙ d.1 e)
    (sym c.packed.ensures.ends ∙ c.as_bytes.ensures.values) (sym c.packed-2.ensures.ends ∙ c.as_bytes-2.ensures.values)
    (rw c.packed.ensures.ends at (c.as_bytes.ensures.canonical canonical_point))
    (rw c.packed-2.ensures.ends at (c.as_bytes-2.ensures.canonical canonical_point))

pub returns-clause-same : goal.returns-clause-same
returns-clause-same c = by_bytes c

pub returns-clause-value : goal.returns-clause-value
returns-clause-value c = same_from_decides _ _ (by_bytes c) (bytes_eq-Decides c.args.self.now c.args.other.now)

pub returns-clause-members : goal.returns-clause-members
returns-clause-members c =
    let d = by_bytes c in (
      λ t n h. ap (λ (xs : List ℕ). holds xs n) (d.0 t),
      λ all. d.1 (same_sets c.args.self.now c.args.other.now c.packed.ensures.valid c.packed-2.ensures.valid all),
    )
