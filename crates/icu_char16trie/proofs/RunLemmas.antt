-- How a text continues at a match node to the next node, or ends there.
use Rattle.std.proofs.Common.{◌≡◌, ℕ, zero, suc, ◌+◌, ◌-◌, ◌<◌, ◌≤◌, Bool, true, false, nat_eq, List, [], ◌∷◌, Option, Some, None, length, slice_get, take, refl, ap, subst, ◌⊎◌, inl, inr, arith, add-zero}
use Rattle.std.proofs.lemmas.Option.{same_Some}
use Rattle.std.proofs.lemmas.Bool.{eqb-true, eqb-false, eq-eqb, ne_eqb}
use Rattle.icu_char16trie.specs.Steps.{InMatch, in_run, StepsTo, StepsAlong}
use Rattle.icu_char16trie.specs.Inside.Fronts.{BeginsRun, HasValueFrom, NoneHasValue, LeadsByMatch, PassesMatch}
use Rattle.icu_char16trie.specs.declared.place.Place.{Place}
use Rattle.icu_char16trie.specs.declared.place.Place.TheVariants.{Nowhere, Node, Run}
use Rattle.icu_char16trie.proofs.FrontLemmas.{stays_nowhere}

-- ---- one unit of a linear match

-- The next unit of the text is that of the linear match.
on_in_run : (units : List ℕ) (p left u : ℕ) → slice_get units p ≡ Some u → StepsTo units (Run p (suc left)) u (Run (p + 1) left)
on_in_run units p left u g =
    let same : nat_eq u u ≡ true = eq-eqb u u refl in
    let more : nat_eq (suc left) 0 ≡ false = ne_eqb (suc left) 0 (λ e. omega arith) in
    let less : suc left - 1 ≡ left = omega arith in
    rw (g, same, more, less) refl

on_to_node : (units : List ℕ) (p u : ℕ) → slice_get units p ≡ Some u → StepsTo units (Run p 0) u (Node (p + 1))
on_to_node units p u g = let same : nat_eq u u ≡ true = eq-eqb u u refl in rw (g, same) refl

off_run : (units : List ℕ) (p left u : ℕ) (unit : Option ℕ) → slice_get units p ≡ unit → (unit ≡ Some u → ⊥)
    → StepsTo units (Run p left) u Nowhere
off_run units p left u None g other = rw g refl
off_run units p left u (Some x) g other =
    let differs : nat_eq x u ≡ false = ne_eqb x u (λ e. other (ap Some e)) in rw (g, differs) refl

-- ---- a text that starts with a linear match

begins_next : (units : List ℕ) (p left u : ℕ) (text : List ℕ) → BeginsRun units p (suc left) (u ∷ text) → BeginsRun units (p + 1) left text
begins_next units p left u text b = record {
  within = omega (arith, b.within);
  same = λ k lt. let there : (p + 1) + k ≡ p + suc k = omega arith in rw there (b.same (suc k) (omega arith));
}

first_same : (units : List ℕ) (p left u : ℕ) (text : List ℕ) → BeginsRun units p (suc left) (u ∷ text) → slice_get units p ≡ Some u
first_same units p left u text b = rw add-zero at (b.same 0 (omega arith))

pub begins_more : (units : List ℕ) (p left u : ℕ) (text : List ℕ) → slice_get units p ≡ Some u → BeginsRun units (p + 1) left text
    → BeginsRun units p (suc left) (u ∷ text)
begins_more units p left u text g b = record {
  within = omega (arith, b.within);
  same = same;
}
  where
    same : (k : ℕ) → k < suc left → slice_get units (p + k) ≡ slice_get (u ∷ text) k
    same zero lt = rw add-zero g
    same (suc k) lt = let there : p + suc k ≡ (p + 1) + k = omega arith in rw there (b.same k (omega arith))

-- The text leads to the node after the linear match.
run_passed : (units : List ℕ) (text : List ℕ) (p left : ℕ) → BeginsRun units p (suc left) text
    → StepsAlong units (Run p left) (take (suc left) text) (Node (p + suc left))
run_passed units [] p left b = absurd (omega (arith, b.within))
run_passed units (u ∷ text) p zero b = (Node (p + 1), on_to_node units p u (first_same units p 0 u text b), ap Node (omega arith))
run_passed units (u ∷ text) p (suc left) b =
    let there : p + suc (suc left) ≡ (p + 1) + suc left = omega arith in (
      Run (p + 1) left,
      on_in_run units p left u (first_same units p (suc left) u text b),
      rw there (run_passed units text (p + 1) left (begins_next units p (suc left) u text b)),
    )

-- Nothing has a value before the end of the linear match.
none_within : (units : List ℕ) (text : List ℕ) (p left : ℕ) → BeginsRun units p (suc left) text → (k : ℕ) → k < suc left
    → HasValueFrom units (Run p left) (take k text) None
none_within units text p left b zero lt = (Run p left, refl, refl)
none_within units [] p left b (suc k) lt = absurd (omega (arith, b.within))
none_within units (u ∷ text) p zero b (suc k) lt = absurd (omega (arith, lt))
none_within units (u ∷ text) p (suc left) b (suc k) lt =
    let h = none_within units text (p + 1) left (begins_next units p (suc left) u text b) k (omega arith) in
    (h.0, (Run (p + 1) left, on_in_run units p left u (first_same units p (suc left) u text b), h.1), h.2)

-- ---- a text that does not

nowhere_has_none : (units : List ℕ) (from : Place) (u : ℕ) (text : List ℕ) → StepsTo units from u Nowhere
    → NoneHasValue units from (u ∷ text)
nowhere_has_none units from u text step zero some within = absurd (omega (arith, some))
nowhere_has_none units from u text step (suc k) some within = (Nowhere, (Nowhere, step, stays_nowhere units (take k text)), refl)

is_unit : (units : List ℕ) (p u : ℕ) → (slice_get units p ≡ Some u) ⊎ (slice_get units p ≡ Some u → ⊥)
is_unit units p u = by (slice_get units p)
  where
    here : (x : ℕ) (b : Bool) → nat_eq x u ≡ b → (◌≡◌ {A = Option ℕ} (Some x) (Some u)) ⊎ (◌≡◌ {A = Option ℕ} (Some x) (Some u) → ⊥)
    here x true e = inl (ap Some (eqb-true x u e))
    here x false e = inr (λ same. eqb-false x u e (same_Some x u same))

    by : (unit : Option ℕ) → (unit ≡ Some u) ⊎ (unit ≡ Some u → ⊥)
    by None = inr (λ e. cc)
    by (Some x) = here x (nat_eq x u) refl

-- The first unit of the text is not that of the linear match.
off_at_first : (units : List ℕ) (text : List ℕ) (p left u : ℕ) → (slice_get units p ≡ Some u → ⊥)
    → NoneHasValue units (Run p left) (u ∷ text)
off_at_first units text p left u other = nowhere_has_none units (Run p left) u text (off_run units p left u (slice_get units p) refl other)

run_left : (units : List ℕ) (text : List ℕ) (p left : ℕ) → (BeginsRun units p (suc left) text → ⊥) → NoneHasValue units (Run p left) text
run_left units [] p left never k some within = absurd (omega (arith, some, within))
run_left units (u ∷ text) p zero never k some within = elim (is_unit units p u) [
  | inl g ↦
      absurd (never (begins_more units p 0 u text g (record { within = omega arith; same = λ j lt. absurd (omega (arith, lt)) })))
  | inr other ↦ off_at_first units text p 0 u other k some within
]
run_left units (u ∷ text) p (suc left) never zero some within = absurd (omega (arith, some))
run_left units (u ∷ text) p (suc left) never (suc zero) some within = elim (is_unit units p u) [
  | inl g ↦ (Run (p + 1) left, (Run (p + 1) left, on_in_run units p left u g, refl), refl)
  | inr other ↦ off_at_first units text p (suc left) u other (suc zero) some within
]
run_left units (u ∷ text) p (suc left) never (suc (suc k)) some within = elim (is_unit units p u) [
  | inl g ↦
      let h = run_left units text (p + 1) left (λ b. never (begins_more units p (suc left) u text g b))
      (suc k) (omega arith) (omega (arith, within)) in
      (h.0, (Run (p + 1) left, on_in_run units p left u g, h.1), h.2)
  | inr other ↦ off_at_first units text p (suc left) u other (suc (suc k)) some within
]

-- ---- from a position that leads on as the match node does

-- A linear match.
by_run : (units : List ℕ) (from : Place) (p low : ℕ) → 0x30 ≤ low → LeadsByMatch units from p low → (u : ℕ) (to : Place)
    → StepsTo units (Run p (low - 0x30)) u to → StepsTo units from u to
by_run units from p low big leads u to step = leads u to (in_run p low to big step)

steps_by : (units : List ℕ) (from mid : Place) (w : List ℕ) (q : Place)
    → ((u : ℕ) (to : Place) → StepsTo units mid u to → StepsTo units from u to)
    → (u : ℕ) → StepsAlong units mid (u ∷ w) q → StepsAlong units from (u ∷ w) q
steps_by units from mid w q leads u h = (h.0, leads u h.0 h.1, h.2)

value_by_front : (units : List ℕ) (from mid : Place) (text : List ℕ)
    → ((u : ℕ) (to : Place) → StepsTo units mid u to → StepsTo units from u to)
    → (k : ℕ) → 0 < k → k ≤ length text → HasValueFrom units mid (take k text) None → HasValueFrom units from (take k text) None
value_by_front units from mid text leads zero some within h = absurd (omega (arith, some))
value_by_front units from mid [] leads (suc k) some within h = absurd (omega (arith, within))
value_by_front units from mid (u ∷ text) leads (suc k) some within h = (h.0, steps_by units from mid (take k text) h.0 leads u h.1, h.2)

node_by_front : (units : List ℕ) (from mid : Place) (text : List ℕ) (q : Place)
    → ((u : ℕ) (to : Place) → StepsTo units mid u to → StepsTo units from u to)
    → (k : ℕ) → 0 < k → k ≤ length text → StepsAlong units mid (take k text) q → StepsAlong units from (take k text) q
node_by_front units from mid text q leads zero some within h = absurd (omega (arith, some))
node_by_front units from mid [] q leads (suc k) some within h = absurd (omega (arith, within))
node_by_front units from mid (u ∷ text) q leads (suc k) some within h = steps_by units from mid (take k text) q leads u h

pub passes_run : (units text : List ℕ) (p low n q : ℕ) → 0x30 ≤ low → n ≡ low - 0x2f → q ≡ p + n → BeginsRun units p n text
    → PassesMatch units text p low (Some (q, n))
passes_run units text p low n q big e at b from leads =
    let more : n ≡ suc (low - 0x30) = omega (arith, e, big) in
    let there : p + suc (low - 0x30) ≡ q = omega (arith, e, big, at) in
    let b' : BeginsRun units p (suc (low - 0x30)) text = rw more at b in
    let passed : StepsAlong units (Run p (low - 0x30)) (take (suc (low - 0x30)) text) (Node q) =
    subst (λ z. StepsAlong units (Run p (low - 0x30)) (take (suc (low - 0x30)) text) (Node z)) there
    (run_passed units text p (low - 0x30) b') in
    record {
      some = omega (arith, e, big);
      within = b.within;
      steps =
          node_by_front units from (Run p (low - 0x30)) text (Node q) (by_run units from p low big leads) n (omega (arith, e, big))
          b.within (rw (← more) at passed);
      none = λ k some lt.
          value_by_front units from (Run p (low - 0x30)) text (by_run units from p low big leads) k some (omega (arith, b.within, lt))
          (none_within units text p (low - 0x30) b' k (omega (arith, lt, more)));
    }

pub leaves_run : (units text : List ℕ) (p low n : ℕ) → 0x30 ≤ low → n ≡ low - 0x2f → (BeginsRun units p n text → ⊥)
    → PassesMatch units text p low None
leaves_run units text p low n big e never from leads k some within =
    let more : n ≡ suc (low - 0x30) = omega (arith, e, big) in
    value_by_front units from (Run p (low - 0x30)) text (by_run units from p low big leads) k some within
    (run_left units text p (low - 0x30) (λ b. never (rw more b)) k some within)

-- A branch.
pub passes_branch : (units text : List ℕ) (p low u q : ℕ) → 0 < length text → slice_get text 0 ≡ Some u → InMatch units u p low (Node q)
    → PassesMatch units text p low (Some (q, 1))
passes_branch units [] p low u q some g step from leads = absurd (omega (arith, some))
passes_branch units (x ∷ text) p low u q some g step from leads =
    let same : x ≡ u = cc in
    record {
      some = omega arith;
      within = omega arith;
      steps = (Node q, rw same (leads u (Node q) step), refl);
      none = λ k some' lt. absurd (omega (arith, some', lt));
    }

pub leaves_branch : (units text : List ℕ) (p low u : ℕ) → 0 < length text → slice_get text 0 ≡ Some u → InMatch units u p low Nowhere
    → PassesMatch units text p low None
leaves_branch units [] p low u some g step from leads = absurd (omega (arith, some))
leaves_branch units (x ∷ text) p low u some g step from leads =
    let same : x ≡ u = cc in nowhere_has_none units from x text (rw same (leads u Nowhere step))
