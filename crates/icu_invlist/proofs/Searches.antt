-- How a search narrows the index of a number among boundaries.
use Rattle.std.proofs.Common.{◌≡◌, ℕ, ◌+◌, ◌-◌, ◌*◌, ◌<◌, ◌≤◌, List, length, get_or, arith, refl, ◌∙◌, Bool, true, false, inl, inr}
use Rattle.std.specs.Prelude.{IsTrue, ◌↔◌}
use Rattle.std.specs.Int.{from_bool}
use mir.Val.{bool_byte}
use Rattle.std.proofs.lemmas.Bool.{cases_lt, false≢true}
use Rattle.icu_invlist.specs.Inside.Places.{AreStepsBelow, Run, ends_below}
use Rattle.icu_invlist.proofs.RunLemmas.{ends_below-front, ends_below-more}

-- A boundary is below m if and only if it is before the index of m.
pub place_of_end : (hi : ℕ) (xs : List ℕ) (k m : ℕ) → Run 0 hi xs → k < length xs → (get_or xs k 0 < m) ↔ (k < ends_below xs m)
place_of_end hi xs k m r h = (λ l. ends_below-more 0 hi m xs r k l h, λ l. ends_below-front 0 hi m xs r k l)

abbrev Tells : Bool → ℕ → ℕ → Type 0
Tells true k p = k < p
Tells false k p = p ≤ k

told : (x : Bool) (k p : ℕ) → (IsTrue x ↔ (k < p)) → Tells x k p
told true k p h = h.0 refl
told false k p h = elim (cases_lt k p) [ inl l ↦ absurd (false≢true (h.1 l)) | inr l ↦ l ]

counted : (p low step : ℕ) (x y z : Bool) → 0 < step → low ≤ p → Tells x (low + step - 1) p → Tells y (low + 2 * step - 1) p
    → Tells z (low + 3 * step - 1) p
    → AreStepsBelow p low step (bool_byte x + bool_byte y + bool_byte z)
counted p low step true true true s f a b c = record { within = omega arith; reached = omega arith; past = inl (omega arith) }
counted p low step true true false s f a b c = record { within = omega arith; reached = omega arith; past = inr (omega arith) }
counted p low step true false false s f a b c = record { within = omega arith; reached = omega arith; past = inr (omega arith) }
counted p low step false false false s f a b c = record { within = omega arith; reached = omega arith; past = inr (omega arith) }
counted p low step true false true s f a b c = absurd (omega arith)
counted p low step false true true s f a b c = absurd (omega arith)
counted p low step false true false s f a b c = absurd (omega arith)
counted p low step false false true s f a b c = absurd (omega arith)

pub steps_counted : (p low step : ℕ) (x y z : Bool) → 0 < step → low ≤ p → (IsTrue x ↔ (low + step - 1 < p))
    → (IsTrue y ↔ (low + 2 * step - 1 < p)) → (IsTrue z ↔ (low + 3 * step - 1 < p))
    → AreStepsBelow p low step (bool_byte x + bool_byte y + bool_byte z)
steps_counted p low step x y z s f a b c = counted p low step x y z s f (told x _ p a) (told y _ p b) (told z _ p c)

is_byte : (x : Bool) → from_bool x ≡ bool_byte x
is_byte true = refl
is_byte false = refl

-- The same of results that are 1 or 0.
pub words_counted : (p low step a b d : ℕ) (x y z : Bool) → 0 < step → low ≤ p → a ≡ from_bool x → b ≡ from_bool y → d ≡ from_bool z
    → (IsTrue x ↔ (low + step - 1 < p)) → (IsTrue y ↔ (low + 2 * step - 1 < p)) → (IsTrue z ↔ (low + 3 * step - 1 < p))
    → AreStepsBelow p low step (a + b + d)
words_counted p low step a b d x y z s f k l m u v w = rw (k ∙ is_byte x, l ∙ is_byte y, m ∙ is_byte z)
    (steps_counted p low step x y z s f u v w)

-- One boundary that was compared.
pub one_counted : (p low size : ℕ) (x : Bool) → 0 < size → low ≤ p → p ≤ low + size → (IsTrue x ↔ (low < p))
    → (low + bool_byte x ≤ p) × (p ≤ low + bool_byte x + (size - 1)) × (low + bool_byte x + (size - 1) ≤ low + size)
one_counted p low size true s f t h = let k = h.0 refl in (omega arith, omega arith, omega arith)
one_counted p low size false s f t h = let k : p ≤ low = told false low p h in (omega arith, omega arith, omega arith)

-- The last two boundaries.
pub two_counted : (p low : ℕ) (x y : Bool) → low ≤ p → p ≤ low + 2 → (IsTrue x ↔ (low < p)) → (IsTrue y ↔ (low + 1 < p))
    → low + bool_byte x + bool_byte y ≡ p
two_counted p low true true f t a b = let k = a.0 refl in let m = b.0 refl in omega arith
two_counted p low true false f t a b = let k = a.0 refl in let m = told false (low + 1) p b in omega arith
two_counted p low false true f t a b = let k : p ≤ low = told false low p a in let m = b.0 refl in absurd (omega arith)
two_counted p low false false f t a b = let k : p ≤ low = told false low p a in omega arith

pub byte_small : (x : Bool) → bool_byte x ≤ 1
byte_small true = omega arith
byte_small false = omega arith
