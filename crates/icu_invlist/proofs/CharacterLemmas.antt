-- The iteration over the characters of a set.
use Rattle.std.proofs.Common.{◌≡◌, ℕ, ◌+◌, ◌-◌, ◌<◌, List, [], ◌∷◌, ◌++◌, refl, ap, sym, ◌∙◌, append-nil, append_assoc, length, arith, rules, zero, suc, ◌≤◌, ◌⊎◌, inl, inr, true, false, Option, Some, None}
use Rattle.std.specs.List.{filter, range_with_len}
use Rattle.std.specs.Bool.{⊤}
use Rattle.std.specs.Char.{IsScalar, InScalarRange, OutOfScalarRange}
use Rattle.std.specs.Iterator.{MakesProgress, YieldsFirst, item_count}
use Rattle.std.specs.Option.{MatchOption, SomeIff, is_some}
use Rattle.std.proofs.Math.Utf8.{scalar, scalar_cases}
use Rattle.std.proofs.lemmas.Bool.{cases_lt, cond-true, cond-false, false≢true, true≢false, false_from_ne_true}
use Rattle.std.proofs.lemmas.List.Elements.{filter-append}
use Rattle.icu_invlist.specs.InversionList.{members}
use Rattle.icu_invlist.specs.Inside.StillGiven.{characters_left}
use Rattle.icu_invlist.proofs.HeldMembers.{no_members, more_members}

-- The characters from n to before e.
abbrev pub between_chars : ℕ → ℕ → List ℕ
between_chars n e = filter scalar (range_with_len n (e - n))

first_of : (n e : ℕ) → n < e → range_with_len n (e - n) ≡ n ∷ range_with_len (n + 1) (e - (n + 1))
first_of n e h = let k : e - n ≡ suc (e - (n + 1)) = omega arith in rw k refl

past_end : (n e : ℕ) → e ≤ n → between_chars n e ≡ []
past_end n e h = let k : e - n ≡ 0 = omega arith in rw k refl

one_passed : (n e : ℕ) → n < e → scalar n ≡ false → between_chars n e ≡ between_chars (n + 1) e
one_passed n e h s = rw (first_of n e h) (cond-false (scalar n) (n ∷ between_chars (n + 1) e) (between_chars (n + 1) e) s)

-- Numbers that are no characters, at the start.
some_passed : (d n e : ℕ) → ((k : ℕ) → n ≤ k → k < n + d → scalar k ≡ false) → between_chars n e ≡ between_chars (n + d) e
some_passed zero n e h = let k : n + 0 ≡ n = omega arith in rw k refl
some_passed (suc d) n e h = let k : n + suc d ≡ (n + 1) + d = omega arith in elim (cases_lt n e) [
  | inl l ↦ one_passed n e l (h n (omega arith) (omega arith))
      ∙ (some_passed d (n + 1) e (λ i a b. h i (omega arith) (omega arith)) ∙ rw k refl)
  | inr l ↦ rw (past_end n e l, past_end (n + suc d) e (omega arith)) refl
]

surrogate : (k : ℕ) → 0xD800 ≤ k → k < 0xE000 → scalar k ≡ false
surrogate k a b = false_from_ne_true (scalar k) (λ t. elim (scalar_cases k t) [ inl l ↦ omega arith | inr r ↦ omega (arith, r.0) ])

too_far : (k : ℕ) → 0x110000 ≤ k → scalar k ≡ false
too_far k a = false_from_ne_true (scalar k) (λ t. elim (scalar_cases k t) [ inl l ↦ omega arith | inr r ↦ omega (arith, r.1) ])

none_from : (n e : ℕ) → 0x110000 ≤ n → between_chars n e ≡ []
none_from n e h = some_passed (e - n) n e (λ k a b. too_far k (omega arith)) ∙ past_end (n + (e - n)) e (omega arith)

-- From n, which is no character, to m: the first number after the surrogates, or n itself.
abbrev pub Moved : ℕ → ℕ → Type 0
Moved n m = ((n < 0xE000) × (m ≡ 0xE000)) ⊎ ((0xE000 ≤ n) × (m ≡ n))

pub moved_past : (n m e : ℕ) → OutOfScalarRange n → Moved n m → between_chars n e ≡ between_chars m e
moved_past n m e o (inl w) = elim o [
  | inl r ↦ let k : n + (0xE000 - n) ≡ m = omega (arith, w.0, w.1) in
      some_passed (0xE000 - n) n e (λ i a b. surrogate i (omega (arith, r.0)) (omega (arith, w.0))) ∙ rw k refl
  | inr f ↦ absurd (omega (arith, w.0))
]
moved_past n m e o (inr w) = rw w.1 refl

-- No character is left.
pub none_left : (n m e : ℕ) → between_chars n e ≡ between_chars m e → e ≤ m → (between_chars n e ≡ []) × (between_chars m e ≡ [])
none_left n m e p h = let z = past_end m e h in (p ∙ z, z)

-- One number was read. If it is a character, that is the first of those that are left.
pub char_found : (first n e : ℕ) (r : Option ℕ) → between_chars first e ≡ between_chars n e → n < e → SomeIff r (IsScalar n) n
    → is_some r ≡ true
    → MatchOption r ((between_chars first e ≡ []) × (between_chars (n + 1) e ≡ []))
    (λ c. between_chars first e ≡ c ∷ between_chars (n + 1) e)
char_found first n e None p h s t = absurd (false≢true t)
char_found first n e (Some c) p h s t = p ∙ rw (first_of n e h, s.1)
    (cond-true (scalar n) (n ∷ between_chars (n + 1) e) (between_chars (n + 1) e) s.0)

pub none_read : (n : ℕ) (r : Option ℕ) → MatchOption r (OutOfScalarRange n) (λ _. InScalarRange n) → is_some r ≡ false → OutOfScalarRange n
none_read n None o t = o
none_read n (Some c) o t = absurd (true≢false t)

pub char_or_none : (first n e : ℕ) (r : Option ℕ) → between_chars first e ≡ between_chars n e → 0xE000 ≤ n → n < e
    → SomeIff r (IsScalar n) n → MatchOption r (OutOfScalarRange n) (λ _. InScalarRange n)
    → MatchOption r ((between_chars first e ≡ []) × (between_chars (n + 1) e ≡ []))
    (λ c. between_chars first e ≡ c ∷ between_chars (n + 1) e)
char_or_none first n e None p f h s o = elim o [
  | inl r ↦ absurd (omega (arith, r.1))
  | inr k ↦ (p ∙ none_from n e k, none_from (n + 1) e (omega arith))
]
char_or_none first n e (Some c) p f h s o = char_found first n e (Some c) p h s refl

-- ---- what is left, range by range
pub members-one : (s : ℕ) → members (s ∷ []) ≡ []
unfolding members
members-one s = refl

-- Those of the ranges that have not begun, and of the last one.
abbrev pub later_chars : List ℕ → ℕ → ℕ → List ℕ
later_chars ends s f = filter scalar (members ends) ++ between_chars s f

pub left_is : (n e : ℕ) (ends : List ℕ) (s f : ℕ) → characters_left n e ends s f ≡ between_chars n e ++ later_chars ends s f
left_is n e ends s f = filter-append scalar (range_with_len n (e - n)) (members ends ++ range_with_len s (f - s))
    ∙ rw (filter-append scalar (members ends) (range_with_len s (f - s))) refl

-- The result of one search in a range.
abbrev pub Taken : ℕ → ℕ → ℕ → Option ℕ → Type 0
Taken n m e r = MatchOption r ((between_chars n e ≡ []) × (between_chars m e ≡ [])) (λ c. between_chars n e ≡ c ∷ between_chars m e)

none_taken : (n m e : ℕ) (r : Option ℕ) → Taken n m e r → false ≡ is_some r → (between_chars n e ≡ []) × (between_chars m e ≡ [])
none_taken n m e None t h = t
none_taken n m e (Some c) t h = absurd (false≢true h)

-- A character was found.
pub left_found : (n m e : ℕ) (ends : List ℕ) (s f : ℕ) (r : Option ℕ) → Taken n m e r → true ≡ is_some r
    → YieldsFirst (λ (xs : List ℕ). xs) (characters_left n e ends s f) r (characters_left m e ends s f)
left_found n m e ends s f None t h = absurd (true≢false h)
left_found n m e ends s f (Some c) t h = left_is n e ends s f ∙ rw (t, left_is m e ends s f) refl

-- One item less is left.
pub found_goes : (xs ys : List ℕ) (r : Option ℕ) → YieldsFirst (λ (xs : List ℕ). xs) xs r ys
    → true ≡ is_some r → MakesProgress (λ (xs : List ℕ). ⊤) (item_count (λ (xs : List ℕ). xs)) xs r ys
found_goes xs ys None t h = absurd (true≢false h)
found_goes xs ys (Some c) t h = let e = ap length t in search rules

-- No range is left if the next two boundaries are not both there.
pub none_later : (xs ys zs : List ℕ) (p q : Option ℕ) → YieldsFirst (λ (xs : List ℕ). xs) xs p ys → YieldsFirst (λ (xs : List ℕ). xs) ys q zs
    → (p ≡ None) ⊎ (q ≡ None) → (members xs ≡ []) × (zs ≡ [])
none_later xs ys zs None None u v h = (rw u.0 no_members, v.1)
none_later xs ys zs None (Some f) u v h = let n : 0 ≡ suc (length zs) = ap length (sym u.1 ∙ v) in absurd (omega (arith, n))
none_later xs ys zs (Some s) None u v h = (rw (u, v.0) (members-one s), v.1)
none_later xs ys zs (Some s) (Some f) u v (inl h) = absurd (true≢false (ap is_some h))
none_later xs ys zs (Some s) (Some f) u v (inr h) = absurd (true≢false (ap is_some h))

-- Then those of the last range are left.
pub left_last : (n m e : ℕ) (xs : List ℕ) (s f : ℕ) (r : Option ℕ) → Taken n m e r → false ≡ is_some r → members xs ≡ []
    → characters_left n e xs s f ≡ between_chars s f
left_last n m e xs s f r t h k = left_is n e xs s f ∙ rw ((none_taken n m e r t h).0, k) refl

pub left_end : (n m e : ℕ) (xs zs : List ℕ) (s f : ℕ) (r : Option ℕ) → Taken n m e r → false ≡ is_some r → (members xs ≡ []) × (zs ≡ [])
    → f ≤ s → (characters_left n e xs s f ≡ []) × (characters_left m e zs s f ≡ [])
left_end n m e xs zs s f r t h k l = (
  left_last n m e xs s f r t h k.0 ∙ past_end s f l,
  left_is m e zs s f ∙ rw ((none_taken n m e r t h).1, k.1, no_members, past_end s f l) refl,
)

pub last_begun : (n m e : ℕ) (xs zs : List ℕ) (s f : ℕ) (r : Option ℕ) (last : ℕ × ℕ) → Taken n m e r → false ≡ is_some r
    → (members xs ≡ []) × (zs ≡ []) → (last.0 ≡ 0) × (last.1 ≡ 0) → characters_left n e xs s f ≡ characters_left s f zs last.0 last.1
last_begun n m e xs zs s f r last t h k l = left_last n m e xs s f r t h k.0
    ∙ sym (left_is s f zs last.0 last.1 ∙ rw (k.1, no_members, l.0, l.1) (append-nil (between_chars s f)))

pub next_begun : (n m e a b : ℕ) (xs ys zs : List ℕ) (s f : ℕ) (r : Option ℕ) → Taken n m e r → false ≡ is_some r
    → xs ≡ a ∷ ys → ys ≡ b ∷ zs → characters_left n e xs s f ≡ characters_left a b zs s f
next_begun n m e a b xs ys zs s f r t h k l = left_is n e xs s f
    ∙ (rw ((none_taken n m e r t h).0, k, l, more_members a b zs, filter-append scalar (range_with_len a (b - a)) (members zs))
    (append_assoc (between_chars a b) (filter scalar (members zs)) (between_chars s f)) ∙ sym (left_is a b zs s f))
