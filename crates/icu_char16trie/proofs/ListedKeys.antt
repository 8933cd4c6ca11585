-- The value of a key, and the entries of a map that have the key.
use Rattle.std.proofs.Common.{◌≡◌, ℕ, ℤ, ◌&&◌, ◌⊎◌, inl, inr, Bool, true, false, cond, nat_eq, List, [], ◌∷◌, Some, None, refl, sym, ap, subst, ◌∙◌, arith, eqb-true, eq-eqb}
use Rattle.std.specs.List.{Contains}
use Rattle.std.proofs.lemmas.List.Elements.{Contains-append_cases, Contains-append_left, Contains-append_right, Contains-push, Contains-push_cases}
use Rattle.icu_char16trie.specs.UnitMap.{UnitMap, value_of, same_key, KeyBelow, KeyBelowAll, IsAscendingKeys}

-- ---- the same key

pub same_key_self : (a : List ℕ) → same_key a a ≡ true
unfolding same_key
same_key_self [] = refl
same_key_self (x ∷ a) = let yes : nat_eq x x ≡ true = eq-eqb x x refl in rw yes (same_key_self a)

pub same_key_eq : (a b : List ℕ) → same_key a b ≡ true → a ≡ b
unfolding same_key
same_key_eq [] [] h = refl
same_key_eq [] (y ∷ b) h = cc
same_key_eq (x ∷ a) [] h = cc
same_key_eq (x ∷ a) (y ∷ b) h =
    let p = and_both (nat_eq x y) (same_key a b) h in
    ap (λ z. z ∷ a) (eqb-true x y p.0) ∙ ap (λ z. y ∷ z) (same_key_eq a b p.1)
  where
    and_both : (p q : Bool) → (p && q) ≡ true → (p ≡ true) × (q ≡ true)
    and_both true q h = (refl, h)
    and_both false q h = cc

pub below_itself : (a : List ℕ) → KeyBelow a a → ⊥
below_itself [] h = h
below_itself (x ∷ a) (inl h) = absurd (omega (arith, h))
below_itself (x ∷ a) (inr h) = below_itself a h.1

-- ---- entries

entry_by : (e : List ℕ × ℤ) (m : UnitMap) (w : List ℕ) (v : ℤ) → (value_of m w ≡ Some v → Contains m (w, v)) → (b : Bool)
    → same_key e.0 w ≡ b → cond b (Some e.1) (value_of m w) ≡ Some v → Contains (e ∷ m) (w, v)
entry_by e m w v others true s g =
    let key : e.0 ≡ w = same_key_eq e.0 w s in
    let value : e.1 ≡ v = cc in
    let is : ◌≡◌ {A = List ℕ × ℤ} e (w, v) = ap (λ z. (z, e.1)) key ∙ ap (λ z. (w, z)) value in
    subst (λ z. Contains (e ∷ m) z) is (Contains-append_left (e ∷ []) m e (Contains-push [] e))
entry_by e m w v others false s g = Contains-append_right (e ∷ []) m (w, v) (others g)

-- The value of a key is that of an entry with the key.
pub Contains-value_of : (m : UnitMap) (w : List ℕ) (v : ℤ) → value_of m w ≡ Some v → Contains m (w, v)
unfolding value_of
Contains-value_of [] w v h = cc
Contains-value_of (e ∷ m) w v h = entry_by e m w v (Contains-value_of m w v) (same_key e.0 w) refl h

only : (e x : List ℕ × ℤ) → Contains (e ∷ []) x → e ≡ x
only e x h = which (Contains-push_cases [] e x h)
  where
    which : Contains [] x ⊎ (e ≡ x) → e ≡ x
    which (inl none) = absurd (omega (arith, none.1))
    which (inr is) = is

has_by : (e : List ℕ × ℤ) (m : UnitMap) (w : List ℕ) (v : ℤ) → (Contains m (w, v) → value_of m w ≡ None → ⊥)
    → Contains (e ∷ []) (w, v) ⊎ Contains m (w, v) → (b : Bool) → same_key e.0 w ≡ b → cond b (Some e.1) (value_of m w) ≡ None → ⊥
has_by e m w v others which true s g = cc
has_by e m w v others (inl one) false s g =
    let is : ◌≡◌ {A = List ℕ × ℤ} e (w, v) = only e (w, v) one in
    let key : e.0 ≡ w = ap (λ z. z.0) is in
    let yes : same_key e.0 w ≡ true = subst (λ z. same_key z w ≡ true) (sym key) (same_key_self w) in cc
has_by e m w v others (inr rest) false s g = others rest g

-- A key with an entry has a value.
pub value_of-some : (m : UnitMap) (w : List ℕ) (v : ℤ) → Contains m (w, v) → value_of m w ≡ None → ⊥
unfolding value_of
value_of-some [] w v h n = absurd (omega (arith, h.1))
value_of-some (e ∷ m) w v h n =
    has_by e m w v (value_of-some m w v) (Contains-append_cases (e ∷ []) m (w, v) h) (same_key e.0 w) refl n

below_by : (key : List ℕ) (e : List ℕ × ℤ) (m : UnitMap) (w : List ℕ) (v : ℤ) → KeyBelow key e.0
    → (Contains m (w, v) → KeyBelow key w) → Contains (e ∷ []) (w, v) ⊎ Contains m (w, v) → KeyBelow key w
below_by key e m w v first others (inl one) = subst (λ z. KeyBelow key z) (ap (λ z. z.0) (only e (w, v) one)) first
below_by key e m w v first others (inr rest) = others rest

below_listed : (key : List ℕ) (m : UnitMap) (w : List ℕ) (v : ℤ) → KeyBelowAll key m → Contains m (w, v) → KeyBelow key w
below_listed key [] w v h c = absurd (omega (arith, c.1))
below_listed key (e ∷ m) w v h c =
    below_by key e m w v h.0 (below_listed key m w v h.1) (Contains-append_cases (e ∷ []) m (w, v) c)

its_by : (e : List ℕ × ℤ) (m : UnitMap) (w : List ℕ) (v : ℤ) → KeyBelowAll e.0 m → (Contains m (w, v) → value_of m w ≡ Some v)
    → Contains (e ∷ []) (w, v) ⊎ Contains m (w, v) → (b : Bool) → same_key e.0 w ≡ b → cond b (Some e.1) (value_of m w) ≡ Some v
its_by e m w v up others (inl one) true s =
    let is : ◌≡◌ {A = List ℕ × ℤ} e (w, v) = only e (w, v) one in ap (λ z. Some z.1) is
its_by e m w v up others (inl one) false s =
    let is : ◌≡◌ {A = List ℕ × ℤ} e (w, v) = only e (w, v) one in
    let key : e.0 ≡ w = ap (λ z. z.0) is in
    let yes : same_key e.0 w ≡ true = subst (λ z. same_key z w ≡ true) (sym key) (same_key_self w) in absurd (cc)
its_by e m w v up others (inr rest) true s =
    let key : e.0 ≡ w = same_key_eq e.0 w s in
    absurd (below_itself w (subst (λ z. KeyBelow z w) key (below_listed e.0 m w v up rest)))
its_by e m w v up others (inr rest) false s = others rest

-- If the keys ascend, each entry has the value of its key.
pub value_of-listed : (m : UnitMap) (w : List ℕ) (v : ℤ) → IsAscendingKeys m → Contains m (w, v) → value_of m w ≡ Some v
unfolding value_of
value_of-listed [] w v up h = absurd (omega (arith, h.1))
value_of-listed (e ∷ m) w v up h =
    its_by e m w v up.0 (value_of-listed m w v up.1) (Contains-append_cases (e ∷ []) m (w, v) h) (same_key e.0 w) refl
