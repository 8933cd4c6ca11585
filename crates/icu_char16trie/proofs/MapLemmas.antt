-- Lemmas on maps as lists of entries.
use Rattle.std.proofs.Common.{◌≡◌, ℕ, ℤ, true, false, cond, ◌||◌, ◌&&◌, nat_eq, List, [], ◌∷◌, ◌++◌, Some, None, refl, sym, ap, ◌∙◌, arith}
use Rattle.icu_char16trie.specs.UnitMap.{UnitMap, under, after, after_all, value_of, same_key, goes_on, key_goes_on}

pub same_eqb : (u : ℕ) → nat_eq u u ≡ true
same_eqb u = grind arith

-- If u is put before all keys, the entries whose keys start with u are all of them.
pub after_under : (u : ℕ) (m : List (List ℕ × ℤ)) → after u (under (u ∷ []) m) ≡ m
unfolding after
after_under u [] = refl
after_under u (e ∷ m) = rw (same_eqb u) (ap (λ t. e ∷ t) (after_under u m))

pub after_under_other : (x u : ℕ) (m : List (List ℕ × ℤ)) → nat_eq x u ≡ false → after u (under (x ∷ []) m) ≡ []
unfolding after
after_under_other x u [] h = refl
after_under_other x u (e ∷ m) h = rw h (after_under_other x u m h)

pub after_append : (u : ℕ) (m n : List (List ℕ × ℤ)) → after u (m ++ n) ≡ after u m ++ after u n
unfolding after
after_append u [] n = refl
after_append u (([], v) ∷ m) n = after_append u m n
after_append u ((x ∷ key, v) ∷ m) n =
    rw (after_append u m n)
    (elim (nat_eq x u) as (λ b. cond b ((key, v) ∷ (after u m ++ after u n)) (after u m ++ after u n) ≡ cond b ((key, v) ∷ after u m)
    (after u m) ++ after u n) [ true ↦ refl | false ↦ refl ])

-- A value is looked up one unit at a time.
pub value_after : (u : ℕ) (w : List ℕ) (m : List (List ℕ × ℤ)) → value_of m (u ∷ w) ≡ value_of (after u m) w
unfolding after value_of same_key
value_after u w [] = refl
value_after u w (([], v) ∷ m) = value_after u w m
value_after u w ((x ∷ key, v) ∷ m) =
    elim (nat_eq x u) as (λ b. cond (b && same_key key w) (Some v)
    (value_of m (u ∷ w)) ≡ value_of (cond b ((key, v) ∷ after u m) (after u m)) w)
    [ true ↦ ap (cond (same_key key w) (Some v)) (value_after u w m) | false ↦ value_after u w m ]

pub value_after_all : (w : List ℕ) (m : List (List ℕ × ℤ)) → value_of m w ≡ value_of (after_all w m) []
unfolding after_all
value_after_all [] m = refl
value_after_all (u ∷ w) m = value_after u w m ∙ value_after_all w (after u m)

pub goes_on_after : (u : ℕ) (w : List ℕ) (m : List (List ℕ × ℤ)) → goes_on m (u ∷ w) ≡ goes_on (after u m) w
unfolding after goes_on key_goes_on
goes_on_after u w [] = refl
goes_on_after u w (([], v) ∷ m) = goes_on_after u w m
goes_on_after u w ((x ∷ key, v) ∷ m) =
    elim (nat_eq x u) as (λ b. ((b && key_goes_on key w) || goes_on m (u ∷ w)) ≡ goes_on (cond b ((key, v) ∷ after u m) (after u m)) w)
    [ true ↦ ap (λ t. key_goes_on key w || t) (goes_on_after u w m) | false ↦ goes_on_after u w m ]

pub goes_on_after_all : (w : List ℕ) (m : List (List ℕ × ℤ)) → goes_on m w ≡ goes_on (after_all w m) []
unfolding after_all
goes_on_after_all [] m = refl
goes_on_after_all (u ∷ w) m = goes_on_after u w m ∙ goes_on_after_all w (after u m)

pub after_all_push : (w : List ℕ) (u : ℕ) (m : List (List ℕ × ℤ)) → after_all (w ++ u ∷ []) m ≡ after u (after_all w m)
unfolding after_all
after_all_push [] u m = refl
after_all_push (x ∷ w) u m = after_all_push w u (after x m)

nothing_after : (u : ℕ) (m : UnitMap) → goes_on m [] ≡ false → after u m ≡ []
unfolding after goes_on key_goes_on
nothing_after u [] h = refl
nothing_after u (([], v) ∷ m) h = nothing_after u m h
nothing_after u ((x ∷ key, v) ∷ m) h = cc

after_all_append : (w v : List ℕ) (m : UnitMap) → after_all (w ++ v) m ≡ after_all v (after_all w m)
unfolding after_all
after_all_append [] v m = refl
after_all_append (x ∷ w) v m = after_all_append w v (after x m)

value_beyond : (m : UnitMap) (w v : List ℕ) → value_of m (w ++ v) ≡ value_of (after_all w m) v
value_beyond m w v =
    value_after_all (w ++ v) m ∙ ap (λ z. value_of z []) (after_all_append w v m) ∙ sym (value_after_all v (after_all w m))

-- If no key continues after some units, no longer key has a value.
pub none_beyond : (m : UnitMap) (w : List ℕ) (u : ℕ) (more : List ℕ) → goes_on m w ≡ false → value_of m (w ++ (u ∷ more)) ≡ None
unfolding value_of
none_beyond m w u more h =
    value_beyond m w (u ∷ more) ∙ value_after u more (after_all w m)
    ∙ ap (λ z. value_of z more) (nothing_after u (after_all w m) (sym (goes_on_after_all w m) ∙ h))
