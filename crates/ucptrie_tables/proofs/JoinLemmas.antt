-- A join, run by run.
use Rattle.std.proofs.Common.{◌≡◌, ◌≢◌, ℕ, zero, suc, ◌+◌, ◌<◌, ◌≤◌, ◌∙◌, ◌++◌, ◌∷◌, ◌⊎◌, [], List, Bool, true, false, Option, Some, None, length, length-append, slice_get, refl, sym, ap, arith, inl, inr}
use Rattle.std.proofs.lemmas.Bool.{cases_lt}
use Rattle.std.proofs.lemmas.Bool.Decides.{nat_tests}
use Rattle.std.proofs.lemmas.Option.{slice_get_within}
use Rattle.icu_trie_builder.specs.Writes.{covers, last_written, write_first, write_last, write_value}
use Rattle.icu_trie_builder.specs.declared.writes.Write.{Write}
use Rattle.ucptrie_tables.specs.Joins.{row_at, IsJoinTo, IsNew, IsNumbered}
use Rattle.ucptrie_tables.specs.declared.table.Table.{Table}

-- ---- A write behind others

last-inside : (ws : List (Write ℕ)) (w : Write ℕ) (c : ℕ) → covers w c ≡ true → last_written (ws ++ w ∷ []) c ≡ Some (write_value w)
last-inside [] w c h = rw h refl
last-inside (v ∷ ws) w c h = rw (last-inside ws w c h) refl

last-outside : (ws : List (Write ℕ)) (w : Write ℕ) (c : ℕ) → covers w c ≡ false → last_written (ws ++ w ∷ []) c ≡ last_written ws c
last-outside [] w c h = rw h refl
last-outside (v ∷ ws) w c h = rw (last-outside ws w c h) refl

covered : (w : Write ℕ) (s e c : ℕ) → write_first w ≡ s → write_last w + 1 ≡ e → e ≤ 0x110000 → s ≤ c → c < e → covers w c ≡ true
covered w s e c first last within from below = grind (arith, nat_tests)

uncovered : (w : Write ℕ) (s c : ℕ) → write_first w ≡ s → c < s → covers w c ≡ false
uncovered w s c first below = grind (arith, nat_tests)

-- ---- An element behind others

got-left : (xs : List ℕ) (x i f : ℕ) → slice_get xs i ≡ Some f → slice_get (xs ++ x ∷ []) i ≡ Some f
got-left [] x i f h = absurd (cc)
got-left (y ∷ xs) x zero f h = h
got-left (y ∷ xs) x (suc i) f h = got-left xs x i f h

pub got-last : (xs : List ℕ) (x : ℕ) → slice_get (xs ++ x ∷ []) (length xs) ≡ Some x
got-last [] x = refl
got-last (y ∷ xs) x = got-last xs x

got-cases : (xs : List ℕ) (x i f : ℕ) → slice_get (xs ++ x ∷ []) i ≡ Some f
    → (slice_get xs i ≡ Some f) ⊎ ((i ≡ length xs) × (f ≡ x))
got-cases [] x zero f h = inr (refl, cc)
got-cases [] x (suc i) f h = absurd (cc)
got-cases (y ∷ xs) x zero f h = inl h
got-cases (y ∷ xs) x (suc i) f h = elim (got-cases xs x i f h) [ inl a ↦ inl a | inr b ↦ inr (ap suc b.0, b.1) ]

-- ---- One more run

module _ (columns : List Table) where
  module _ (s e n : ℕ) (firsts all : List ℕ) (ws : List (Write ℕ)) (w : Write ℕ)
      (first : write_first w ≡ s) (last : write_last w + 1 ≡ e) (some : s < e) (within : e ≤ 0x110000)
      (is : write_value w ≡ n) (run : (u : ℕ) → s ≤ u → u < e → row_at columns u ≡ row_at columns s)
      (numbered : IsNumbered columns firsts s all n) (h : IsJoinTo columns s firsts ws) where
    kept : (i f : ℕ) → slice_get firsts i ≡ Some f → slice_get all i ≡ Some f
    kept i f a = elim numbered.list [ inl same ↦ rw same a | inr new ↦ rw new.0 (got-left firsts s i f a) ]

    old : (i f : ℕ) → slice_get all i ≡ Some f → (slice_get firsts i ≡ Some f) ⊎ ((i ≡ n) × ((f ≡ s) × ((n ≡ length firsts) × IsNew columns firsts s)))
    old i f a = elim numbered.list [
      | inl same ↦ inl (rw (sym same) a)
      | inr new ↦ elim (got-cases firsts s i f (rw (sym new.0) a)) [
        | inl b ↦ inl b
        | inr b ↦ inr (b.0 ∙ sym new.1.0, (b.1, (new.1.0, new.1.1)))
      ]
    ]

    before : (u : ℕ) → u < s → last_written (ws ++ w ∷ []) u ≡ last_written ws u
    before u below = last-outside ws w u (uncovered w s u first below)

    here : (u : ℕ) → s ≤ u → u < e → last_written (ws ++ w ∷ []) u ≡ Some n
    here u from below = last-inside ws w u (covered w s e u first last within from below) ∙ ap Some is

    -- a number that was given before is one of a combination of before
    smaller : (u m : ℕ) → u < s → last_written ws u ≡ Some m → m < length firsts
    smaller u m below a =
        let v = h.values u below in
        let same : v.0 ≡ m = cc in
        rw (sym same) (slice_get_within firsts v.0 v.1.1.0 v.1.1.1.0)

    pub numbered-count : length firsts ≤ s → length all ≤ e
    numbered-count few = elim numbered.list [
      | inl same ↦ rw same (omega (arith, few, some))
      | inr new ↦ rw (new.0, length-append firsts (s ∷ [])) (omega (arith, few, some))
    ]

    pub join-more : IsJoinTo columns e all (ws ++ w ∷ [])
    join-more = record {
      values = λ u below. elim (cases_lt u s) [
        | inl earlier ↦
            let v = h.values u earlier in
            (v.0, (before u earlier ∙ v.1.0, (v.1.1.0, (kept v.0 v.1.1.0 v.1.1.1.0, v.1.1.1.1))))
        | inr from ↦ (n, (here u from below, (numbered.first, (numbered.at, numbered.same ∙ sym (run u from below)))))
      ];
      apart = λ i j f g a b same. elim (old i f a) [
        | inl x ↦ elim (old j g b) [
          | inl y ↦ h.apart i j f g x y same
          | inr y ↦ absurd (y.1.1.1 i f x (rw y.1.0 at same))
        ]
        | inr x ↦ elim (old j g b) [
          | inl y ↦ absurd (x.1.1.1 j g y (rw x.1.0 at (sym same)))
          | inr y ↦ x.0 ∙ sym y.0
        ]
      ];
      occurs = λ i f a. elim (old i f a) [
        | inl x ↦
            let o = h.occurs i f x in
            (omega (arith, o.0, some), before f o.0 ∙ o.1)
        | inr x ↦ rw (x.0, x.1.0) (some, here s (omega arith) some)
      ];
      ordered = λ i f u m a below is_m. elim (old i f a) [
        | inl x ↦
            let o = h.occurs i f x in
            h.ordered i f u m x below (sym (before u (omega (arith, below, o.0))) ∙ is_m)
        | inr x ↦
            let earlier : u < s = rw x.1.0 at below in
            let less = smaller u m earlier (sym (before u earlier) ∙ is_m) in
            omega (arith, less, x.0, x.1.1.0)
      ];
    }
