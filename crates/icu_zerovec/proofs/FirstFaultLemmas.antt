-- Reading items one after another, as a loop does.
use Rattle.std.proofs.Common.{◌≡◌, ℕ, ◌+◌, ◌<◌, ◌≤◌, List, [], ◌∷◌, ◌++◌, Result, Ok, Err, refl, sym, ap, ◌∙◌, length, get_or, drop, drop-cons, append_assoc, append-nil, add-one, map}
use Rattle.std.proofs.lemmas.List.{drop_all}
use Rattle.icu_zerovec.specs.FirstFault.{before, read_from}

-- A prefix, followed by what is read.
abbrev pub with_front : {B F : Type 0} → List B → Result (List B) F → Result (List B) F
with_front front (Ok xs) = Ok (front ++ xs)
with_front front (Err e) = Err e

here : {C : Type 0} (vs : List C) (i : ℕ) (x : C) → i < length vs → x ≡ get_or vs i x → drop i vs ≡ x ∷ drop (i + 1) vs
here vs i x h e = rw (drop-cons vs i x h, ← e, add-one) refl

unfold_read : {A B F : Type 0} (read : ℕ → A → Result B F) (i : ℕ) (x : A) (xs : List A)
    → read_from read i (x ∷ xs) ≡ before (read i x) (read_from read (i + 1) xs)
unfolding read_from
unfold_read read i x xs = refl

at_item : {A B C F : Type 0} (read : ℕ → A → Result B F) (p : C → A) (vs : List C) (i : ℕ) (x : C) (r : Result B F) → i < length vs
    → x ≡ get_or vs i x → read i (p x) ≡ r
    → read_from read i (map p (drop i vs)) ≡ before r (read_from read (i + 1) (map p (drop (i + 1) vs)))
at_item read p vs i x r h e u =
    ap (λ z. read_from read i (map p z)) (here vs i x h e) ∙ unfold_read read i (p x) (map p (drop (i + 1) vs))
    ∙ ap (λ z. before z (read_from read (i + 1) (map p (drop (i + 1) vs)))) u

one_more : {B F : Type 0} (front : List B) (u : B) (r : Result (List B) F)
    → with_front (front ++ u ∷ []) r ≡ with_front front (before (Ok u) r)
one_more front u (Ok xs) = ap (λ z. Ok z) (append_assoc front (u ∷ []) xs)
one_more front u (Err e) = refl

-- An item with a fault.
pub stops : {A B C F : Type 0} (read : ℕ → A → Result B F) (p : C → A) (vs : List C) (i : ℕ) (x : C) (front : List B)
    (whole : Result (List B) F) (f : F) → i < length vs → x ≡ get_or vs i x
    → with_front front (read_from read i (map p (drop i vs))) ≡ whole → read i (p x) ≡ Err f → whole ≡ Err f
stops read p vs i x front whole f h e w n = sym w ∙ ap (with_front front) (at_item read p vs i x (Err f) h e n)

-- An item without a fault.
pub goes_on : {A B C F : Type 0} (read : ℕ → A → Result B F) (p : C → A) (vs : List C) (i : ℕ) (x : C) (front front' : List B)
    (whole : Result (List B) F) (u : B) → i < length vs → x ≡ get_or vs i x
    → with_front front (read_from read i (map p (drop i vs))) ≡ whole → read i (p x) ≡ Ok u → front' ≡ front ++ u ∷ []
    → with_front front' (read_from read (i + 1) (map p (drop (i + 1) vs))) ≡ whole
goes_on read p vs i x front front' whole u h e w n f =
    ap (λ z. with_front z (read_from read (i + 1) (map p (drop (i + 1) vs)))) f
    ∙ one_more front u (read_from read (i + 1) (map p (drop (i + 1) vs)))
    ∙ ap (with_front front) (sym (at_item read p vs i x (Ok u) h e n)) ∙ w

pub at_end : {A B C F : Type 0} (read : ℕ → A → Result B F) (p : C → A) (vs : List C) (i : ℕ) (front : List B) (whole : Result (List B) F)
    → length vs ≤ i
    → with_front front (read_from read i (map p (drop i vs))) ≡ whole → whole ≡ Ok front
unfolding read_from
at_end read p vs i front whole h w =
    let none : drop i vs ≡ [] = drop_all i vs h in
    sym w ∙ ap (λ z. with_front front (read_from read i (map p z))) none ∙ ap (λ z. Ok z) (append-nil front)

-- Before anything was read.
pub at_start : {B F : Type 0} (r : Result (List B) F) → with_front [] r ≡ r
at_start (Ok xs) = refl
at_start (Err e) = refl
