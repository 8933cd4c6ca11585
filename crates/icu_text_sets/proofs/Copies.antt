-- Copying strings one after another.
use Rattle.std.proofs.Common.{◌≡◌, ℕ, ◌+◌, ◌<◌, ◌≤◌, List, [], ◌∷◌, ◌++◌, refl, sym, ap, ◌∙◌, length, get_or, drop, drop-cons, append_assoc, append-nil, add-one, String, Global}
use Rattle.std.proofs.lemmas.List.{drop_all}

-- The results of g for the strings from i on follow the results so far, and h computes the next
-- one.
pub copy_step : {Y : Type 0} (g : List (String Global) → List Y) (h : String Global → Y)
    → ((x : String Global) (xs : List (String Global)) → g (x ∷ xs) ≡ h x ∷ g xs)
    → (strings : List (String Global)) (i : ℕ) (x : String Global) (front front' whole : List Y) → i < length strings
    → x ≡ get_or strings i x
    → front ++ g (drop i strings) ≡ whole → front' ≡ front ++ h x ∷ [] → front' ++ g (drop (i + 1) strings) ≡ whole
copy_step g h c strings i x front front' whole l e w f =
    let here : drop i strings ≡ x ∷ drop (i + 1) strings = rw (drop-cons strings i x l, ← e, add-one) refl in
    ap (λ z. z ++ g (drop (i + 1) strings)) f ∙ append_assoc front (h x ∷ []) (g (drop (i + 1) strings))
    ∙ ap (λ z. front ++ z) (sym (c x (drop (i + 1) strings)) ∙ sym (ap g here)) ∙ w

pub copy_end : {Y : Type 0} (g : List (String Global) → List Y) → g [] ≡ []
    → (strings : List (String Global)) (i : ℕ) (front whole : List Y) → length strings ≤ i
    → front ++ g (drop i strings) ≡ whole → front ≡ whole
copy_end g n strings i front whole l w = sym (append-nil front) ∙ ap (λ z. front ++ z) (sym n ∙ sym (ap g (drop_all i strings l))) ∙ w
