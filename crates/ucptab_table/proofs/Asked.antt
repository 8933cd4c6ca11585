-- One more word among those whose numbers are taken.
use Rattle.std.proofs.Common.{◌≡◌, ℕ, ◌+◌, ◌<◌, List, [], ◌∷◌, ◌++◌, length, take, get_or, Option, Some, None, refl, ◌∙◌, ap}
use Rattle.std.specs.List.{filter_map}
use Rattle.std.specs.Option.{option_to_list}
use Rattle.std.proofs.lemmas.List.{take_more}
use Rattle.std.proofs.lemmas.List.Elements.{filter_map-append}

filter_map-one : {X Y : Type 0} (h : X → Option Y) (x : X) (o : Option Y) → h x ≡ o → filter_map h (x ∷ []) ≡ option_to_list o
filter_map-one h x None e = rw e refl
filter_map-one h x (Some y) e = rw e refl

pub filter_map-more : {X Y : Type 0} (h : X → Option Y) (xs : List X) (i : ℕ) (x : X) → i < length xs → get_or xs i x ≡ x
    → filter_map h (take (i + 1) xs) ≡ filter_map h (take i xs) ++ option_to_list (h x)
filter_map-more h xs i x l is =
    ap (filter_map h) (take_more xs i x l) ∙ (filter_map-append h (take i xs) (get_or xs i x ∷ [])
    ∙ ap (λ ys. filter_map h (take i xs) ++ ys) (ap (λ y. filter_map h (y ∷ [])) is ∙ filter_map-one h x (h x) refl))
