-- The cells of an array as numbers.
use Rattle.std.proofs.Common.{◌≡◌, ℕ, List, [], ◌∷◌, map, refl, ap}

-- the numbers of numbers
pub map-self : (xs : List ℕ) → map (λ x. x) xs ≡ xs
map-self [] = refl
map-self (x ∷ xs) = ap (λ t. x ∷ t) (map-self xs)
