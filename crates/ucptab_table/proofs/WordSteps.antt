-- The words of the program, as what they ask for.
use Rattle.std.proofs.Common.{◌≡◌, ℕ, ◌≤◌, suc, Bool, true, false, ◌&&◌, List, [], ◌∷◌, length, get_or, drop, map, Option, Some, None, refl, ap, arith}
use Rattle.std.specs.Prelude.{is_some}
use Rattle.std.specs.List.{list_all, filter_map, cons_option}
use Rattle.std.proofs.lemmas.List.Folds.{list_all-map}
use Rattle.ucptab_table.specs.TableText.{hexadecimal}
use Rattle.ucptab_table.specs.Words.{arguments_of, arguments, trie_type_of, value_of, asked_of}

module _ {X Y : Type 0} (h : X → Option Y) where
  some_kept : (o : Option Y) (others : Bool) (ys : List Y) (n : ℕ) → (others ≡ true → length ys ≡ n) → (is_some o && others) ≡ true
      → length (cons_option o ys) ≡ suc n
  some_kept None others ys n step all = cc
  some_kept (Some y) others ys n step all = ap suc (step all)

  -- where each element gives one, none is left out
  pub length-filter_map : (xs : List X) → list_all (λ x. is_some (h x)) xs ≡ true → length (filter_map h xs) ≡ length xs
  length-filter_map [] all = refl
  length-filter_map (x ∷ xs) all = some_kept (h x) (list_all (λ y. is_some (h y)) xs) (filter_map h xs) (length xs)
      (λ rest. length-filter_map xs rest) all

  pub filter_map-map : {Z : Type 0} (g : Z → X) (zs : List Z) → filter_map h (map g zs) ≡ filter_map (λ z. h (g z)) zs
  filter_map-map g [] = refl
  filter_map-map g (z ∷ zs) = ap (cons_option (h (g z))) (filter_map-map g zs)

module _ {X : Type 0} (bytes : X → List ℕ) where
  -- The numbers of the words if each word is a number, and none if one is not.
  pub asked_of_all : (words : List X) → list_all (λ word. is_some (hexadecimal (bytes word))) words ≡ true
      → asked_of (map bytes words) ≡ Some (filter_map (λ word. hexadecimal (bytes word)) words)
  unfolding asked_of
  asked_of_all words all = rw (list_all-map, all, filter_map-map) refl

  pub asked_of_some : (words : List X) → list_all (λ word. is_some (hexadecimal (bytes word))) words ≡ false
      → asked_of (map bytes words) ≡ None
  unfolding asked_of
  asked_of_some words some = rw (list_all-map, some) refl

  -- the first three words, and those after them
  pub three_words : (words : List X) (kind default error : X) → 3 ≤ length words → kind ≡ get_or words 0 kind
      → default ≡ get_or words 1 default → error ≡ get_or words 2 error
      → arguments_of (map bytes words) ≡ arguments (trie_type_of (bytes kind)) (value_of (bytes default)) (value_of (bytes error))
      (asked_of (map bytes (drop 3 words)))
  unfolding arguments_of
  three_words [] kind default error three k d e = absurd (omega arith)
  three_words (a ∷ []) kind default error three k d e = absurd (omega arith)
  three_words (a ∷ b ∷ []) kind default error three k d e = absurd (omega arith)
  three_words (a ∷ b ∷ c ∷ words) kind default error three k d e = cc
