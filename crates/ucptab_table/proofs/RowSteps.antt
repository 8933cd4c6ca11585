-- One line more of the input.
use Rattle.std.proofs.Common.{◌≡◌, ℕ, zero, suc, ◌+◌, ◌-◌, ◌<◌, List, [], ◌∷◌, ◌++◌, length, get_or, take, drop, Option, Some, None, Ok, Err, refl, sym, ◌∙◌, ap, subst, arith}
use Rattle.std.specs.Prelude.{All, slice_get, option_to_list}
use Rattle.std.specs.List.{filter_map, cons_option}
use Rattle.std.specs.Str.Lines.{lines}
use Rattle.std.proofs.lemmas.List.{drop_more, take_more, take-append-drop, append-nil, length-drop}
use Rattle.std.proofs.lemmas.List.Elements.{All-push, filter_map-append}
use Rattle.icu_trie_builder.specs.declared.writes.Write.{Write}
use Rattle.ucptab_table.specs.declared.error.RowError.{RowError}
use Rattle.ucptab_table.specs.declared.error.TableError.TheVariants.{Row}
use Rattle.ucptab_table.specs.TableText.{row_of, write_of, IsFaultless, AreRows, IsFirstFault}

-- The first line that is left is the line at this index.
pub slice_get_left : (all : List (List ℕ)) (n : ℕ) (line : List ℕ) (more : List (List ℕ)) → drop n all ≡ line ∷ more
    → slice_get all n ≡ Some line
slice_get_left [] zero line more left = cc
slice_get_left [] (suc n) line more left = cc
slice_get_left (x ∷ xs) zero line more left = cc
slice_get_left (x ∷ xs) (suc n) line more left = slice_get_left xs n line more left

option_as_list : (said : Option (Write ℕ)) → option_to_list said ≡ cons_option said []
option_as_list None = refl
option_as_list (Some write) = refl

module _ (all : List (List ℕ)) (n : ℕ) (line : List ℕ) (more : List (List ℕ)) (left : drop n all ≡ line ∷ more) where
  within : n < length all
  within = omega (arith, length-drop n all, ap length left)

  split : get_or all n line ∷ drop (n + 1) all ≡ line ∷ more
  split = sym (drop_more all n line within) ∙ left

  -- what is left after the line
  pub left_after : drop (n + 1) all ≡ more
  left_after = let e = split in cc

  -- the lines so far and this one
  pub front : take (n + 1) all ≡ take n all ++ line ∷ []
  front = let e = split in let at : get_or all n line ≡ line = cc in take_more all n line within ∙ ap (λ x. take n all ++ x ∷ []) at

  -- the lines so far and this one have no fault
  pub faultless_more : (said : Option (Write ℕ)) → row_of line ≡ Ok said → All IsFaultless (take n all) → All IsFaultless (take (n + 1) all)
  faultless_more said is faultless = rw front (All-push IsFaultless (take n all) line faultless (rw is refl))

  -- the writes so far and that of this line
  pub writes_more : (ws : List (Write ℕ)) (said : Option (Write ℕ)) → row_of line ≡ Ok said → ws ≡ filter_map write_of (take n all)
      → ws ++ option_to_list said ≡ filter_map write_of (take (n + 1) all)
  writes_more ws said is writes = rw (front, filter_map-append, is, writes)
      (ap (λ x. filter_map write_of (take n all) ++ x) (option_as_list said))

-- a line with a fault, after lines with none
pub first_fault : (input : List ℕ) (n : ℕ) (line : List ℕ) (more : List (List ℕ)) (f : RowError) → drop n (lines input) ≡ line ∷ more
    → row_of line ≡ Err f
    → All IsFaultless (take n (lines input)) → IsFirstFault input (n + 1) f
first_fault input n line more f left is faultless =
    let back : n + 1 - 1 ≡ n = omega arith in
    let here : slice_get (lines input) n ≡ Some line = slice_get_left (lines input) n line more left in
    record { counted = omega arith; faulty = rw (back, here) is; faultless_before = rw back faultless }

-- the same, as an answer names it
pub first_fault_named : (input : List ℕ) (n : ℕ) (line : List ℕ) (more : List (List ℕ)) (f : RowError) (k : ℕ) (g : RowError)
    → Row (n + 1) f ≡ Row k g
    → drop n (lines input) ≡ line ∷ more → row_of line ≡ Err f → All IsFaultless (take n (lines input)) → IsFirstFault input k g
first_fault_named input n line more f k g same left is faultless =
    let same_line : n + 1 ≡ k = cc in
    let same_fault : f ≡ g = cc in
    subst (λ x. IsFirstFault input k x) same_fault
    (subst (λ x. IsFirstFault input x f) same_line (first_fault input n line more f left is faultless))

-- all lines
pub all_rows : (input : List ℕ) (n : ℕ) (ws : List (Write ℕ)) → drop n (lines input) ≡ [] → All IsFaultless (take n (lines input))
    → ws ≡ filter_map write_of (take n (lines input)) → AreRows input ws
all_rows input n ws left faultless writes =
    let whole : take n (lines input) ≡ lines input =
    sym (append-nil (take n (lines input)))
    ∙ (ap (λ rest. take n (lines input) ++ rest) (sym left) ∙ take-append-drop n (lines input)) in
    record { faultless = rw whole at faultless; writes = rw whole at writes }
