-- One line more of a file.
use Rattle.std.proofs.Common.{◌≡◌, ℕ, zero, suc, ◌+◌, ◌-◌, ◌<◌, List, [], ◌∷◌, ◌++◌, length, get_or, take, drop, Option, Some, None, Ok, Err, refl, sym, ◌∙◌, ap, subst, arith, true, false}
use Rattle.std.specs.Prelude.{All, slice_get, option_to_list}
use Rattle.std.specs.List.{filter_map, cons_option}
use Rattle.std.specs.Str.Lines.{lines}
use Rattle.std.proofs.lemmas.List.{drop_more, take_more, take-append-drop, append-nil, length-drop}
use Rattle.std.proofs.lemmas.List.Elements.{All-push, filter_map-append}
use Rattle.ucd_files.specs.Files.{AreStatements, IsFaultless, IsFirstFault, IsUnfinished, is_open, last_line, paired_lines, read_pair, statement_or_none}
use Rattle.ucd_files.specs.Statements.{statement_of}
use Rattle.ucd_files.specs.declared.error.FileError.TheVariants.{Line}
use Rattle.ucd_files.specs.declared.error.LineError.{LineError}
use Rattle.ucd_files.specs.declared.names.Numbering.{Numbering}
use Rattle.ucd_files.specs.declared.statement.Columns.{Columns}
use Rattle.ucd_files.specs.declared.statement.Statement.{Statement}

-- The first line that is left is the line at this index.
slice_get_left : {A : Type 0} (all : List A) (n : ℕ) (x : A) (more : List A) → drop n all ≡ x ∷ more → slice_get all n ≡ Some x
slice_get_left [] zero x more left = cc
slice_get_left [] (suc n) x more left = cc
slice_get_left (y ∷ ys) zero x more left = cc
slice_get_left (y ∷ ys) (suc n) x more left = slice_get_left ys n x more left

option_as_list : (said : Option Statement) → option_to_list said ≡ cons_option said []
option_as_list None = refl
option_as_list (Some statement) = refl

module _ (columns : Columns) (numbering : Numbering) where
  statement_in : List ℕ × List ℕ → Option Statement
  statement_in pair = statement_or_none columns numbering (read_pair columns numbering pair)

  module _ (all : List (List ℕ × List ℕ)) (n : ℕ) (previous line : List ℕ) (more : List (List ℕ × List ℕ))
      (left : drop n all ≡ (previous, line) ∷ more)
    where
      within : n < length all
      within = omega (arith, length-drop n all, ap length left)

      split : get_or all n (previous, line) ∷ drop (n + 1) all ≡ (previous, line) ∷ more
      split = sym (drop_more all n (previous, line) within) ∙ left

      -- what is left after the line
      pub left_after : drop (n + 1) all ≡ more
      left_after = let e = split in cc

      front : take (n + 1) all ≡ take n all ++ (previous, line) ∷ []
      front = let e = split in let at : get_or all n (previous, line) ≡ (previous, line) = cc in
          take_more all n (previous, line) within ∙ ap (λ x. take n all ++ x ∷ []) at

      -- the lines so far and this one have no fault
      pub faultless_more : (said : Option Statement) → statement_of columns numbering previous line ≡ Ok said
          → All (IsFaultless columns numbering) (take n all) → All (IsFaultless columns numbering) (take (n + 1) all)
      faultless_more said is faultless =
          rw front (All-push (IsFaultless columns numbering) (take n all) (previous, line) faultless (rw is refl))

      -- the statements so far and that of this line
      pub said_more : (ss : List Statement) (said : Option Statement) → statement_of columns numbering previous line ≡ Ok said
          → ss ≡ filter_map (λ pair. statement_or_none columns numbering (read_pair columns numbering pair)) (take n all)
          → ss ++ option_to_list said
          ≡ filter_map (λ pair. statement_or_none columns numbering (read_pair columns numbering pair)) (take (n + 1) all)
      said_more ss said is so_far = rw (front, filter_map-append, is, so_far)
          (ap
          (λ x. filter_map (λ pair. statement_or_none columns numbering (read_pair columns numbering pair)) (take n all) ++ x)
          (option_as_list said))

  -- a line with a fault, after lines with none
  first_fault : (input : List ℕ) (n : ℕ) (previous line : List ℕ) (more : List (List ℕ × List ℕ)) (f : LineError)
      → drop n (paired_lines input) ≡ (previous, line) ∷ more → statement_of columns numbering previous line ≡ Err f
      → All (IsFaultless columns numbering) (take n (paired_lines input)) → IsFirstFault columns numbering input (n + 1) f
  first_fault input n previous line more f left is faultless =
      let back : n + 1 - 1 ≡ n = omega arith in
      let here : slice_get (paired_lines input) n ≡ Some (previous, line) =
      slice_get_left (paired_lines input) n (previous, line) more left in
      record { counted = omega arith; faulty = rw (back, here) is; faultless_before = rw back faultless }

  -- the same, as an answer names it
  pub first_fault_named : (input : List ℕ) (n : ℕ) (previous line : List ℕ) (more : List (List ℕ × List ℕ)) (f : LineError)
      (k : ℕ) (g : LineError)
      → Line (n + 1) f ≡ Line k g → drop n (paired_lines input) ≡ (previous, line) ∷ more
      → statement_of columns numbering previous line ≡ Err f
      → All (IsFaultless columns numbering) (take n (paired_lines input)) → IsFirstFault columns numbering input k g
  first_fault_named input n previous line more f k g same left is faultless =
      let same_line : n + 1 ≡ k = cc in
      let same_fault : f ≡ g = cc in
      subst (λ x. IsFirstFault columns numbering input k x) same_fault
      (subst (λ x. IsFirstFault columns numbering input x f) same_line
      (first_fault input n previous line more f left is faultless))

  whole : {A : Type 0} (all : List A) (n : ℕ) → drop n all ≡ [] → take n all ≡ all
  whole all n left = sym (append-nil (take n all)) ∙ (ap (λ rest. take n all ++ rest) (sym left) ∙ take-append-drop n all)

  -- all lines
  pub all_said : (input : List ℕ) (n : ℕ) (ss : List Statement) → drop n (paired_lines input) ≡ []
      → All (IsFaultless columns numbering) (take n (paired_lines input))
      → ss ≡ filter_map (λ pair. statement_or_none columns numbering (read_pair columns numbering pair)) (take n (paired_lines input))
      → is_open columns (last_line [] (lines input)) ≡ false → AreStatements columns numbering input ss
  all_said input n ss left faultless so_far closed =
      let all : take n (paired_lines input) ≡ paired_lines input = whole (paired_lines input) n left in
      record { faultless = rw all at faultless; whole = closed; said = rw all at so_far }

  pub all_unfinished : (input : List ℕ) (n : ℕ) → drop n (paired_lines input) ≡ []
      → All (IsFaultless columns numbering) (take n (paired_lines input))
      → is_open columns (last_line [] (lines input)) ≡ true → IsUnfinished columns numbering input
  all_unfinished input n left faultless opened =
      let all : take n (paired_lines input) ≡ paired_lines input = whole (paired_lines input) n left in
      record { faultless = rw all at faultless; left_open = opened }
