-- The row of a range after a text, in its two parts and in one.
use Rattle.std.proofs.Common.{◌≡◌, ℕ, ◌<◌, ◌≤◌, false, true, List, [], ◌∷◌, ◌++◌, append_assoc, nat_lt, refl, ◌∙◌, ap, arith}
use Rattle.std.proofs.lemmas.Bool.Decides.{nat_tests}
use Rattle.std.specs.declared.ops.RangeInclusive.{RangeInclusive}
use Rattle.ucptab_table.specs.TableText.{hex_text}
use Rattle.ucptrie_sets.specs.Rows.{point_row, range_row}

pub range_row-range : (text : List ℕ) (r : RangeInclusive ℕ) → r.start < r.end
    → (text ++ (hex_text r.start ++ (46 ∷ (46 ∷ [])))) ++ point_row r.end ≡ text ++ range_row r
unfolding range_row
range_row-range text r some =
    let test : nat_lt r.start r.end ≡ true = grind (arith, nat_tests) in
    rw test (append_assoc text (hex_text r.start ++ (46 ∷ (46 ∷ []))) (point_row r.end)
    ∙ ap (λ row. text ++ row) (append_assoc (hex_text r.start) (46 ∷ (46 ∷ [])) (point_row r.end)))

pub range_row-point : (text : List ℕ) (r : RangeInclusive ℕ) → r.end ≤ r.start → text ++ point_row r.end ≡ text ++ range_row r
unfolding range_row
range_row-point text r one =
    let test : nat_lt r.start r.end ≡ false = grind (arith, nat_tests) in
    rw test refl
