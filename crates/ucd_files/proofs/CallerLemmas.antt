-- Lemmas on numbers in decimal digits that other crates may use.
use Rattle.std.proofs.Common.{◌≡◌, ℕ, ◌^◌, ◌<◌, true, nat_le, nat_lt, List, [], ◌∷◌, decimal, length, Some, refl, arith}
use Rattle.std.specs.Char.{is_digit}
use Rattle.std.specs.List.{list_all}
use Rattle.std.specs.Str.Parse.{AllDigits}
use Rattle.std.proofs.lemmas.Bool.{and_from}
use Rattle.std.proofs.lemmas.Bool.Decides.{nat_tests}
use Rattle.std.proofs.lemmas.Fmt.{decimal_is_IsNumeral, length-decimal-le}
use Rattle.ucptab_table.specs.TableText.{number_of}
use Rattle.ucd_files.specs.Names.{short_decimal, short_number}

digits_pass : (ds : List ℕ) → AllDigits 10 ds → list_all (λ c. is_digit c 10) ds ≡ true
digits_pass [] d = refl
digits_pass (c ∷ ds) d = and_from _ _ (grind (arith, nat_tests, d.0)) (digits_pass ds d.1)

-- The number that decimal digits write is read again.
pub short_decimal-decimal : (n : ℕ) → n < 2 ^ 32 → short_decimal (decimal n) ≡ Some n
unfolding number_of short_decimal short_number
short_decimal-decimal n small =
    let is = decimal_is_IsNumeral n (omega (arith, small)) in
    let some : nat_lt 0 (length (decimal n)) ≡ true = grind (arith, nat_tests, is.0.0) in
    let most = length-decimal-le 10 n (omega arith) (omega (arith, small)) (omega (arith, small)) in
    let few : nat_le (length (decimal n)) 10 ≡ true = grind (arith, nat_tests, most) in
    let short : nat_le n 0xFFFFFFFF ≡ true = grind (arith, nat_tests, small) in
    rw (some, few, digits_pass (decimal n) is.0.1, is.1, short) refl
