-- The cells of an array, one by one.
use Rattle.std.proofs.Common.{◌≡◌, ℕ, ◌+◌, ◌-◌, ◌^◌, ◌<◌, false, List, [], ◌∷◌, ◌++◌, length, drop, get_or, append_assoc, append-nil, add-one, drop-cons, refl, sym, ap, ◌∙◌, arith}
use Rattle.std.specs.Fmt.{digits, padded_integral, format_spec, char_count}
use Rattle.std.proofs.Math.Nat.{zero-sub}
use Rattle.ucptab_table.specs.Patterns.{number_text}
use Rattle.ucptab_table.specs.declared.pattern.Number.TheVariants.{Hexadecimal}
use Rattle.ucptrie_sets.specs.SetSource.{cells_from, gap}

-- `{:x}`
pub hexadecimal_written : (n : ℕ) → padded_integral (format_spec 32 0 0 0 (2 ^ 64 - 1)) false [] (digits 16 false n) ≡ digits 16 false n
unfolding padded_integral char_count
hexadecimal_written n = simp (zero-sub, append-nil)

-- one more cell is appended
pub cells-more : (text new whole cells : List ℕ) (at i : ℕ) → i < length cells
    → new ≡ text ++ (gap at ++ number_text (Hexadecimal (get_or cells i 0)))
    → text ++ cells_from at (drop i cells) ≡ whole → new ++ cells_from (at + 1) (drop (i + 1) cells) ≡ whole
cells-more text new whole cells at i there one held =
    let cell = gap at ++ number_text (Hexadecimal (get_or cells i 0)) in
    let rest = cells_from (at + 1) (drop (i + 1) cells) in
    let split : cells_from at (drop i cells) ≡ cell ++ rest = rw (add-one i, drop-cons cells i 0 there) refl in
    ap (λ t. t ++ rest) one ∙ (append_assoc text cell rest ∙ (ap (λ t. text ++ t) (sym split) ∙ held))

-- the cells of two parts
pub cells-append : (at n : ℕ) (xs ys : List ℕ) → n ≡ at + length xs → cells_from at (xs ++ ys) ≡ cells_from at xs ++ cells_from n ys
cells-append at n [] ys e = ap (λ k. cells_from k ys) (omega arith)
cells-append at n (x ∷ xs) ys e =
    let cell = gap at ++ number_text (Hexadecimal x) in
    ap (λ t. cell ++ t) (cells-append (at + 1) n xs ys (omega arith)) ∙ sym (append_assoc cell (cells_from (at + 1) xs) (cells_from n ys))
