-- The line of a difference in its parts.
use Rattle.std.proofs.Common.{◌≡◌, ℕ, ◌<◌, ◌≤◌, false, true, List, [], ◌∷◌, ◌++◌, append_assoc, nat_lt, refl, ◌∙◌, ap, arith}
use Rattle.std.proofs.lemmas.Bool.Decides.{nat_tests}
use Rattle.icu_trie_core.specs.Range.{first_of, last_of}
use Rattle.icu_trie_core.specs.declared.range.CodePointMapRange.{CodePointMapRange}
use Rattle.ucptab_table.specs.TableText.{hex_text}
use Rattle.ucptrie_tables.specs.Differences.{difference_line, values_text}

-- the line of a difference after a text, in its two parts and in one
pub difference_line-range : (text : List ℕ) (d : CodePointMapRange (ℕ × ℕ)) → first_of d < last_of d
    → (text ++ (hex_text (first_of d) ++ (46 ∷ (46 ∷ [])))) ++ (hex_text (last_of d) ++ values_text d.value) ≡ text ++ difference_line d
unfolding difference_line
difference_line-range text d some =
    let test : nat_lt (first_of d) (last_of d) ≡ true = grind (arith, nat_tests) in
    rw test (append_assoc text (hex_text (first_of d) ++ (46 ∷ (46 ∷ []))) (hex_text (last_of d) ++ values_text d.value)
    ∙ ap (λ line. text ++ line) (append_assoc (hex_text (first_of d)) (46 ∷ (46 ∷ [])) (hex_text (last_of d) ++ values_text d.value)))

pub difference_line-point : (text : List ℕ) (d : CodePointMapRange (ℕ × ℕ)) → last_of d ≤ first_of d
    → text ++ (hex_text (last_of d) ++ values_text d.value) ≡ text ++ difference_line d
unfolding difference_line
difference_line-point text d one =
    let test : nat_lt (first_of d) (last_of d) ≡ false = grind (arith, nat_tests) in
    rw test refl
