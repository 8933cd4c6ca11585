-- Whether writes cover all code points.
use Rattle.std.proofs.Common.{◌≡◌, ◌<◌, ◌∙◌, ℕ, Bool, true, false, List, [], ◌∷◌, nat_le, refl, sym, arith}
use Rattle.std.specs.Prelude.{◌↔◌, IsTrue}
use Rattle.std.proofs.lemmas.Bool.Decides.{nat_tests}
use Rattle.icu_invlist.specs.InversionList.{IsSubset, ends_up_to, holds}
use Rattle.icu_trie_builder.specs.declared.writes.Write.{Write}
use Rattle.icu_zerovec.specs.CodePoints.{code_point_limit}
use Rattle.ucd_files.specs.Coverage.{CoverAll, has_value}

-- The set of all code points has each of them.
all_held : (c : ℕ) → c < code_point_limit → holds (0 ∷ code_point_limit ∷ []) c ≡ true
unfolding ends_up_to
all_held c below =
    let under : nat_le 0 c ≡ true = grind (arith, nat_tests) in
    let over : nat_le code_point_limit c ≡ false = grind (arith, nat_tests, below) in
    rw (under, over) refl

-- It is a subset of the code points with a value if each code point has one.
pub all_covered : (all points : List ℕ) (ws : List (Write ℕ)) (r : Bool) → all ≡ 0 ∷ code_point_limit ∷ []
    → ((c : ℕ) → c < code_point_limit → holds points c ≡ has_value ws c) → (IsTrue r ↔ IsSubset all points)
    → (IsTrue r ↔ CoverAll ws)
all_covered all points ws r is_all is same =
    let whole = rw is_all at same in (
      λ t c below. sym (is c below) ∙ whole.0 t c below (all_held c below),
      λ covered. whole.1 (λ c below _. is c below ∙ covered c below),
    )
