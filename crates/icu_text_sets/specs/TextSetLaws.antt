-- Equality of sets is an equivalence relation, as the impl of `Eq` requires.
use Rattle.std.specs.Cmp.{IsEquivalence, on_equiv, and_equiv}
use Rattle.std.specs.Cmp.Lexicographic.{lists_equiv, nat_list_eq_equiv}
use Rattle.icu_text_sets.specs.TextSet.{same_set}

-- The proof of that law.
pub same_set_equiv : IsEquivalence same_set
same_set_equiv =
    and_equiv (on_equiv (λ s. s.code_points) nat_list_eq_equiv)
    (on_equiv (λ s. s.strings) (lists_equiv nat_list_eq_equiv))
