use Rattle.std.proofs.Common.{◌≡◌, ◌∙◌, ap, sym, Bool, true, ◌&&◌, List, ℕ, String, Global, nat_eq}
use Rattle.std.specs.Str.{bytes_eq}
use Rattle.std.specs.String.{string_eq}
use Rattle.std.specs.Cmp.Lexicographic.{pointwise}
use Rattle.std.proofs.lemmas.Bool.Decides.{Decides-at}
use Rattle.icu_invlist.specs.InversionList.{holds}
use Rattle.icu_text_sets.specs.TextSet.{TextSet, texts_of, same_set, is_among, IsStringList}
use Rattle.icu_text_sets.proofs.EqualSets.{sets_decide, strings_as_texts, same_strings}
use Rattle.icu_text_sets.proofs.codepointinvliststringlist.equality.CodePointInversionListAndStringListPartialEq.eq.Goals as goal

set_value : (r : Bool) (a b : List ℕ) (xs ys : List (String Global)) → pointwise nat_eq a b ≡ true → r ≡ pointwise string_eq xs ys
    → r ≡ same_set (record { code_points = a; strings = texts_of xs }) (record { code_points = b; strings = texts_of ys })
set_value r a b xs ys h e = e ∙ strings_as_texts xs ys ∙ sym (ap (λ z. z && pointwise bytes_eq (texts_of xs) (texts_of ys)) h)

value : goal.returns-then-eq-clause-value
value c =
    set_value c.eq-then-eq.result c.self.inside.cp_inv_list c.other.inside.cp_inv_list c.self.inside.str_list.items
    c.other.inside.str_list.items
    (sym c.eq.ensures.value ∙ c.if-eq.true) c.eq-then-eq.ensures
    ∙ ap (λ s. same_set s (record { code_points = c.other.inside.cp_inv_list; strings = texts_of c.other.inside.str_list.items }))
    c.self.view_is
    ∙ ap (λ s. same_set c.args.self.now s) c.other.view_is

same : goal.returns-then-eq-clause-same
same c = Decides-at c.eq-then-eq.result (same_set c.args.self.now c.args.other.now) (value c) (sets_decide c.args.self.now c.args.other.now)

joined : (a b : TextSet) → a.code_points ≡ b.code_points → a.strings ≡ b.strings → a ≡ b
joined a b p q = λ i. record { code_points = p i; strings = q i }

pub returns-then-eq-clause-value : goal.returns-then-eq-clause-value
returns-then-eq-clause-value c = value c

pub returns-then-eq-clause-same : goal.returns-then-eq-clause-same
returns-then-eq-clause-same c = same c

pub returns-then-eq-clause-members : goal.returns-then-eq-clause-members
returns-then-eq-clause-members c =
    let a = c.args.self.now in
    let b = c.args.other.now in
    let points : a.code_points ≡ b.code_points = sym (ap (λ s. s.code_points) c.self.view_is) ∙ c.eq.ensures.same.0 c.if-eq.true
    ∙ ap (λ s. s.code_points) c.other.view_is in
    let left : IsStringList a.strings = rw (sym (ap (λ s. s.strings) c.self.view_is)) c.self.invariant in
    let right : IsStringList b.strings = rw (sym (ap (λ s. s.strings) c.other.view_is)) c.other.invariant in (
      λ t. let e : a ≡ b = (same c).0 t in (λ n h. ap (λ s. holds s.code_points n) e, λ text. ap (λ s. is_among s.strings text) e),
      λ all. (same c).1 (joined a b points (same_strings a.strings b.strings left right all.1)),
    )
