use Rattle.std.proofs.Common.{◌≡◌, ◌∙◌, sym, ap, subst, map, Ok}
use Rattle.serde_json.specs.Data.{string}
use Rattle.serde_json.specs.View.{view}
use Rattle.icu_invlist.specs.SetJson.{ends_of, written_of}
use Rattle.icu_text_sets.specs.TextSet.{TextSet, texts_of}
use Rattle.icu_text_sets.specs.TextSetJson.{object_of, json_of, IsRead}
use Rattle.icu_text_sets.proofs.JsonTexts.{json_read}
use Rattle.icu_text_sets.proofs.codepointinvliststringlist.set.CodePointInversionListAndStringList.to_json.Goals as goal

written : goal.returns-clause-ok
written c =
    c.in_ok-value.ensures ∙ ap (λ d. object_of d (map view c.in_ok-strings.strings.items)) c.in_ok-code_points.ensures.ok
    ∙ ap (object_of (written_of c.self.inside.cp_inv_list))
    (c.in_ok-strings.ensures ∙ ap (λ xs. map (λ t. string t) (texts_of xs)) c.deref.ensures.value)
    ∙ ap json_of c.self.view_is

pub returns-clause-ok : goal.returns-clause-ok
returns-clause-ok c = written c

pub returns-clause-read_back : goal.returns-clause-read_back
returns-clause-read_back c =
    let inner : TextSet = record { code_points = c.self.inside.cp_inv_list; strings = texts_of c.self.inside.str_list.items } in
    let back : ends_of (written_of c.self.inside.cp_inv_list) ≡ Ok c.self.inside.cp_inv_list =
    sym (ap ends_of c.in_ok-code_points.ensures.ok) ∙ c.in_ok-code_points.ensures.read_back in
    let whole : IsRead (json_of c.args.self.now) (Ok c.args.self.now) =
    subst (λ s. IsRead (json_of s) (Ok s)) c.self.view_is (json_read inner c.in_ok-code_points.ensures.valid c.self.invariant back) in
    subst (λ d. IsRead d (Ok c.args.self.now)) (sym (written c)) whole
