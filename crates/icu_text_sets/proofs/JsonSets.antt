-- What a JSON value is read as, after its parts are read.
use Rattle.std.proofs.Common.{◌≡◌, ℕ, List, Option, Some, None, Result, Ok, Err, refl, sym, ap, subst, ◌∙◌, codes, inl, inr}
use Rattle.serde_json.specs.Data.{Data, null, boolean, number, string, array, object}
use Rattle.serde_json.specs.Find.{get}
use Rattle.icu_invlist.specs.InversionList.{IsValid}
use Rattle.icu_invlist.specs.SetJson.{ends_of, IsRefusedJson}
use Rattle.icu_invlist.specs.declared.codepointinvlist.error.SetJsonError.{SetJsonError}
use Rattle.icu_invlist.specs.declared.codepointinvlist.error.SetJsonError.TheVariants.{NotAnArray, NotAString, NotARange, InvalidSet, Memory}
use Rattle.icu_text_sets.specs.TextSet.{TextSet}
use Rattle.icu_text_sets.specs.TextFaults.{TextFault, strings_fault}
use Rattle.icu_text_sets.specs.TextSetJson.{JsonFault, no_set, text_fault, texts_said, set_unless, set_with, IsReadWith, IsReadAt, IsRead, IsRefusedAs}
use Rattle.icu_text_sets.specs.Inside.JsonParts.{set_fault_of, GivesTexts}

-- ---- the parts
abbrev pub PointsAt : Data → Data → Type 0
PointsAt d p = get (codes "cp_inv_list") d ≡ Some p

read_at : (d p : Data) (r : Result TextSet JsonFault) → PointsAt d p → IsReadWith (ends_of p) (texts_said d) r → IsRead d r
read_at null p r g h = absurd cc
read_at (boolean b) p r g h = absurd cc
read_at (number n) p r g h = absurd cc
read_at (string s) p r g h = absurd cc
read_at (array ds) p r g h = absurd cc
read_at (object ms) p r g h = subst (λ o. IsReadAt o (object ms) r) (sym g) h

-- ---- a set of code points that is rejected
refused_points : (d p : Data) (e : SetJsonError) → PointsAt d p → ends_of p ≡ Err e → IsRead d (Err (no_set e))
refused_points d p e g h = read_at d p (Err (no_set e)) g (subst (λ z. IsReadWith z (texts_said d) (Err (no_set e))) (sym h) refl)

pub set_refused : (d p : Data) (e : SetJsonError) → PointsAt d p → IsRefusedJson p e → IsRefusedAs d (set_fault_of e)
set_refused d p NotAnArray g h = refused_points d p NotAnArray g h
set_refused d p (NotAString i) g h = refused_points d p (NotAString i) g h
set_refused d p (NotARange i) g h = refused_points d p (NotARange i) g h
set_refused d p InvalidSet g (ends, e, n) =
    read_at d p (Err (no_set InvalidSet)) g (subst (λ z. IsReadWith z (texts_said d) (Err (no_set InvalidSet))) (sym e) (inr (n, refl)))
set_refused d p Memory g h = tt

-- ---- a set of code points that is read
with_points : (d p : Data) (ends : List ℕ) (r : Result TextSet JsonFault) → PointsAt d p → ends_of p ≡ Ok ends → IsValid ends
    → r ≡ set_with ends (texts_said d) → IsRead d r
with_points d p ends r g e v h = read_at d p r g (subst (λ z. IsReadWith z (texts_said d) r) (sym e) (inl (v, h)))

pub texts_refused : (d p : Data) (ends : List ℕ) (f : Option JsonFault) → PointsAt d p → ends_of p ≡ Ok ends → IsValid ends
    → GivesTexts (texts_said d) f → IsRefusedAs d f
texts_refused d p ends None g e v h = tt
texts_refused d p ends (Some f) g e v h = with_points d p ends (Err f) g e v (sym (ap (set_with ends) h))

with_texts : (d p : Data) (ends : List ℕ) (texts : List (List ℕ)) (o : Option TextFault) (r : Result TextSet JsonFault) → PointsAt d p
    → ends_of p ≡ Ok ends → IsValid ends
    → texts_said d ≡ Ok texts → strings_fault texts ≡ o → r ≡ set_unless ends texts o → IsRead d r
with_texts d p ends texts o r g e v t f h =
    with_points d p ends r g e v (h ∙ sym (ap (set_unless ends texts) f) ∙ sym (ap (set_with ends) t))

pub set_taken : (d p : Data) (ends : List ℕ) (texts : List (List ℕ)) (set : TextSet) → PointsAt d p → ends_of p ≡ Ok ends → IsValid ends
    → texts_said d ≡ Ok texts → strings_fault texts ≡ None
    → set ≡ record { code_points = ends; strings = texts } → IsRead d (Ok set)
set_taken d p ends texts set g e v t f h = with_texts d p ends texts None (Ok set) g e v t f (ap (λ z. Ok z) h)

pub strings_refused : (d p : Data) (ends : List ℕ) (texts : List (List ℕ)) (f : TextFault) → PointsAt d p → ends_of p ≡ Ok ends
    → IsValid ends → texts_said d ≡ Ok texts → strings_fault texts ≡ Some f
    → IsRead d (Err (text_fault f))
strings_refused d p ends texts f g e v t h = with_texts d p ends texts (Some f) (Err (text_fault f)) g e v t h refl
