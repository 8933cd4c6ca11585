use Rattle.std.proofs.Common.{◌≡◌, ◌∙◌, ap, sym, Some}
use Rattle.std.proofs.lemmas.Bool.{false≢true}
use Rattle.icu_zerovec.specs.Cells.{values_of}
use Rattle.icu_zerovec.specs.PackedBytes.{number_of}
use Rattle.icu_invlist.proofs.PackedEnds.{values_packed, no_fault}
use Rattle.icu_invlist.proofs.codepointinvlist.cpinvlist.CodePointInversionList.from_valid_slice.Goals as goal

pub invariant_of-result : goal.invariant_of-result
invariant_of-result c =
    let e : c.in-Ok.ends ≡ c.args.ends.now =
    c.in-Ok.ensures.ok.1 ∙ (ap (values_of (λ b. Some (number_of 3 b)) 3) c.in_ok-bytes.ensures ∙ values_packed _ c.requires) in
    rw e (c.requires, c.size_of-size.ensures)

pub unreachable-requires : goal.unreachable-requires
unreachable-requires c = false≢true (sym c.if-not-is_multiple_of.true ∙ c.is_multiple_of.ensures.1 c.requires.even)

pub unreachable-requires-in-Err : goal.unreachable-requires-in-Err
unreachable-requires-in-Err c = no_fault c.args.ends.now c.requires _ (rw c.in_ok-bytes.ensures at c.in-Err.ensures.err)

pub returns : goal.returns
returns c = c.in-Ok.ensures.ok.1 ∙ (ap (values_of (λ b. Some (number_of 3 b)) 3) c.in_ok-bytes.ensures ∙ values_packed _ c.requires)
