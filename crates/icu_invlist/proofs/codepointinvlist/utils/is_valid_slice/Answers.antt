-- If the last number is a boundary, so are those before it.
use Rattle.std.proofs.Common.{arith, sym}
use Rattle.std.proofs.lemmas.Option.{get_or_from_slice_get}
use Rattle.icu_invlist.proofs.AscendLemmas.{all_within}
use Rattle.icu_invlist.proofs.codepointinvlist.utils.is_valid_slice.Goals as goal

pub returns-then-last-le-CODE_POINT_LIMIT : goal.returns-then-last-le-CODE_POINT_LIMIT
returns-then-last-le-CODE_POINT_LIMIT c = (
  λ t. record {
    even = c.is_multiple_of.ensures.0 c.if-not-is_multiple_of.false;
    ascending = c.ascend.ensures.0 t;
    within = all_within c.args.ends.now c.in-Some.last.now _ (c.ascend.ensures.0 t)
        (sym (get_or_from_slice_get c.args.ends.now _ _ 0 (sym c.in-Some.ensures.value))) (let h = c.if-last-le-CODE_POINT_LIMIT.true in omega arith);
  },
  λ v. c.ascend.ensures.1 v.ascending,
)
