use Rattle.std.proofs.Common.{arith, sym, ◌∙◌}
use Rattle.icu_invlist.proofs.MemberLemmas.{length-ranges, ranges_within}
use Rattle.icu_invlist.specs.Inside.StillGiven.{ends_in}
use Rattle.icu_invlist.proofs.PackedEnds.{packed_ranges}
use Rattle.icu_invlist.proofs.PlaceLemmas.{valid-length}
use Rattle.icu_invlist.proofs.HeldRanges.{ranges_hold, ranges_apart}
use Rattle.icu_invlist.proofs.codepointinvlist.cpinvlist.CodePointInversionList.iter_ranges.Goals as goal

pub from_bytes-requires : goal.from_bytes-requires
from_bytes-requires c = packed_ranges c.as_bytes.result.now c.args.self.now c.as_bytes.ensures.packed
    (sym c.self.view_is ∙ c.as_bytes.ensures.values) (rw (← c.self.view_is) c.self.invariant.0)

pub returns-clause-bound : goal.returns-clause-bound
returns-clause-bound c =
    let v = packed_ranges c.as_bytes.result.now c.args.self.now c.as_bytes.ensures.packed
    (sym c.self.view_is ∙ c.as_bytes.ensures.values) (rw (← c.self.view_is) c.self.invariant.0) in
    rw (c.from_bytes.ensures) (let e = length-ranges (ends_in c.as_bytes.result.now) in
    let p = valid-length (ends_in c.as_bytes.result.now) v.valid in omega arith)

pub returns-clause-within : goal.returns-clause-within
returns-clause-within c = ranges_within c.args.self.now (rw (← c.self.view_is) c.self.invariant.0)

pub returns-clause-apart : goal.returns-clause-apart
returns-clause-apart c = ranges_apart c.args.self.now (rw (← c.self.view_is) c.self.invariant.0)

pub returns-clause-held : goal.returns-clause-held
returns-clause-held c = λ n. ranges_hold c.args.self.now n (rw (← c.self.view_is) c.self.invariant.0)
