use Rattle.std.proofs.Common.{[]}
use Rattle.icu_invlist.proofs.Parity.{holds-ends_below}
use Rattle.icu_invlist.proofs.codepointinvlist.cpinvlist.CodePointInversionList.from_iter.Goals as goal

pub loop-range-init : goal.loop-range-init
loop-range-init g c = λ n h. rw c.new-builder.ensures (holds-ends_below [] n)
