use Rattle.std.proofs.Common.{arith, suc}
use Rattle.icu_invlist.proofs.RunLemmas.{ends_below-le}
use Rattle.icu_invlist.proofs.PlaceLemmas.{valid-length}
use Rattle.icu_invlist.proofs.codepointinvlist.cpinvlist.CodePointInversionList.place_past.Goals as goal

pub loop-low-init : goal.loop-low-init
loop-low-init c = record {
  first = c.requires.first;
  from = c.requires.from;
  most = ends_below-le c.args.self.now (suc c.args.c);
  some = omega arith;
  small = omega arith;
  bounded = valid-length c.args.self.now c.count-count.ensures.valid;
}
