use Rattle.std.proofs.Common.{arith}
use Rattle.icu_invlist.proofs.MemberLemmas.{length-ranges}
use Rattle.icu_invlist.proofs.codepointinvlist.cpinvlist.CodePointInversionList.get_range_count.Goals as goal

pub returns-clause-count : goal.returns-clause-count
returns-clause-count c = rw (← c.self.view_is) (let e = length-ranges c.self.inside.ends in omega (arith, c.len.ensures))
