use Rattle.std.proofs.Common.{sym}
use Rattle.icu_invlist_binary.proofs.LentLemmas.{length-lent}
use Rattle.icu_invlist_binary.proofs.lent_ends.LentEnds.count.Goals as goal

pub returns-clause-count : goal.returns-clause-count
returns-clause-count c = sym (length-lent c.args.self.now.singles.now c.args.self.now.pairs.now)
