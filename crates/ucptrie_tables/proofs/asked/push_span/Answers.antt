use Rattle.std.proofs.Common.{◌≡◌, ◌++◌, ◌∷◌, []}
use Rattle.ucptrie_tables.proofs.AskedLemmas.{numbers_from-more}
use Rattle.ucptrie_tables.proofs.asked.push_span.Goals as goal

pub loop-number-preserved : goal.loop-number-preserved
loop-number-preserved c =
    let pushed : c.push.new.self.items ≡ c.loop-number.asked.items ++ c.loop-number.number ∷ [] = c.in_ok-push.ensures.items in
    numbers_from-more c.args.first c.loop-number.number c.args.asked.now.items c.loop-number.asked.items _ c.loop-number.auto.number
    c.loop-number.invariant pushed
