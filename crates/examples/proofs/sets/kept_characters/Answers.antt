use Rattle.std.proofs.Common.{rules}
use Rattle.icu_collections.specs.CodePointInversionList.{holds}
use Rattle.examples.proofs.Kept.{keep_start, keep_past, keep_end}
use Rattle.examples.proofs.sets.kept_characters.Goals as goal

pub loop-c-init : goal.loop-c-init
loop-c-init c = keep_start _ c.args.text.now c.into_iter-c-iterator.result.rest.now _ c.utf8.text (cc) (cc)

pub loop-c-preserved : goal.loop-c-preserved
loop-c-preserved c = keep_past (holds c.args.set.now) c.args.text.now c.loop-c.c-iterator.rest.now c.next.new.self.rest.now _ _ c.in-Some.c
    c.contains.result c.loop-c.invariant c.in-Some.ensures.steps.0 c.contains.ensures (search rules)

pub returns : goal.returns
returns c = keep_end (holds c.args.set.now) c.args.text.now c.loop-c.c-iterator.rest.now _ c.loop-c.invariant c.in-None.ensures.steps.0.0
