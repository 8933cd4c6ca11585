use Rattle.ucptrie_readers.proofs.WidthLemmas.{always_fits}
use Rattle.ucptrie_readers.proofs.read.widened.Goals as goal

pub unreachable-requires : goal.unreachable-requires
unreachable-requires g c =
    let why = c.in-Err-Closure.ensures.err c.in-Err-Closure.field-0-0 c.in-Err-Closure.field-0-is in
    always_fits _ c.in-Err-Closure.field-0-0 why.0 why.1
