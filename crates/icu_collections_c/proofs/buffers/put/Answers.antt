use Rattle.std.proofs.Common.{refl, arith}
use Rattle.icu_collections_c.proofs.BufferLemmas.{written-next}
use Rattle.icu_collections_c.proofs.buffers.put.Goals as goal

pub returns-then-count-buffer : goal.returns-then-count-buffer
returns-then-count-buffer g c = λ items all many was.
    written-next items all c.args.buffer.now _ c.args.item c.args.count many was (λ h. refl)
    (λ h. absurd (omega (arith, h, c.if-count-buffer.true)))
