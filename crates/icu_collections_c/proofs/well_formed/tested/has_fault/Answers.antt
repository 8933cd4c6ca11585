use Rattle.std.proofs.Common.{arith}
use Rattle.icu_collections_c.proofs.Utf8PositionLemmas.{one_more}
use Rattle.icu_collections_c.proofs.well_formed.tested.has_fault.Goals as goal

pub loop-i-preserved : goal.loop-i-preserved
loop-i-preserved c =
    one_more c.args.bytes.now c.loop-i.i c.loop-i.found c.is_fault-found.result (omega arith) c.loop-i.invariant c.is_fault-found.ensures

pub returns : goal.returns
returns c =
    (λ e k m. c.loop-i.invariant.0 e k (omega arith), λ all. c.loop-i.invariant.1 (λ k m. all k (omega arith)))
