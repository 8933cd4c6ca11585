-- A step leaves a quarter of what is left.
use Rattle.std.proofs.Common.{◌/◌, arith}
use Rattle.icu_zerovec.specs.Cells.{values_of}
use Rattle.icu_zerovec.proofs.Searches.{stepped}
use Rattle.icu_zerovec.proofs.search.proved.narrowed.Goals as goal

pub loop-size-preserved : goal.loop-size-preserved
loop-size-preserved g c =
    record {
      some = omega arith;
      inside = omega (arith, c.count_at_most.ensures.within);
      left =
          stepped (λ (y : g.row.T.Denot). g.T.Ord.cmp y c.args.x.now) (values_of g.T.AsULE.unpack g.T.AsULE.WIDTH c.args.bytes.now)
          c.loop-size.low c.loop-size.size (c.loop-size.size / 4) c.count_at_most.result (omega arith)
          c.loop-size.invariant.left c.count_at_most.ensures;
    }
