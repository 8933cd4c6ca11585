-- The one value that is left at the end determines the index.
use Rattle.std.proofs.Common.{arith, sym}
use Rattle.std.specs.declared.cmp.Ordering.TheVariants.{Equal}
use Rattle.icu_zerovec.specs.Cells.{values_of}
use Rattle.icu_zerovec.proofs.Searches.{byte_le, one_step, holds_at, place_past, place_of_first}
use Rattle.icu_zerovec.proofs.search.proved.binary_search.Goals as goal

pub loop-size-preserved : goal.loop-size-preserved
loop-size-preserved g c =
    record {
      some = omega arith;
      inside = omega (arith, byte_le c.is_at_most.result, c.from-low.ensures);
      left = rw c.from-low.ensures
          (one_step (λ (y : g.row.T.Denot). g.T.Ord.cmp y c.args.x.now) (values_of g.T.AsULE.unpack g.T.AsULE.WIDTH c.args.bytes.now)
          c.loop-size.low c.loop-size.size c.is_at_most.result (omega arith) c.is_at_most.ensures c.loop-size-test.true
          c.loop-size.invariant.left);
    }

pub returns-in-Less-clause-position : goal.returns-in-Less-clause-position
returns-in-Less-clause-position g c =
    place_past (λ (y : g.row.T.Denot). g.T.Ord.cmp y c.args.x.now)
    (values_of g.T.AsULE.unpack g.T.AsULE.WIDTH c.args.bytes.now) c.loop-size.low _
    c.at.result c.at.ensures (sym c.in-Less.ensures) (let t = c.loop-size-test.false in omega arith) c.loop-size.invariant.left

pub returns-in-Equal-clause-position : goal.returns-in-Equal-clause-position
returns-in-Equal-clause-position g c =
    holds_at (λ (y : g.row.T.Denot). g.T.Ord.cmp y c.args.x.now)
    (values_of g.T.AsULE.unpack g.T.AsULE.WIDTH c.args.bytes.now) c.loop-size.low
    c.at.result c.at.ensures Equal (sym c.in-Equal.ensures)

pub returns-in-Greater-clause-position : goal.returns-in-Greater-clause-position
returns-in-Greater-clause-position g c =
    place_of_first (λ (y : g.row.T.Denot). g.T.Ord.cmp y c.args.x.now)
    (values_of g.T.AsULE.unpack g.T.AsULE.WIDTH c.args.bytes.now) c.loop-size.low _
    c.at.result c.at.ensures (sym c.in-Greater.ensures) c.loop-size.invariant.left
