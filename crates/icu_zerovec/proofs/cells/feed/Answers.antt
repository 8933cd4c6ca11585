-- One more value is fed.
use Rattle.std.proofs.Common.{length}
use Rattle.std.specs.Hash as fed
use Rattle.icu_zerovec.specs.Cells.{values_of, one_write}
use Rattle.icu_zerovec.proofs.SameLemmas.{fed_more}
use Rattle.icu_zerovec.proofs.cells.feed.Goals as goal

pub loop-i-preserved : goal.loop-i-preserved
loop-i-preserved g c =
    let T = g.T.AsULE in
    let xs = values_of T.unpack T.WIDTH c.args.bytes.now in record {
      fed =
          fed_more g.H.Hasher.write (one_write T.pack) c.args.state.now c.loop-i.state c.feed_one.new.state (fed.usize (length xs)) xs
          c.loop-i.i c.at.result
          c.at.ensures c.loop-i.invariant.fed c.feed_one.ensures;
    }
