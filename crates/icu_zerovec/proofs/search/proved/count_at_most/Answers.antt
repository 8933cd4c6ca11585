-- The sum of three comparisons.
use Rattle.icu_zerovec.specs.Cells.{values_of}
use Rattle.icu_zerovec.proofs.Searches.{counted}
use Rattle.icu_zerovec.proofs.search.proved.count_at_most.Goals as goal

pub returns : goal.returns
returns g c =
    rw (c.from.ensures, c.from-2.ensures, c.from-3.ensures)
    (counted (λ (y : g.row.T.Denot). g.T.Ord.cmp y c.args.x.now)
    (values_of g.T.AsULE.unpack g.T.AsULE.WIDTH c.args.bytes.now) c.args.low c.args.step
    c.is_at_most-first.result c.is_at_most-second.result c.is_at_most-third.result c.requires.within
    c.is_at_most-first.ensures c.is_at_most-second.ensures c.is_at_most-third.ensures)
