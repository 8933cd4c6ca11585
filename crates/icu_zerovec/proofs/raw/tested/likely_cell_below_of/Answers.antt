-- The front that ends there has the first cells.
use Rattle.std.proofs.Common.{◌*◌, ◌≤◌, ◌≡◌, length, arith}
use Rattle.std.proofs.Math.Nat.{le-div_iff_mul-le}
use Rattle.icu_zerovec.proofs.Chunks.{below_front}
use Rattle.icu_zerovec.proofs.raw.tested.likely_cell_below_of.Goals as goal

pub returns : goal.returns
returns g c =
    let w = g.row.WIDTH in
    let l : c.args.end * w ≤ length c.args.bytes.now = (le-div_iff_mul-le {k = w} {x = c.args.end} {y = length c.args.bytes.now} c.requires.some).0 c.requires.within in
    let e : c.min-front.result ≡ c.args.end * w = omega (arith, c.min-front.ensures, l) in
    below_front w c.args.end c.min-front.result c.args.i c.args.bytes.now c.requires.some c.requires.within e c.likely_cell_of.result c.likely_cell_of.ensures
