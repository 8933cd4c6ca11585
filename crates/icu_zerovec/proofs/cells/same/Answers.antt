-- Equal bytes at the start have equal values, and values that differ make lists that differ.
use Rattle.std.proofs.Common.{◌≡◌, length, arith, rules}
use Rattle.icu_zerovec.specs.Cells.{values_of, same_bytes}
use Rattle.icu_zerovec.proofs.SameLemmas.{differs, same_gets, same_front, same_count}
use Rattle.icu_zerovec.proofs.cells.same.Goals as goal

pub returns-then-not-alike : goal.returns-then-not-alike
returns-then-not-alike g c =
    let T = g.T.AsULE in
    differs (same_bytes T.pack) (values_of T.unpack T.WIDTH c.args.a.now)
    (values_of T.unpack T.WIDTH c.args.b.now) c.loop-i.i c.at.result c.at-in-loop-i.result
    c.at.ensures c.at-in-loop-i.ensures c.if-not-alike.ensures

pub returns : goal.returns
returns g c =
    let T = g.T.AsULE in
    let xs = values_of T.unpack T.WIDTH c.args.a.now in
    let ys = values_of T.unpack T.WIDTH c.args.b.now in
    let long : length xs ≡ length ys = search rules in
    same_gets xs ys long (λ j l. c.loop-i.invariant.same j (omega arith))

pub same_blocks-requires : goal.same_blocks-requires
same_blocks-requires g c =
    same_count g.T.AsULE.unpack g.T.AsULE.WIDTH c.args.a.now c.args.b.now c.requires.a_packed c.requires.b_packed (search rules)

pub loop-i-init : goal.loop-i-init
loop-i-init g c =
    let T = g.T.AsULE in
    let a = c.requires.a_packed in
    let b = c.requires.b_packed in
    let e : length c.args.a.now ≡ length c.args.b.now = same_count T.unpack T.WIDTH c.args.a.now c.args.b.now a b (search rules) in record {
      same = rw c.WIDTH.ensures (same_front T.unpack T.WIDTH c.args.a.now c.args.b.now a b c.same_blocks.result e c.same_blocks.ensures);
    }
