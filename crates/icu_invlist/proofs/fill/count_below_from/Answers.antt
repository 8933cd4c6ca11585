use Rattle.std.proofs.Common.{arith, suc}
use Rattle.icu_zerovec.specs.CodePoints.{code_point_limit}
use Rattle.icu_invlist.proofs.RunLemmas.{ends_below-le}
use Rattle.icu_invlist.proofs.Splices.{stays_below}
use Rattle.icu_invlist.proofs.fill.count_below_from.Goals.{else-from-ends-via-then-from-ends+else-ends-from, else-from-ends-via-else-from-ends}
use Rattle.icu_invlist.proofs.fill.count_below_from.Goals as goal

pub returns-clause-count : goal.returns-clause-count
returns-clause-count c = elim c.else-from-ends.branch [
  | else-from-ends-via-then-from-ends+else-ends-from w ↦ stays_below (suc code_point_limit) c.args.ends.now c.args.from c.args.c
      c.requires.rises c.requires.from (let t = w.if-ends-from.false in omega arith)
  | else-from-ends-via-else-from-ends w ↦ (let t = w.if-from-ends.false in
      let u = ends_below-le c.args.ends.now c.args.c in let r = c.requires.from in omega arith)
]

pub returns-clause-within : goal.returns-clause-within
returns-clause-within c = let u = ends_below-le c.args.ends.now c.args.c in let r = c.requires.from in omega arith
