use Rattle.std.proofs.Common.{◌==◌, rules}
use Rattle.examples.proofs.tables.runs_of_having.Goals as goal

pub returns : goal.returns
returns c = λ coherent.
    let ran = c.in_ok-ranges.ensures.ran in
    let last = ran.1.2 tt in
    let runs = c.iter_ranges_mapped.ensures.runs (λ x. x == c.args.value)
    (λ x r h. search rules) coherent ran.0 (last.0, (ran.1.0, ran.1.1, last.1)) in
    rw ran.2.0 runs
