use Rattle.std.proofs.Common.{◌+◌, ◌<◌, length, arith}
use Rattle.std.proofs.lemmas.Grind.{common_steps}
use Rattle.std.proofs.lemmas.List.{take_rest}
use Rattle.ucptab_table.proofs.InputLines.{lines_first, lines_last}
use Rattle.ucptab_table.proofs.input.first_line.Goals as goal

pub returns-then-place-input-clause-some : goal.returns-then-place-input-clause-some
returns-then-place-input-clause-some c =
    rw (c.strip_carriage_return.ensures, take_rest c.args.input.now (c.position_or_len-place.result + 1))
    (lines_first c.args.input.now _ c.position_or_len-place.ensures.place c.if-place-input.true)

pub returns-clause-some : goal.returns-clause-some
returns-clause-some c =
    let some : 0 < length c.args.input.now = grind (arith, common_steps) in
    lines_last c.args.input.now (omega (arith, c.position_or_len-place.ensures.place, c.if-place-input.false)) some
