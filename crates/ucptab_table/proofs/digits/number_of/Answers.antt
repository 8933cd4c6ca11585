use Rattle.std.proofs.Common.{◌≤◌, ◌^◌, arith}
use Rattle.std.proofs.lemmas.Grind.{common_steps}
use Rattle.std.proofs.lemmas.Int.Digits.{digits_value_more}
use Rattle.std.proofs.lemmas.List.Folds.{list_all_more}
use Rattle.std.proofs.Math.Nat.{pow-le-pow_right}
use Rattle.ucptab_table.proofs.Powers.{one_digit_more}
use Rattle.ucptab_table.proofs.digits.number_of.Goals as goal

pub loop-byte-preserved : goal.loop-byte-preserved
loop-byte-preserved c = record {
  digits = grind (arith, common_steps, list_all_more);
  value = grind (arith, common_steps, digits_value_more);
  small = grind (arith, common_steps, one_digit_more);
}

pub returns-clause-bound : goal.returns-clause-bound
returns-clause-bound c =
    let more : c.args.base ^ c.loop-byte.byte-index ≤ c.args.base ^ c.args.most = pow-le-pow_right (omega arith) (omega arith) in
    omega arith
