use Rattle.std.proofs.Common.{rules, tests}
use Rattle.std.specs.Char.{is_digit}
use Rattle.std.proofs.lemmas.Iterator.{YieldsList-from_slice}
use Rattle.std.proofs.lemmas.Iterator.Search.{all_from_yields_List}
use Rattle.ucptab_table.proofs.hint.are_digits.Goals as goal

pub returns : goal.returns
returns c =
    all_from_yields_List (λ x. is_digit x c.args.base) _ _ c.all.result c.all.ensures.ran
    (YieldsList-from_slice c.args.bytes.now c.iter.ensures.rest) (λ x b q k. search (rules, tests))
