use Rattle.std.proofs.Common.{◌==◌, rules, tests}
use Rattle.std.proofs.lemmas.Iterator.{YieldsList-from_slice}
use Rattle.std.proofs.lemmas.Iterator.Search.{position_from_yields_List}
use Rattle.std.proofs.lemmas.List.Sums.{prefix_len-le-length}
use Rattle.ucptab_table.proofs.Bytes.{place_found, place_missing}
use Rattle.ucptab_table.proofs.rows.position_or_len.Goals as goal

pub returns-in-Some-clause-place : goal.returns-in-Some-clause-place
returns-in-Some-clause-place c =
    place_found _ _ _ (position_from_yields_List (λ b. b == c.args.mark) _ _ _ c.in-Some.ensures.ran
    (YieldsList-from_slice _ c.iter.ensures.rest) (λ x b q k. search (rules, tests)))

pub returns-in-None-clause-place : goal.returns-in-None-clause-place
returns-in-None-clause-place c =
    place_missing _ _ (prefix_len-le-length _ c.args.bytes.now)
    (position_from_yields_List (λ b. b == c.args.mark) _ _ _ c.in-None.ensures.ran (YieldsList-from_slice _ c.iter.ensures.rest)
    (λ x b q k. search (rules, tests)))
