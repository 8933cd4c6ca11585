use Rattle.std.proofs.Common.{rules}
use Rattle.std.proofs.lemmas.Iterator.Adapters.{YieldsList-from_vec}
use Rattle.icu_collections.specs.CodePointInversionList.{IsUnionOf}
use Rattle.examples.proofs.Collected.{some_from_all}
use Rattle.examples.proofs.sets.collected.Goals as goal

pub returns : goal.returns
returns c =
    let road = YieldsList-from_vec c.args.ranges.items (search rules) (search rules) in
    rw c.ok.ensures.value (some_from_all IsUnionOf c.from_iter.result c.from_iter.ensures.ok road)
