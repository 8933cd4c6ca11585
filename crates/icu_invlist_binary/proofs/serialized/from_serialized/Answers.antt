use Rattle.std.proofs.Common.{rules}
use Rattle.icu_invlist_binary.specs.SerializedSet.{IsWhyNotRead}
use Rattle.icu_invlist_binary.proofs.ReadFaults.{refused_counts}
use Rattle.icu_invlist_binary.proofs.serialized.from_serialized.Goals as goal

pub returns-in_err-lent-clause-err : goal.returns-in_err-lent-clause-err
returns-in_err-lent-clause-err c = let k : IsWhyNotRead c.args.units.now c.in_err-lent.field-0.0 =
    refused_counts c.args.units.now c.in_err-lent.field-0.0 c.in_err-lent.ensures.says in search rules
