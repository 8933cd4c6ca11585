use Rattle.std.proofs.Common.{◌≡◌, Err, rules}
use Rattle.ucptrie_sets.specs.Sets.{units_in}
use Rattle.ucptrie_sets.proofs.SerializedLemmas.{why_in_units}
use Rattle.ucptrie_sets.proofs.serialized.set_of_bytes.Goals as goal

pub returns-in_err-read-clause-err : goal.returns-in_err-read-clause-err
returns-in_err-read-clause-err c =
    let given : c.from_residual.result ≡ Err c.in_err-read.field-0.0 = search rules in
    let units : c.deref.result.now ≡ units_in c.args.bytes.now = search rules in
    rw given (rw units at (why_in_units _ _ c.in_err-read.ensures.err))
