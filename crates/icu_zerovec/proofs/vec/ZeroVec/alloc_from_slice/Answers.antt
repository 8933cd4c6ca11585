-- The values are those in the slice.
use Rattle.std.proofs.Common.{sym, ◌∙◌}
use Rattle.std.proofs.lemmas.List.{map-id}
use Rattle.std.proofs.lemmas.Iterator.{YieldsList-from_slice}
use Rattle.std.proofs.lemmas.Iterator.Consumers.{YieldsList-from_copied, YieldsList-at}
use Rattle.icu_zerovec.proofs.DrainLemmas.{drained_list}
use Rattle.icu_zerovec.proofs.vec.ZeroVec.alloc_from_slice.Goals as goal

pub returns : goal.returns
returns g c =
    sym (map-id _) ∙ drained_list _ c.in_ok-vector.ensures
    (YieldsList-from_copied (YieldsList-at c.copied.ensures.source (YieldsList-from_slice c.args.values.now cc)))
