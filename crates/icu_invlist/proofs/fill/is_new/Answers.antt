use Rattle.icu_invlist.proofs.Toggles.{end_found, new_found}
use Rattle.icu_invlist.proofs.fill.is_new.Goals as goal

pub returns : goal.returns
returns c = new_found c.args.ends.now c.args.x c.binary_search.result c.is_err.result
    (end_found _ _ _ c.requires c.binary_search.ensures.position) c.is_err.ensures.value
