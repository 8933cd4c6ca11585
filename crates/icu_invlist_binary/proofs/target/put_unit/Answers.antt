use Rattle.icu_invlist_binary.proofs.PutLemmas.{put_one}
use Rattle.icu_invlist_binary.proofs.target.put_unit.Goals as goal

pub returns-clause-put : goal.returns-clause-put
returns-clause-put c = put_one c.args.target.now c.args.at c.args.unit c.requires
