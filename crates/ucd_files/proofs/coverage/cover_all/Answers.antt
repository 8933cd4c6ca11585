use Rattle.ucd_files.proofs.CoverageLemmas.{all_covered}
use Rattle.ucd_files.proofs.coverage.cover_all.Goals as goal

pub returns : goal.returns
returns c = all_covered _ _ c.args.writes.now _ c.all.ensures c.in_ok-points.ensures c.contains_set-2.ensures.subset
