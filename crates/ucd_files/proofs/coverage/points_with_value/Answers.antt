use Rattle.std.proofs.Common.{refl}
use Rattle.icu_invlist.proofs.CallerLemmas.{holds-nil}
use Rattle.ucd_files.proofs.coverage.points_with_value.Goals as goal

pub loop-rest-init : goal.loop-rest-init
loop-rest-init c = λ k below. rw (c.new-points.ensures, holds-nil k) refl
