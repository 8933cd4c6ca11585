use Rattle.std.proofs.Common.{◌≡◌, ◌∙◌, ◌/◌, ◌<◌, ◌≤◌, ℕ, Bool, false, ap, arith, refl}
use Rattle.std.specs.Prelude.{◌||◌}
use Rattle.icu_zerovec.specs.CodePoints.{code_point_limit}
use Rattle.icu_invlist.specs.InversionList.{between}
use Rattle.icu_frozen_sets.specs.Inside.Filling.{filled}
use Rattle.icu_frozen_sets.proofs.FillingLemmas.{FlipsFrom, added, added_none, flips_from}
use Rattle.icu_frozen_sets.proofs.filling.Filling.add.Goals as goal

module _ (c : goal.After-flip_from-2) where
  -- The start is marked.
  starts : let m = c.move_to.new.self in
      FlipsFrom c.args.start (filled m.bits m.block (c.args.start / 1024)) (filled m.bits c.flip_from.new.block m.at)
  starts =
      let m = c.move_to.new.self in
      let f = c.flip_from.ensures in
      flips_from m.bits m.block c.flip_from.new.block (c.args.start / 1024) m.at c.args.start refl c.in_ok-move_to.ensures.at
      f.before f.from

  -- The end is marked.
  ends : let u = c.fill_to.new.self in
      FlipsFrom c.args.end (filled u.bits u.block (c.args.end / 1024)) (filled u.bits c.flip_from-2.new.block u.at)
  ends =
      let u = c.fill_to.new.self in
      let f = c.flip_from-2.ensures in
      flips_from u.bits u.block c.flip_from-2.new.block (c.args.end / 1024) u.at c.args.end refl c.in_ok-fill_to.ensures.at
      f.before f.from

  none : let m = c.move_to.new.self in
      (k : ℕ) → c.args.start ≤ k → k < code_point_limit → filled m.bits m.block (c.args.start / 1024) k ≡ false
  none k l h = c.in_ok-move_to.ensures.same k h ∙ c.requires.below.none k l h

pub returns-clause-below : goal.returns-clause-below
returns-clause-below c =
    let m = c.move_to.new.self in
    let at = c.in_ok-fill_to.ensures.at in
    record {
      here = omega (arith, at);
      none = λ k l h. added_none c.args.start c.args.end m.at c.requires.some c.in_ok-move_to.ensures.at _ _ _ _
          (none c) (starts c) c.in_ok-fill_to.ensures.bits (ends c) k h l;
    }

pub returns-clause-bits : goal.returns-clause-bits
returns-clause-bits c = λ k h.
    let m = c.move_to.new.self in
    added c.args.start c.args.end m.at c.requires.some c.in_ok-move_to.ensures.at _ _ _ _
    (none c) (starts c) c.in_ok-fill_to.ensures.bits (ends c) k h
    ∙ ap (λ (b : Bool). b || between c.args.start c.args.end k) (c.in_ok-move_to.ensures.same k h)
