use Rattle.std.proofs.Common.{◌≡◌, ℕ, Bool, true, false, arith, length, refl}
use Rattle.std.proofs.lemmas.Result.{on_ok_weaker}
use Rattle.icu_frozen_sets.specs.Inside.Filling.{SetsBlock, is_odd_at}
use Rattle.icu_frozen_sets.proofs.BlockLemmas.{sets_empty, uniform_block}
use Rattle.icu_frozen_sets.proofs.ParityLemmas.{never_same, only_odd}
use Rattle.icu_frozen_sets.proofs.bits.FrozenWords.set_block.Goals as goal

pub returns-then-is_only-clause-sets : goal.returns-then-is_only-clause-sets
returns-then-is_only-clause-sets c =
    uniform_block c.args.self.now c.args.self.now (is_odd_at c.args.marks.now) c.args.at false
    (sets_empty c.args.self.now c.args.at c.requires.filling (omega (arith, c.if-at-eq0.false)) c.requires.there)
    (only_odd c.args.marks.now 0 (omega arith) (c.if-is_only.ensures.0 refl))

pub returns-then-is_only-2-clause-sets : goal.returns-then-is_only-2-clause-sets
returns-then-is_only-2-clause-sets c =
    uniform_block c.args.self.now c.set_full.new.self (is_odd_at c.args.marks.now) c.args.at true
    c.set_full.ensures.sets (only_odd c.args.marks.now 1 (omega arith) (c.if-is_only-2.ensures.0 refl))

pub returns-clause-shared : goal.returns-clause-shared
returns-clause-shared c =
    let marks = c.args.marks.now in
    let P : Type 0 = SetsBlock c.args.self.now c.set_own.new.self c.args.at (is_odd_at marks) in
    let Q : Type 0 = (value : Bool) → ((k : ℕ) → is_odd_at marks k ≡ value) → length c.set_own.new.self ≡ length c.args.self.now in
    let never : P → Q = λ a value u. absurd (never_same marks value c.is_only.result c.is_only-2.result c.fits-marks
    c.if-is_only.false c.if-is_only-2.false c.is_only.ensures.1 c.is_only-2.ensures.1 u) in
    on_ok_weaker _ never c.set_own.ensures
