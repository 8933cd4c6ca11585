use Rattle.icu_zerovec.specs.Slice.{slice_values}
use Rattle.std.proofs.Common.{◌-◌, sym, ◌∙◌, arith, refl}
use Rattle.std.proofs.lemmas.Bool.{false≢true}
use Rattle.icu_char16trie.specs.Inside.Texts.{units_left}
use Rattle.icu_char16trie.proofs.TextLemmas.{branch_passes, is_other, is_unit, run_differs, run_passes}
use Rattle.icu_char16trie.proofs.text_units.pass_units.Goals as goal

pub returns-then-low-lt-MIN_LINEAR_MATCH-clause-passes : goal.returns-then-low-lt-MIN_LINEAR_MATCH-clause-passes
returns-then-low-lt-MIN_LINEAR_MATCH-clause-passes c =
    branch_passes (slice_values c.args.units) (units_left c.args.text.now) c.args.place c.args.low c.args.unit _ c.child_in_branch.ensures.exact

pub returns-then-ne-clause-passes : goal.returns-then-ne-clause-passes
returns-then-ne-clause-passes c =
    run_differs (slice_values c.args.units) (units_left c.args.text.now) (units_left c.args.text.now) c.args.place c.args.low c.args.unit (c.args.low - 0x2f)
    (omega (arith, c.if-low-lt-MIN_LINEAR_MATCH.false)) refl
    (λ g _. is_other c.unit_at.result c.args.unit c.ne.result c.ne.ensures c.if-ne.true (c.unit_at.ensures.unit ∙ g))

pub returns-then-not-reads_run-clause-passes : goal.returns-then-not-reads_run-clause-passes
returns-then-not-reads_run-clause-passes c =
    run_differs (slice_values c.args.units) (units_left c.args.text.now) (units_left c.reads_run.new.text) c.args.place c.args.low c.args.unit
    c.run_len-count.result (omega (arith, c.if-low-lt-MIN_LINEAR_MATCH.false)) c.run_len-count.ensures
    (λ _ begins. false≢true (sym c.if-not-reads_run.true ∙ c.reads_run.ensures.begins.1 begins))

pub returns-clause-passes : goal.returns-clause-passes
returns-clause-passes c =
    run_passes (slice_values c.args.units) (units_left c.args.text.now) _ c.args.place c.args.low c.args.unit _ c.run_len-count.result
    (omega (arith, c.if-low-lt-MIN_LINEAR_MATCH.false)) c.run_len-count.ensures refl
    (sym c.unit_at.ensures.unit ∙ is_unit c.unit_at.result c.args.unit c.ne.result c.ne.ensures c.if-ne.false)
    (c.reads_run.ensures.begins.0 c.if-not-reads_run.false) (c.reads_run.ensures.left c.if-not-reads_run.false)
