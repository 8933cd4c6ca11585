use Rattle.icu_zerovec.specs.Slice.{slice_values}
use Rattle.std.proofs.Common.{◌≢◌, ◌<◌, length, sym, ◌∙◌, arith, refl}
use Rattle.std.proofs.lemmas.Bool.{false≢true, eqb-false}
use Rattle.std.proofs.lemmas.Option.{slice_get-get_or}
use Rattle.icu_char16trie.proofs.RunLemmas.{leaves_branch, leaves_run, passes_branch, passes_run}
use Rattle.icu_char16trie.proofs.dictionary.pass_match.Goals as goal

pub returns-then-not-begins_run : goal.returns-then-not-begins_run
returns-then-not-begins_run c =
    leaves_run (slice_values c.args.units) c.args.text.now c.args.place c.args.low _ c.if-low-ge-MIN_LINEAR_MATCH.true
    c.run_len-count.ensures
    (λ begins. false≢true (sym c.if-not-begins_run.true ∙ c.begins_run.ensures.1 begins))

pub returns-then-low-ge-MIN_LINEAR_MATCH : goal.returns-then-low-ge-MIN_LINEAR_MATCH
returns-then-low-ge-MIN_LINEAR_MATCH c =
    passes_run (slice_values c.args.units) c.args.text.now c.args.place c.args.low _ _ c.if-low-ge-MIN_LINEAR_MATCH.true
    c.run_len-count.ensures refl (c.begins_run.ensures.0 c.if-not-begins_run.false)

pub returns-in_err-child : goal.returns-in_err-child
returns-in_err-child c =
    let not_empty : length c.args.text.now ≢ 0 = eqb-false _ 0 (sym c.is_empty.ensures ∙ c.if-is_empty.false) in
    let some : 0 < length c.args.text.now = omega arith in
    rw c.from_residual.ensures
    (leaves_branch (slice_values c.args.units) c.args.text.now c.args.place c.args.low _ some (slice_get-get_or c.args.text.now 0 0 some)
    c.in_err-child.ensures.exact)

pub returns : goal.returns
returns c =
    let not_empty : length c.args.text.now ≢ 0 = eqb-false _ 0 (sym c.is_empty.ensures ∙ c.if-is_empty.false) in
    let some : 0 < length c.args.text.now = omega arith in
    passes_branch (slice_values c.args.units) c.args.text.now c.args.place c.args.low _ _ some (slice_get-get_or c.args.text.now 0 0 some)
    c.in_ok-child.ensures.exact
