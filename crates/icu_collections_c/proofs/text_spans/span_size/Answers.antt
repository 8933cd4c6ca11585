use Rattle.std.proofs.Common.{◌+◌, drop, length-drop, arith}
use Rattle.icu_char16trie.specs.Matches.{HasValueAlong}
use Rattle.icu_frozen_sets.specs.FrozenWords.{is_held}
use Rattle.icu_collections_c.specs.TextSets.{IsMember, IsTextOf}
use Rattle.icu_collections_c.specs.TextSpans.{IsStep}
use Rattle.icu_collections_c.specs.UnitTries.{units_of}
use Rattle.icu_collections_c.proofs.TextSpanLemmas.{passed_first, passed_last, passed_next, step_within}
use Rattle.icu_collections_c.proofs.text_spans.span_size.Goals as goal

pub loop-size-init : goal.loop-size-init
loop-size-init c =
    let units = units_of c.args.units.now in
    let bytes = c.args.bytes.now in
    let size = c.step_at-size.result in
    let first = c.step_at-size.ensures in
    record {
      within = omega (arith, step_within (IsMember (is_held c.args.table.now) (HasValueAlong units)) c.args.held bytes size first.exact);
      set = λ set s. passed_first (IsStep (IsTextOf set) c.args.held) bytes size (first.set set s);
      exact = passed_first (IsStep (IsMember (is_held c.args.table.now) (HasValueAlong units)) c.args.held) bytes size first.exact;
    }

pub loop-size-preserved : goal.loop-size-preserved
loop-size-preserved c =
    let units = units_of c.args.units.now in
    let bytes = c.args.bytes.now in
    let end = c.loop-size.end in
    let size = c.loop-size.size in
    let next = c.step_at-size-in-loop-size.result in
    let step = c.step_at-size-in-loop-size.ensures in
    let was = c.loop-size.invariant in
    record {
      within =
          let inside = step_within (IsMember (is_held c.args.table.now) (HasValueAlong units)) c.args.held (drop (end + size) bytes) next
          step.exact in
          omega (arith, inside, length-drop (end + size) bytes, was.within);
      set = λ set s.
          passed_next (IsStep (IsTextOf set) c.args.held) bytes end size next (was.set set s) c.loop-size-test.true (step.set set s);
      exact =
          passed_next (IsStep (IsMember (is_held c.args.table.now) (HasValueAlong units)) c.args.held) bytes end size next was.exact
          c.loop-size-test.true step.exact;
    }

pub returns-clause-exact : goal.returns-clause-exact
returns-clause-exact c =
    passed_last (IsStep (IsMember (is_held c.args.table.now) (HasValueAlong (units_of c.args.units.now))) c.args.held) c.args.bytes.now
    c.loop-size.end c.loop-size.size c.loop-size.invariant.exact (omega (arith, c.loop-size-test.false))

pub returns-clause-set : goal.returns-clause-set
returns-clause-set c = λ set s.
    passed_last (IsStep (IsTextOf set) c.args.held) c.args.bytes.now c.loop-size.end c.loop-size.size (c.loop-size.invariant.set set s)
    (omega (arith, c.loop-size-test.false))
