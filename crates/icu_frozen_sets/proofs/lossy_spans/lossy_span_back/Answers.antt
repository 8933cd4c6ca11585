-- A round passes ill-formed bytes, and then the span before them.
use Rattle.std.proofs.Common.{◌≡◌, Bool, List, arith, ℕ}
use Rattle.icu_invlist.proofs.CallerLemmas.{is_unwanted, is_wanted}
use Rattle.icu_frozen_sets.specs.FrozenWords.{is_held}
use Rattle.icu_frozen_sets.proofs.LongestSpanLemmas.{is_alike, is_other}
use Rattle.icu_frozen_sets.proofs.LossySpanLemmas.{last_span, lossy_back_to_fault, lossy_back_to_other, lossy_back_to_start, next_span_back}
use Rattle.icu_frozen_sets.proofs.lossy_spans.lossy_span_back.Goals as goal

pub returns-then-contains-held : goal.returns-then-contains-held
returns-then-contains-held c =
    let is_in = is_held c.args.table.now in
    let held : Bool = c.args.held in
    let bytes : List ℕ = c.args.bytes.now in
    let n : ℕ = c.span_back-start.result in
    lossy_back_to_fault bytes is_in held n (last_span bytes is_in held n ((rw c.new.ensures at c.span_back-start.ensures.exact) tt))
    (is_other _ _ (is_unwanted held c.contains.ensures c.if-contains-held.true))

pub loop-start-init : goal.loop-start-init
loop-start-init c = record {
  reached = last_span c.args.bytes.now (is_held c.args.table.now) c.args.held c.span_back-start.result
      ((rw c.new.ensures at c.span_back-start.ensures.exact) tt);
}

pub returns-then-next-start : goal.returns-then-next-start
returns-then-next-start c =
    let is_in = is_held c.args.table.now in
    let held : Bool = c.args.held in
    let bytes : List ℕ = c.args.bytes.now in
    let n : ℕ = c.loop-start.start in
    let next : ℕ = c.skip_ill_formed_back-next.result in
    let same : next ≡ n = c.if-next-start.true in
    let found = (rw same at c.skip_ill_formed_back-next.ensures.character) (omega (arith, c.loop-start-test.true)) in
    lossy_back_to_other bytes is_in held n c.loop-start.invariant.reached found.0 found.1 found.2

pub loop-start-preserved : goal.loop-start-preserved
loop-start-preserved c =
    let is_in = is_held c.args.table.now in
    let held : Bool = c.args.held in
    let bytes : List ℕ = c.args.bytes.now in
    let next : ℕ = c.skip_ill_formed_back-next.result in
    let skipped = c.skip_ill_formed_back-next.ensures in
    record {
      reached = next_span_back bytes is_in held c.loop-start.start next c.span_back-start-in-loop-start.result
          c.loop-start.invariant.reached (is_alike _ _ (is_wanted held c.contains.ensures c.if-contains-held.false))
          skipped.order skipped.none ((rw c.new-in-loop-start.ensures at c.span_back-start-in-loop-start.ensures.exact) tt);
    }

pub returns : goal.returns
returns c =
    let none : c.loop-start.start ≡ 0 = omega (arith, c.loop-start-test.false) in
    rw none at (lossy_back_to_start c.args.bytes.now (is_held c.args.table.now) c.args.held c.loop-start.start
    c.loop-start.invariant.reached none)
