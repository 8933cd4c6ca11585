-- A round passes ill-formed bytes, and then the span after them.
use Rattle.std.proofs.Common.{◌≡◌, Bool, List, arith, ℕ}
use Rattle.std.proofs.lemmas.List.{take_rest}
use Rattle.icu_invlist.proofs.CallerLemmas.{is_unwanted, is_wanted}
use Rattle.icu_frozen_sets.specs.FrozenWords.{is_held}
use Rattle.icu_frozen_sets.proofs.LongestSpanLemmas.{is_alike, is_other}
use Rattle.icu_frozen_sets.proofs.LossySpanLemmas.{first_span, lossy_to_end, lossy_to_fault, lossy_to_other, next_span}
use Rattle.icu_frozen_sets.proofs.lossy_spans.lossy_span.Goals as goal

pub returns-then-contains-held : goal.returns-then-contains-held
returns-then-contains-held c =
    let is_in = is_held c.args.table.now in
    let held : Bool = c.args.held in
    let bytes : List ℕ = c.args.bytes.now in
    let n : ℕ = c.frozen_span-passed.result in
    lossy_to_fault bytes is_in held n (first_span bytes is_in held n c.frozen_span-passed.ensures)
    (is_other _ _ (is_unwanted held c.contains.ensures c.if-contains-held.true))

pub loop-passed-init : goal.loop-passed-init
loop-passed-init c = record {
  reached = first_span c.args.bytes.now (is_held c.args.table.now) c.args.held c.frozen_span-passed.result
      c.frozen_span-passed.ensures;
}

pub returns-then-next-passed : goal.returns-then-next-passed
returns-then-next-passed c =
    let is_in = is_held c.args.table.now in
    let held : Bool = c.args.held in
    let bytes : List ℕ = c.args.bytes.now in
    let n : ℕ = c.loop-passed.passed in
    let next : ℕ = c.skip_ill_formed-next.result in
    let same : next ≡ n = c.if-next-passed.true in
    let found = (rw same at c.skip_ill_formed-next.ensures.character) (omega (arith, c.loop-passed-test.true)) in
    lossy_to_other bytes is_in held n c.loop-passed.invariant.reached found.0 found.1 found.2

pub loop-passed-preserved : goal.loop-passed-preserved
loop-passed-preserved c =
    let is_in = is_held c.args.table.now in
    let held : Bool = c.args.held in
    let bytes : List ℕ = c.args.bytes.now in
    let next : ℕ = c.skip_ill_formed-next.result in
    let skipped = c.skip_ill_formed-next.ensures in
    record {
      reached = next_span bytes is_in held c.loop-passed.passed next c.frozen_span.result c.loop-passed.invariant.reached
          (is_alike _ _ (is_wanted held c.contains.ensures c.if-contains-held.false)) skipped.order skipped.within skipped.none
          (rw (take_rest bytes next) at c.frozen_span.ensures);
    }

pub returns : goal.returns
returns c =
    lossy_to_end c.args.bytes.now (is_held c.args.table.now) c.args.held c.loop-passed.passed c.loop-passed.invariant.reached
    (omega (arith, c.loop-passed-test.false))
