-- The loop passes one character at a time, from the end on.
use Rattle.std.proofs.Common.{◌≡◌, ◌∙◌, ◌-◌, arith, length, refl, sym, take, ℕ, List}
use mathlib.Core.Bool.{beq}
use Rattle.icu_frozen_sets.proofs.LongestSpanLemmas.{back_to_fault, back_to_other, back_to_start, is_alike, is_other, one_less, starts_back}
use Rattle.icu_utf.proofs.CallerLemmas.{last_part}
use Rattle.icu_frozen_sets.proofs.longest_span.span_back.Goals as goal

pub loop-start-init : goal.loop-start-init
loop-start-init g c = record {
  same = refl;
  within = omega arith;
  alike = λ sound. starts_back (g.K.Kind.is_in c.args.kind.now) (g.K.Kind.held c.args.kind.now) c.args.bytes.now;
}

pub returns-in_default-clause-exact : goal.returns-in_default-clause-exact
returns-in_default-clause-exact g c = λ sound.
    let is_in = g.K.Kind.is_in c.args.kind.now in
    let held = g.K.Kind.held c.args.kind.now in
    let bytes : List ℕ = c.args.bytes.now in
    let n : ℕ = c.loop-start.start in
    let within = c.loop-start.invariant.within in
    back_to_fault is_in held bytes n within (c.loop-start.invariant.alike sound) c.in_default.ensures

pub returns-then-not-has-clause-exact : goal.returns-then-not-has-clause-exact
returns-then-not-has-clause-exact g c = λ sound.
    let is_in = g.K.Kind.is_in c.args.kind.now in
    let held = g.K.Kind.held c.args.kind.now in
    let bytes : List ℕ = c.args.bytes.now in
    let n : ℕ = c.loop-start.start in
    let within = c.loop-start.invariant.within in
    let is : c.has.result ≡ beq (is_in c.in-Some.c) held = (rw (c.loop-start.invariant.same, c.from.ensures) at c.has.ensures.is) sound in
    back_to_other is_in held bytes n within (c.loop-start.invariant.alike sound) c.in-Some.c
    (take (length (take n bytes) - c.in-Some.size) (take n bytes)) c.in-Some.ensures.scalar c.in-Some.ensures.bytes_are
    (is_other _ _ (sym is ∙ c.if-not-has.true))

pub loop-start-preserved : goal.loop-start-preserved
loop-start-preserved g c =
    let bytes : List ℕ = c.args.bytes.now in
    let n : ℕ = c.loop-start.start in
    let within = c.loop-start.invariant.within in
    let last = last_part bytes n c.in-Some.c c.in-Some.size within c.in-Some.ensures in
    record {
      same = c.has.ensures.same ∙ c.loop-start.invariant.same;
      within = omega (arith, within);
      alike = λ sound.
          let is_in = g.K.Kind.is_in c.args.kind.now in
          let held = g.K.Kind.held c.args.kind.now in
          let is : c.has.result ≡ beq (is_in c.in-Some.c) held =
          (rw (c.loop-start.invariant.same, c.from.ensures) at c.has.ensures.is) sound in
          one_less is_in held bytes n within (c.loop-start.invariant.alike sound) c.in-Some.c c.in-Some.size c.in-Some.ensures.scalar
          last.0 last.1 (is_alike _ _ (sym is ∙ c.if-not-has.false));
    }

pub returns-clause-exact : goal.returns-clause-exact
returns-clause-exact g c = λ sound.
    let is_in = g.K.Kind.is_in c.args.kind.now in
    let held = g.K.Kind.held c.args.kind.now in
    let bytes : List ℕ = c.args.bytes.now in
    let n : ℕ = c.loop-start.start in
    let within = c.loop-start.invariant.within in
    let none : n ≡ 0 = omega (arith, c.loop-start-test.false) in
    rw none at (back_to_start is_in held bytes n within (c.loop-start.invariant.alike sound) none)
