-- The loop counts the units of one code point after another.
use Rattle.std.proofs.Common.{◌≡◌, ◌∙◌, ◌^◌, ◌<◌, arith, length, refl, rules, sym, ℕ, Bool}
use mathlib.Core.Bool.{beq}
use Rattle.icu_utf.specs.Utf16.{code_points_of}
use Rattle.icu_frozen_sets.proofs.LongestSpanLemmas.{units_end, units_none, units_one, units_room, units_stop}
use Rattle.icu_frozen_sets.proofs.longest_span.span_units.Goals as goal

pub loop-c-init : goal.loop-c-init
loop-c-init g c =
    let sound : Type 0 = g.K.Kind.is_sound c.args.kind.now in
    let test : ℕ → Bool = λ k. beq (g.K.Kind.is_in c.args.kind.now k) (g.K.Kind.held c.args.kind.now) in
    record { same = refl; so_far = units_none sound test c.args.units.now }

pub returns-then-not-has : goal.returns-then-not-has
returns-then-not-has g c = λ s.
    let sound : Type 0 = g.K.Kind.is_sound c.args.kind.now in
    let test : ℕ → Bool = λ k. beq (g.K.Kind.is_in c.args.kind.now k) (g.K.Kind.held c.args.kind.now) in
    let is : sound → c.has.result ≡ test c.in-Some.c = rw c.loop-c.invariant.same at c.has.ensures.is in
    units_stop sound test c.args.units.now c.loop-c.rest.now c.loop-c.passed c.loop-c.invariant.so_far s
    c.in-Some.c (code_points_of c.in-Some.after.now) c.in-Some.ensures (sym (is s) ∙ c.if-not-has.true)

pub overflow_add-passed : goal.overflow_add-passed
overflow_add-passed g c =
    let sound : Type 0 = g.K.Kind.is_sound c.args.kind.now in
    let test : ℕ → Bool = λ k. beq (g.K.Kind.is_in c.args.kind.now k) (g.K.Kind.held c.args.kind.now) in
    let room = units_room sound test c.args.units.now c.loop-c.rest.now c.loop-c.passed c.loop-c.invariant.so_far
    c.in-Some.after.now c.in-Some.c c.in-Some.ensures in
    let few : length c.args.units.now < 2 ^ 63 = search rules in
    omega (arith, room, few, c.unit_size-passed.ensures)

pub loop-c-preserved : goal.loop-c-preserved
loop-c-preserved g c =
    let sound : Type 0 = g.K.Kind.is_sound c.args.kind.now in
    let test : ℕ → Bool = λ k. beq (g.K.Kind.is_in c.args.kind.now k) (g.K.Kind.held c.args.kind.now) in
    let is : sound → c.has.result ≡ test c.in-Some.c = rw c.loop-c.invariant.same at c.has.ensures.is in
    rw c.unit_size-passed.ensures (record {
      same = c.has.ensures.same ∙ c.loop-c.invariant.same;
      so_far = units_one sound test c.args.units.now c.loop-c.rest.now c.loop-c.passed c.loop-c.invariant.so_far
          c.in-Some.after.now c.in-Some.c c.in-Some.ensures (λ s. sym (is s) ∙ c.if-not-has.false);
    })

pub returns : goal.returns
returns g c = λ s.
    let sound : Type 0 = g.K.Kind.is_sound c.args.kind.now in
    let test : ℕ → Bool = λ k. beq (g.K.Kind.is_in c.args.kind.now k) (g.K.Kind.held c.args.kind.now) in
    units_end sound test c.args.units.now c.loop-c.rest.now c.loop-c.passed c.loop-c.invariant.so_far s c.in_default.ensures.1
