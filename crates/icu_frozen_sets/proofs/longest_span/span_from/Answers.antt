-- The loop passes ASCII, eight bytes at a time as far as `skip_ascii_blocks` does, and other characters one by one.
use Rattle.std.proofs.Common.{◌≡◌, ◌∙◌, ◌+◌, ◌<◌, ◌≤◌, arith, drop, length, rules, sym, ℕ, List}
use Rattle.std.proofs.lemmas.List.{take_rest}
use mathlib.Core.Bool.{beq}
use Rattle.icu_frozen_sets.proofs.LongestSpanLemmas.{after_ascii, ascii_to_end, ascii_to_other, is_other, span_to_end, span_to_fault, span_to_other}
use Rattle.icu_utf.proofs.CallerLemmas.{past_part}
use Rattle.icu_frozen_sets.proofs.ThreeByteLemmas.{next_held, span_passed}
use Rattle.icu_frozen_sets.proofs.longest_span.span_from.Goals as goal

pub returns-in-Some-clause-exact : goal.returns-in-Some-clause-exact
returns-in-Some-clause-exact g c = λ sound all.
    let found = rw c.loop-passed.invariant.same at c.rest.ensures.found in
    found c.in-Some.result (search rules) sound (c.loop-passed.invariant.alike sound all)

pub returns-then-passed-bytes-clause-exact : goal.returns-then-passed-bytes-clause-exact
returns-then-passed-bytes-clause-exact g c = λ sound all.
    let is_in = g.K.Kind.is_in c.args.kind.now in
    let held = g.K.Kind.held c.args.kind.now in
    let bytes : List ℕ = c.args.bytes.now in
    let plain : ℕ = c.skip_ascii_blocks-plain.result in
    let n : ℕ = c.skip_ascii-passed.result in
    let p = c.skip_ascii_blocks-plain.ensures in
    let a = c.skip_ascii-passed.ensures in
    let kind = c.rest.ensures.same ∙ c.loop-passed.invariant.same in
    let before = after_ascii is_in held bytes c.loop-passed.passed plain p.order p.within p.ascii ((rw kind at p.passed) sound)
    (c.loop-passed.invariant.alike sound all) in
    ascii_to_end is_in held bytes plain n a.order a.within a.ascii ((rw (p.same ∙ kind) at a.passed) sound) before
    c.if-passed-bytes.true

pub returns-then-bytes-passed-lt128-2-clause-exact : goal.returns-then-bytes-passed-lt128-2-clause-exact
returns-then-bytes-passed-lt128-2-clause-exact g c = λ sound all.
    let is_in = g.K.Kind.is_in c.args.kind.now in
    let held = g.K.Kind.held c.args.kind.now in
    let bytes : List ℕ = c.args.bytes.now in
    let plain : ℕ = c.skip_ascii_blocks-plain.result in
    let n : ℕ = c.skip_ascii-passed.result in
    let p = c.skip_ascii_blocks-plain.ensures in
    let a = c.skip_ascii-passed.ensures in
    let kind = c.rest.ensures.same ∙ c.loop-passed.invariant.same in
    let before = after_ascii is_in held bytes c.loop-passed.passed plain p.order p.within p.ascii ((rw kind at p.passed) sound)
    (c.loop-passed.invariant.alike sound all) in
    let more : n < length bytes = omega (arith, c.if-passed-bytes.false) in
    ascii_to_other is_in held bytes plain n a.order a.within a.ascii ((rw (p.same ∙ kind) at a.passed) sound) before more
    c.if-bytes-passed-lt128-2.true ((rw (p.same ∙ kind) at a.stops) sound more c.if-bytes-passed-lt128-2.true)

pub loop-passed-preserved-then-bytes-passed-lt128 : goal.loop-passed-preserved-then-bytes-passed-lt128
loop-passed-preserved-then-bytes-passed-lt128 g c = record {
  same = c.skip_ascii-passed.ensures.same ∙ (c.skip_ascii_blocks-plain.ensures.same ∙ (c.rest.ensures.same ∙ c.loop-passed.invariant.same));
  within = c.skip_ascii-passed.ensures.within;
  alike = λ sound all.
      let is_in = g.K.Kind.is_in c.args.kind.now in
      let held = g.K.Kind.held c.args.kind.now in
      let bytes : List ℕ = c.args.bytes.now in
      let plain : ℕ = c.skip_ascii_blocks-plain.result in
      let n : ℕ = c.skip_ascii-passed.result in
      let p = c.skip_ascii_blocks-plain.ensures in
      let a = c.skip_ascii-passed.ensures in
      let kind = c.rest.ensures.same ∙ c.loop-passed.invariant.same in
      let before = after_ascii is_in held bytes c.loop-passed.passed plain p.order p.within p.ascii ((rw kind at p.passed) sound)
      (c.loop-passed.invariant.alike sound all) in
      after_ascii is_in held bytes plain n a.order a.within a.ascii ((rw (p.same ∙ kind) at a.passed) sound) before;
}

pub returns-in_default-first_character-clause-exact : goal.returns-in_default-first_character-clause-exact
returns-in_default-first_character-clause-exact g c = λ sound all.
    let is_in = g.K.Kind.is_in c.args.kind.now in
    let held = g.K.Kind.held c.args.kind.now in
    let bytes : List ℕ = c.args.bytes.now in
    let n : ℕ = c.loop-passed.passed in
    let within : n ≤ length bytes = c.loop-passed.invariant.within in
    let alike = c.loop-passed.invariant.alike sound all in
    span_to_fault is_in held bytes n within alike (rw (take_rest bytes n) at c.in_default-first_character.ensures)

pub returns-then-not-has-clause-exact : goal.returns-then-not-has-clause-exact
returns-then-not-has-clause-exact g c = λ sound all.
    let is_in = g.K.Kind.is_in c.args.kind.now in
    let held = g.K.Kind.held c.args.kind.now in
    let bytes : List ℕ = c.args.bytes.now in
    let n : ℕ = c.loop-passed.passed in
    let within : n ≤ length bytes = c.loop-passed.invariant.within in
    let alike = c.loop-passed.invariant.alike sound all in
    let char : ℕ = c.in-Some-first_character.c in
    let size : ℕ = c.in-Some-first_character.size in
    let part = rw (take_rest bytes n) at c.in-Some-first_character.ensures in
    let is : c.has.result ≡ beq (is_in char) held =
    (rw (c.rest.ensures.same ∙ c.loop-passed.invariant.same, c.from.ensures) at c.has.ensures.is) sound in
    span_to_other is_in held bytes n within alike char (drop size (drop n bytes))
    part.0 part.2 (is_other _ _ (sym is ∙ c.if-not-has.true))

pub skip_three_byte-wide-requires : goal.skip_three_byte-wide-requires
skip_three_byte-wide-requires g c =
    let bytes : List ℕ = c.args.bytes.now in
    let n : ℕ = c.loop-passed.passed in
    let part = rw (take_rest bytes n) at c.in-Some-first_character.ensures in
    past_part bytes n c.in-Some-first_character.size c.in-Some-first_character.c c.loop-passed.invariant.within part.1 part.2

pub loop-passed-preserved-then-size-ne3 : goal.loop-passed-preserved-then-size-ne3
loop-passed-preserved-then-size-ne3 g c =
    let bytes : List ℕ = c.args.bytes.now in
    let n : ℕ = c.loop-passed.passed in
    let within : n ≤ length bytes = c.loop-passed.invariant.within in
    let char : ℕ = c.in-Some-first_character.c in
    let size : ℕ = c.in-Some-first_character.size in
    let part = rw (take_rest bytes n) at c.in-Some-first_character.ensures in
    let there : n + size ≤ length bytes = past_part bytes n size char within part.1 part.2 in
    record {
      same = c.has.ensures.same ∙ (c.rest.ensures.same ∙ c.loop-passed.invariant.same);
      within = there;
      alike = λ sound all.
          let is_in = g.K.Kind.is_in c.args.kind.now in
          let held = g.K.Kind.held c.args.kind.now in
          let is : c.has.result ≡ beq (is_in char) held =
          (rw (c.rest.ensures.same ∙ c.loop-passed.invariant.same, c.from.ensures) at c.has.ensures.is) sound in
          next_held is_in held bytes n within (c.loop-passed.invariant.alike sound all) char size part there
          (sym is ∙ c.if-not-has.false);
    }

pub returns-then-wide-clause-exact : goal.returns-then-wide-clause-exact
returns-then-wide-clause-exact g c = λ sound all.
    let is_in = g.K.Kind.is_in c.args.kind.now in
    let held = g.K.Kind.held c.args.kind.now in
    let bytes : List ℕ = c.args.bytes.now in
    let n : ℕ = c.loop-passed.passed in
    let within : n ≤ length bytes = c.loop-passed.invariant.within in
    let char : ℕ = c.in-Some-first_character.c in
    let size : ℕ = c.in-Some-first_character.size in
    let part = rw (take_rest bytes n) at c.in-Some-first_character.ensures in
    let there : n + size ≤ length bytes = past_part bytes n size char within part.1 part.2 in
    let is : c.has.result ≡ beq (is_in char) held =
    (rw (c.rest.ensures.same ∙ c.loop-passed.invariant.same, c.from.ensures) at c.has.ensures.is) sound in
    let alike = next_held is_in held bytes n within (c.loop-passed.invariant.alike sound all) char size part there
    (sym is ∙ c.if-not-has.false) in
    let kind = c.has.ensures.same ∙ (c.rest.ensures.same ∙ c.loop-passed.invariant.same) in
    let p = rw kind at c.skip_three_byte-wide.ensures.passed in
    span_passed (g.K.Kind.is_sound c.args.kind.now) is_in held bytes (n + size) c.skip_three_byte-wide.result p sound c.if-wide.true
    alike

pub loop-passed-preserved : goal.loop-passed-preserved
loop-passed-preserved g c =
    let bytes : List ℕ = c.args.bytes.now in
    let n : ℕ = c.loop-passed.passed in
    let within : n ≤ length bytes = c.loop-passed.invariant.within in
    let char : ℕ = c.in-Some-first_character.c in
    let size : ℕ = c.in-Some-first_character.size in
    let part = rw (take_rest bytes n) at c.in-Some-first_character.ensures in
    let there : n + size ≤ length bytes = past_part bytes n size char within part.1 part.2 in
    let kind = c.has.ensures.same ∙ (c.rest.ensures.same ∙ c.loop-passed.invariant.same) in
    let p = rw kind at c.skip_three_byte-wide.ensures.passed in
    record {
      same = c.skip_three_byte-wide.ensures.same ∙ kind;
      within = p.within;
      alike = λ sound all.
          let is_in = g.K.Kind.is_in c.args.kind.now in
          let held = g.K.Kind.held c.args.kind.now in
          let is : c.has.result ≡ beq (is_in char) held =
          (rw (c.rest.ensures.same ∙ c.loop-passed.invariant.same, c.from.ensures) at c.has.ensures.is) sound in
          p.alike sound (next_held is_in held bytes n within (c.loop-passed.invariant.alike sound all) char size part there
          (sym is ∙ c.if-not-has.false));
    }

pub returns-clause-exact : goal.returns-clause-exact
returns-clause-exact g c = λ sound all.
    let is_in = g.K.Kind.is_in c.args.kind.now in
    let held = g.K.Kind.held c.args.kind.now in
    let bytes : List ℕ = c.args.bytes.now in
    let n : ℕ = c.loop-passed.passed in
    let within : n ≤ length bytes = c.loop-passed.invariant.within in
    let alike = c.loop-passed.invariant.alike sound all in
    span_to_end is_in held bytes n within alike (omega (arith, within, c.loop-passed-test.false))
