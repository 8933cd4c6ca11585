-- A character of three bytes, or one of ASCII, is passed at a time.
use Rattle.std.proofs.Common.{◌≡◌, ◌∙◌, sym, refl, ℕ, ◌+◌, ◌*◌, ◌%◌, ◌<◌, ◌≤◌, List, arith, get_or, length}
use Rattle.std.proofs.lemmas.List.{take_rest}
use mathlib.Core.Bool.{beq}
use Rattle.icu_utf.proofs.CallerLemmas.{part_of_ascii}
use Rattle.icu_frozen_sets.specs.FrozenWords.{is_held}
use Rattle.icu_frozen_sets.proofs.ThreeByteLemmas.{bit_says, other_of, passed_end, same_of, three_starts, walks_more, walks_start}
use Rattle.icu_frozen_sets.proofs.three_byte.skip_three_byte.Goals as goal

pub loop-rest-init : goal.loop-rest-init
loop-rest-init c =
    let bytes : List ℕ = c.args.bytes.now in
    rw (take_rest bytes c.args.start)
    (walks_start (Unit {0}) (is_held c.args.table.now) c.args.held bytes c.args.start c.requires.order)

pub three_bits-requires-clause-most : goal.three_bits-requires-clause-most
three_bits-requires-clause-most c = let t = c.in-Some.ensures c.in-Some.high refl in t.most

pub returns-then-has_bit_of-held : goal.returns-then-has_bit_of-held
returns-then-has_bit_of-held c =
    let table : List ℕ = c.args.table.now in
    let bytes : List ℕ = c.args.bytes.now in
    let rest : List ℕ = c.loop-rest.rest.now in
    let high : ℕ = c.in-Some.high in
    let bits : ℕ = c.in-Some-three_bits.bits in
    let z : ℕ = get_or rest 2 0 in
    let many : 3 ≤ length rest = omega (arith, c.loop-rest-test.true) in
    let s = three_starts rest high many (c.in-Some.ensures high refl) (c.in-Some-three_bits.ensures.three bits refl) in
    let says = bit_says table c.args.held high bits z c.has_bit_of.result (c.in-Some-three_bits.ensures.bits bits refl)
    c.has_bit_of.ensures in
    passed_end (Unit {0}) (is_held table) c.args.held bytes c.args.start rest c.loop-rest.invariant (64 * high + z % 64) 3 s _ refl
    (λ u. other_of _ _ _ says c.if-has_bit_of-held.true)

pub loop-rest-preserved-in-Some : goal.loop-rest-preserved-in-Some
loop-rest-preserved-in-Some c =
    let table : List ℕ = c.args.table.now in
    let bytes : List ℕ = c.args.bytes.now in
    let rest : List ℕ = c.loop-rest.rest.now in
    let high : ℕ = c.in-Some.high in
    let bits : ℕ = c.in-Some-three_bits.bits in
    let z : ℕ = get_or rest 2 0 in
    let many : 3 ≤ length rest = omega (arith, c.loop-rest-test.true) in
    let s = three_starts rest high many (c.in-Some.ensures high refl) (c.in-Some-three_bits.ensures.three bits refl) in
    let says = bit_says table c.args.held high bits z c.has_bit_of.result (c.in-Some-three_bits.ensures.bits bits refl)
    c.has_bit_of.ensures in
    rw (take_rest rest 3) (walks_more (Unit {0}) (is_held table) c.args.held bytes c.args.start rest c.loop-rest.invariant
    (64 * high + z % 64) 3 s (λ u. same_of _ _ _ says c.if-has_bit_of-held.false))

pub returns-then-not-has_short : goal.returns-then-not-has_short
returns-then-not-has_short c =
    let table : List ℕ = c.args.table.now in
    let bytes : List ℕ = c.args.bytes.now in
    let rest : List ℕ = c.loop-rest.rest.now in
    let x : ℕ = get_or rest 0 0 in
    let many : 0 < length rest = omega (arith, c.loop-rest-test.true) in
    let low : x < 128 = c.is_lone_ascii.ensures c.if-not-is_lone_ascii.false in
    let is : c.has_short.result ≡ beq (is_held table x) c.args.held =
    (rw c.from.ensures at c.has_short.ensures) ∙ c.requires.short.bits x (omega (arith, low)) in
    passed_end (Unit {0}) (is_held table) c.args.held bytes c.args.start rest c.loop-rest.invariant x 1 (part_of_ascii rest many low) _ refl
    (λ u. sym is ∙ c.if-not-has_short.true)

pub loop-rest-preserved : goal.loop-rest-preserved
loop-rest-preserved c =
    let table : List ℕ = c.args.table.now in
    let bytes : List ℕ = c.args.bytes.now in
    let rest : List ℕ = c.loop-rest.rest.now in
    let x : ℕ = get_or rest 0 0 in
    let many : 0 < length rest = omega (arith, c.loop-rest-test.true) in
    let low : x < 128 = c.is_lone_ascii.ensures c.if-not-is_lone_ascii.false in
    let is : c.has_short.result ≡ beq (is_held table x) c.args.held =
    (rw c.from.ensures at c.has_short.ensures) ∙ c.requires.short.bits x (omega (arith, low)) in
    rw (take_rest rest 1) (walks_more (Unit {0}) (is_held table) c.args.held bytes c.args.start rest c.loop-rest.invariant x 1
    (part_of_ascii rest many low) (λ u. sym is ∙ c.if-not-has_short.false))
