use Rattle.std.proofs.Common.{rules, ◌≡◌, true, ◌-◌, Err, length, arith, ap, ◌∙◌}
use Rattle.icu_trie_builder.specs.Inside.Index.Layout.{AllBelow}
use Rattle.icu_trie_builder.specs.Inside.Compaction.Placed.{OccursNowhere}
use Rattle.icu_trie_builder.specs.Inside.Index.IndexParts.{packed_cells}
use Rattle.icu_trie_builder.specs.declared.error.BuildError.TheVariants.{TooLarge}
use Rattle.icu_trie_builder.proofs.IndexLemmas.Indexing.{narrow-high, narrow-unplaced, placed-fast, placed-narrow, placed-wide, wide-unplaced}
use Rattle.icu_trie_builder.proofs.IndexLemmas.PackingLemmas.{packed-len}
use Rattle.icu_trie_builder.proofs.index.index3.place_offsets.Goals as goal

pub place-requires-clause-some : goal.place-requires-clause-some
place-requires-clause-some c =
    let held : c.deref.result.now ≡ packed_cells c.args.offsets.now = c.deref.ensures.value ∙ c.in_ok-packed.ensures in
    omega (arith, ap length held, packed-len c.args.offsets.now, c.requires.offsets)

pub place-requires-clause-limit : goal.place-requires-clause-limit
place-requires-clause-limit c =
    let held : c.deref.result.now ≡ packed_cells c.args.offsets.now = c.deref.ensures.value ∙ c.in_ok-packed.ensures in
    omega (arith, ap length held, packed-len c.args.offsets.now, c.requires.offsets, c.from.ensures)

pub returns-in_err-at-clause-too_large : goal.returns-in_err-at-clause-too_large
returns-in_err-at-clause-too_large c = λ e.
    let r = c.requires in
    let is : c.in_err-at.field-0.0 ≡ TooLarge = search rules in
    let held : c.deref.result.now ≡ packed_cells c.args.offsets.now = c.deref.ensures.value ∙ c.in_ok-packed.ensures in
    let t = rw held at (c.in_err-at.ensures.too_large (ap (λ x. Err x) is)) in
    let wide : AllBelow 0x10000 c.args.offsets.now → ⊥ = λ b. let f : c.fit_16_bits.result ≡ true = c.fit_16_bits.ensures.1 b in cc in
    (omega (arith, t.0, c.from.ensures), wide-unplaced _ _ _ _ r.store r.start r.offsets wide t.1)

pub returns-then-not-fit_16_bits-clause-placed : goal.returns-then-not-fit_16_bits-clause-placed
returns-then-not-fit_16_bits-clause-placed c =
    let r = c.requires in
    let wide : AllBelow 0x10000 c.args.offsets.now → ⊥ = λ b. let f : c.fit_16_bits.result ≡ true = c.fit_16_bits.ensures.1 b in cc in
    let held : c.deref.result.now ≡ packed_cells c.args.offsets.now = c.deref.ensures.value ∙ c.in_ok-packed.ensures in
    let limit : c.from.result - 1 - c.args.start ≡ 0x7ffe - c.args.start = omega (arith, c.from.ensures) in
    placed-wide _ _ _ _ r.store r.start r.offsets wide c.in_ok-at.at c.place.new.self r.offsets_fit
    (rw (held, limit) at c.in_ok-at.ensures.placed)

pub returns-in-Some-clause-placed : goal.returns-in-Some-clause-placed
returns-in-Some-clause-placed c =
    let r = c.requires in
    let f : c.fit_16_bits.result ≡ true = search rules in
    placed-fast _ _ _ _ r.store r.start r.offsets c.in-Some.at r.fast_len (c.fit_16_bits.ensures.0 f)
    (rw c.in-Some.is at c.in_ok-at-2.ensures.found)

pub returns-in_err-at-3-clause-too_large : goal.returns-in_err-at-3-clause-too_large
returns-in_err-at-3-clause-too_large c = λ e.
    let r = c.requires in
    let f : c.fit_16_bits.result ≡ true = search rules in
    let is : c.in_err-at-3.field-0.0 ≡ TooLarge = search rules in
    let t = c.in_err-at-3.ensures.too_large (ap (λ x. Err x) is) in
    let nowhere : OccursNowhere c.args.offsets.now c.args.fast.now = rw c.in_default.is at c.in_ok-at-2.ensures.none in
    (omega (arith, t.0, c.from.ensures), narrow-unplaced _ _ _ _ r.store r.start r.offsets (c.fit_16_bits.ensures.0 f) nowhere t.1)

pub returns-then-at-greatest-clause-too_large : goal.returns-then-at-greatest-clause-too_large
returns-then-at-greatest-clause-too_large c = λ e.
    let r = c.requires in
    let f : c.fit_16_bits.result ≡ true = search rules in
    let limit : c.from.result - 1 - c.args.start ≡ 0x7ffe - c.args.start = omega (arith, c.from.ensures) in
    let nowhere : OccursNowhere c.args.offsets.now c.args.fast.now = rw c.in_default.is at c.in_ok-at-2.ensures.none in
    narrow-high _ _ _ _ r.store r.start r.offsets (c.fit_16_bits.ensures.0 f) nowhere c.in_ok-at-3.at c.place-2.new.self
    (rw limit at c.in_ok-at-3.ensures.placed) (omega (arith, c.if-at-greatest.true, c.from.ensures, r.start))

pub returns-clause-placed : goal.returns-clause-placed
returns-clause-placed c =
    let r = c.requires in
    let f : c.fit_16_bits.result ≡ true = search rules in
    let limit : c.from.result - 1 - c.args.start ≡ 0x7ffe - c.args.start = omega (arith, c.from.ensures) in
    let nowhere : OccursNowhere c.args.offsets.now c.args.fast.now = rw c.in_default.is at c.in_ok-at-2.ensures.none in
    placed-narrow _ _ _ _ r.store r.start r.offsets (c.fit_16_bits.ensures.0 f) nowhere c.in_ok-at-3.at c.place-2.new.self
    (omega (arith, c.if-at-greatest.false, c.from.ensures, r.start)) (rw limit at c.in_ok-at-3.ensures.placed)
