use Rattle.std.proofs.Common.{◌≡◌, ◌∙◌, ℕ, ◌<◌, List, ap, sym, arith, slice_index, slice_index_or, false}
use Rattle.std.proofs.lemmas.Bool.Decides.{nat_tests}
use Rattle.icu_invlist.specs.InversionList.{holds}
use Rattle.icu_invlist.proofs.CallerLemmas.{is_unwanted, is_wanted, passed_boundary, passed_none}
use Rattle.icu_frozen_sets.proofs.SpanLemmas.{passed_ascii}
use Rattle.icu_frozen_sets.proofs.frozen.FrozenCodePointSet.past_ascii.Goals as goal

pub loop-end-init : goal.loop-end-init
loop-end-init c = passed_none _ c.args.text.now c.args.start c.utf8.text c.requires

pub returns-then-byte-ge128-clause-boundary : goal.returns-then-byte-ge128-clause-boundary
returns-then-byte-ge128-clause-boundary c = passed_boundary c.loop-end.invariant

pub loop-end-preserved : goal.loop-end-preserved
loop-end-preserved c =
    let byte = slice_index c.args.text.now c.loop-end.end in
    let low : byte < 128 = grind (arith, nat_tests, c.if-byte-ge128.false) in
    let read : byte ≡ slice_index c.as_bytes-bytes.result.now c.loop-end.end = ap (λ (bs : List ℕ). slice_index bs c.loop-end.end)
    (sym c.as_bytes-bytes.ensures.value) in
    let told : holds c.args.self.now byte ≡ slice_index_or c.self.inside.ascii byte false = rw (← c.self.view_is) (sym
    (c.self.invariant.first byte low)) in
    passed_ascii c.loop-end.invariant (omega (arith, c.loop-end-test.true)) low
    (is_wanted _ (sym (told ∙ ap (λ (n : ℕ). slice_index_or c.self.inside.ascii n false) read)) c.if-self-byte.false)

pub returns-then-self-byte-clause-stops : goal.returns-then-self-byte-clause-stops
returns-then-self-byte-clause-stops c = λ more low.
    let byte = slice_index c.args.text.now c.loop-end.end in
    let read : byte ≡ slice_index c.as_bytes-bytes.result.now c.loop-end.end = ap (λ (bs : List ℕ). slice_index bs c.loop-end.end)
    (sym c.as_bytes-bytes.ensures.value) in
    let told : holds c.args.self.now byte ≡ slice_index_or c.self.inside.ascii byte false = rw (← c.self.view_is) (sym
    (c.self.invariant.first byte low)) in
    is_unwanted _ (sym (told ∙ ap (λ (n : ℕ). slice_index_or c.self.inside.ascii n false) read)) c.if-self-byte.true
