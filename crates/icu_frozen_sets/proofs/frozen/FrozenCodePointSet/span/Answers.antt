use Rattle.std.proofs.Common.{arith}
use Rattle.std.proofs.lemmas.Str.{IsCharBoundary-start, IsUtf8-drop}
use Rattle.icu_invlist.proofs.CallerLemmas.{is_unwanted, is_wanted, passed_none, passed_more, passed_stops, passed_ends, passed_boundary}
use Rattle.icu_frozen_sets.proofs.SpanLemmas.{passed_both}
use Rattle.icu_frozen_sets.proofs.frozen.FrozenCodePointSet.span.Goals as goal

pub loop-bytes-init : goal.loop-bytes-init
loop-bytes-init c = passed_none _ c.args.text.now 0 c.utf8.text (IsCharBoundary-start c.args.text.now c.utf8.text)

pub past_ascii-start-requires : goal.past_ascii-start-requires
past_ascii-start-requires c = passed_boundary c.loop-bytes.invariant

pub ask_character-is_held-requires-clause-utf8 : goal.ask_character-is_held-requires-clause-utf8
ask_character-is_held-requires-clause-utf8 c = rw c.as_bytes-bytes.ensures.value
    (IsUtf8-drop c.args.text.now c.past_ascii-start.result c.utf8.text c.past_ascii-start.ensures.boundary)

pub returns-then-start-bytes-clause-place : goal.returns-then-start-bytes-clause-place
returns-then-start-bytes-clause-place c =
    let a = c.past_ascii-start.ensures in
    let s = passed_both c.loop-bytes.invariant c.past_ascii-start.result c.utf8.text a.order a.boundary a.so_far in
    let e = passed_ends s (omega (arith, c.if-start-bytes.true, c.as_bytes-bytes.ensures.len)) in
    omega (arith, e)

pub returns-then-is_held-held-clause-place : goal.returns-then-is_held-held-clause-place
returns-then-is_held-held-clause-place c =
    let a = c.past_ascii-start.ensures in
    let s = passed_both c.loop-bytes.invariant c.past_ascii-start.result c.utf8.text a.order a.boundary a.so_far in
    let asked = rw c.as_bytes-bytes.ensures.value at c.ask_character-is_held.ensures in
    let e = passed_stops s c.ask_character-is_held.result.1 asked.character asked.within asked.stands
    (is_unwanted _ asked.told c.if-is_held-held.true) in
    omega (arith, e)

pub loop-bytes-preserved : goal.loop-bytes-preserved
loop-bytes-preserved c =
    let a = c.past_ascii-start.ensures in
    let s = passed_both c.loop-bytes.invariant c.past_ascii-start.result c.utf8.text a.order a.boundary a.so_far in
    let asked = rw c.as_bytes-bytes.ensures.value at c.ask_character-is_held.ensures in
    passed_more s c.ask_character-is_held.result.1 asked.character asked.within asked.stands
    (is_wanted _ asked.told c.if-is_held-held.false)
