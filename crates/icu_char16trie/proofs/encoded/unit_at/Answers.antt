use Rattle.std.proofs.Common.{◌/◌, ◌<◌, length, slice_get, get_or, Some, arith, ap, sym, ◌∙◌}
use Rattle.icu_char16trie.proofs.UnitReads.{units-length, unit_past, unit_of}
use Rattle.icu_char16trie.proofs.encoded.unit_at.Goals as goal

pub returns-in_err-get-clause-unit : goal.returns-in_err-get-clause-unit
returns-in_err-get-clause-unit c = let b = c.as_bytes.result.now in
    c.from_residual.ensures ∙ unit_past b c.as_bytes.ensures.packed c.args.place
    (omega (arith, c.in_err-get.ensures.lookup.3, c.as_chunks.ensures.front_len))
    ∙ ap (λ xs. slice_get xs c.args.place) (sym c.as_bytes.ensures.values)

pub returns-clause-unit : goal.returns-clause-unit
returns-clause-unit c = let b = c.as_bytes.result.now in
    let inside : c.args.place < length b / 2 = omega (arith, c.in_ok-get.ensures.lookup.3.0, c.as_chunks.ensures.front_len) in
    ap Some c.from_le_bytes.ensures ∙ unit_of b c.as_bytes.ensures.packed c.args.place c.in_ok-get.field-0.now inside
    (c.in_ok-get.ensures.lookup.1 ∙ ap (λ xs. get_or xs c.args.place c.in_ok-get.field-0.now) c.as_chunks.ensures.front)
    ∙ ap (λ xs. slice_get xs c.args.place) (sym c.as_bytes.ensures.values)

pub returns-clause-within : goal.returns-clause-within
returns-clause-within c = let b = c.as_bytes.result.now in
    let inside : c.args.place < length b / 2 = omega (arith, c.in_ok-get.ensures.lookup.3.0, c.as_chunks.ensures.front_len) in
    let len = ap length c.as_bytes.ensures.values ∙ units-length b c.as_bytes.ensures.packed in
    (omega (arith, inside, len, c.len.ensures.len), omega (arith, inside, len))
