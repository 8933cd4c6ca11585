-- The bytes of the boundaries that are copied are in the packed bytes.
use Rattle.std.proofs.Common.{ℕ, ◌+◌, ◌-◌, ◌*◌, ◌∙◌, ap, sym, arith, length, length-drop, take, drop}
use Rattle.icu_invlist.proofs.PackedWords.{bytes-length, ends_in_drop, ends_in_take}
use Rattle.icu_invlist.proofs.boundaries.ZeroSlicePotentialCodePointBoundaries.copy_to.Goals as goal

pub overflow_add-end : goal.overflow_add-end
overflow_add-end c = let n = bytes-length c.as_bytes-bytes.result.now _ c.as_bytes-bytes.ensures.packed c.as_bytes-bytes.ensures.values in
    let w = c.requires in omega arith

pub overflow_mul-from : goal.overflow_mul-from
overflow_mul-from c = let n = bytes-length c.as_bytes-bytes.result.now _ c.as_bytes-bytes.ensures.packed c.as_bytes-bytes.ensures.values in
    let w = c.requires in omega arith

pub overflow_mul-end : goal.overflow_mul-end
overflow_mul-end c = let n = bytes-length c.as_bytes-bytes.result.now _ c.as_bytes-bytes.ensures.packed c.as_bytes-bytes.ensures.values in
    let w = c.requires in omega arith

pub slice_bounds-unpack_into-end : goal.slice_bounds-unpack_into-end
slice_bounds-unpack_into-end c = let n = bytes-length c.as_bytes-bytes.result.now _ c.as_bytes-bytes.ensures.packed c.as_bytes-bytes.ensures.values in
    let w = c.requires in omega arith

pub returns : goal.returns
returns c =
    let b = c.as_bytes-bytes.result.now in
    let n = bytes-length b _ c.as_bytes-bytes.ensures.packed c.as_bytes-bytes.ensures.values in
    let w = c.requires in
    let start : ℕ = 3 * c.args.from in
    let size : ℕ = 3 * (c.args.from + length c.args.out.now) - start in
    c.unpack_into.ensures
    ∙ ends_in_take (length c.args.out.now) size (drop start b) (omega arith) (omega (arith, length-drop start b))
    ∙ ap (take (length c.args.out.now)) (ends_in_drop c.args.from start b (omega arith) (omega arith) ∙ ap (drop c.args.from) (sym c.as_bytes-bytes.ensures.values))
