use Rattle.std.proofs.Common.{ℕ, ◌-◌, ◌*◌, ◌≡◌, length, take, drop, arith, ap, sym, ◌∙◌}
use Rattle.std.proofs.lemmas.List.{length-drop, take_all}
use Rattle.icu_invlist.specs.Inside.StillGiven.{ends_in}
use Rattle.icu_invlist.proofs.PackedWords.{bytes-length, ends_in_drop}
use Rattle.icu_invlist.proofs.PlaceLemmas.{valid-length}
use Rattle.icu_invlist.proofs.codepointinvlist.cpinvlist.CodePointInversionList.push_ends.Goals as goal

pub overflow_mul-from : goal.overflow_mul-from
overflow_mul-from c = let l = valid-length c.args.self.now (rw (← c.self.view_is) c.self.invariant.0) in let w = c.requires in omega arith

pub slice_bounds-unpack-count : goal.slice_bounds-unpack-count
slice_bounds-unpack-count c =
    let n = bytes-length c.as_bytes.result.now c.args.self.now c.as_bytes.ensures.packed (sym c.self.view_is ∙ c.as_bytes.ensures.values) in
    let w = c.requires in omega arith

pub slice_bounds-unpack-start : goal.slice_bounds-unpack-start
slice_bounds-unpack-start c =
    let n = bytes-length c.as_bytes.result.now c.args.self.now c.as_bytes.ensures.packed (sym c.self.view_is ∙ c.as_bytes.ensures.values) in
    let w = c.requires in omega arith

pub returns-clause-ok : goal.returns-clause-ok
returns-clause-ok c =
    let same = sym c.self.view_is ∙ c.as_bytes.ensures.values in
    let n = bytes-length c.as_bytes.result.now c.args.self.now c.as_bytes.ensures.packed same in
    let w = c.requires in
    let b = c.as_bytes.result.now in
    let m : ℕ = 3 * c.args.from in
    let all : take (length b - m) (drop m b) ≡ drop m b = take_all (length b - m) (drop m b) (omega (arith, length-drop m b)) in
    let e : ends_in (take (length b - m) (drop m b)) ≡ drop c.args.from c.args.self.now =
    ap ends_in all ∙ ends_in_drop c.args.from m b (omega arith) (omega arith) ∙ ap (drop c.args.from) (sym same) in
    rw e at c.unpack.ensures.ok
