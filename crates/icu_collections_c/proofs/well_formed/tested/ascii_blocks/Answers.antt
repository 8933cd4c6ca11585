use Rattle.std.proofs.Common.{◌≡◌, ◌+◌, ◌-◌, sym, subst, arith, take-add}
use Rattle.std.specs.Str.{IsAscii}
use Rattle.simdutf8.proofs.StepsLemmas.{IsAscii-append}
use Rattle.icu_collections_c.proofs.well_formed.tested.ascii_blocks.Goals as goal

pub loop-end-preserved : goal.loop-end-preserved
loop-end-preserved c =
    let end = c.loop-end.end in
    let long : end + 64 - end ≡ 64 = omega arith in
    let ascii = IsAscii-append _ _ c.loop-end.invariant.1 (rw long at c.if-not-is_ascii.ensures.cases) in
    (omega arith, subst IsAscii (sym (take-add end 64 c.args.bytes.now)) ascii)
