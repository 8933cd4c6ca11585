-- The first cell exists and is a value, and the bytes after it are packed.
use Rattle.std.proofs.Common.{◌≡◌, ◌<◌, ◌≤◌, length, take, None, sym, ◌∙◌, ap, arith, rules}
use Rattle.std.specs.Option.{is_some}
use Rattle.icu_zerovec.proofs.CellsLemmas.{first_fits, first_value, IsPacked-drop, values_of-first, values_of-nil}
use Rattle.icu_zerovec.proofs.cells.split_first.Goals as goal

pub returns-then-is_empty-clause-first : goal.returns-then-is_empty-clause-first
returns-then-is_empty-clause-first g c =
    let e : length c.args.bytes.now ≡ 0 = search rules in values_of-nil g.T.AsULE.unpack g.T.AsULE.WIDTH c.args.bytes.now e

pub returns-in_err-first-clause-first : goal.returns-in_err-first-clause-first
returns-in_err-first-clause-first g c =
    let some : 0 < length c.args.bytes.now = search rules in
    let fits : c.WIDTH.result ≤ length c.args.bytes.now =
    rw c.WIDTH.ensures (first_fits g.T.AsULE.unpack g.T.AsULE.WIDTH g.met.T.AsULE.some_width c.args.bytes.now c.requires some) in
    let short : length c.args.bytes.now < c.WIDTH.result = c.in_err-first.ensures.cases in
    absurd (omega arith)

pub returns-in_err-value-clause-first : goal.returns-in_err-value-clause-first
returns-in_err-value-clause-first g c =
    let some : 0 < length c.args.bytes.now = search rules in
    let v = first_value g.T.AsULE.unpack g.T.AsULE.WIDTH g.met.T.AsULE.some_width c.args.bytes.now c.requires some in
    let n : g.T.AsULE.unpack (take g.T.AsULE.WIDTH c.args.bytes.now) ≡ None =
    rw (← c.WIDTH.ensures, ← c.in_ok-first.ensures.cases.1) (sym c.from_unaligned.ensures ∙ c.in_err-value.was) in
    absurd (cc (ap is_some n, v))

pub returns-clause-rest : goal.returns-clause-rest
returns-clause-rest g c =
    let some : 0 < length c.args.bytes.now = search rules in
    rw (c.in_ok-first.ensures.cases.2, c.WIDTH.ensures)
    (IsPacked-drop g.T.AsULE.unpack g.T.AsULE.WIDTH g.met.T.AsULE.some_width c.args.bytes.now c.requires some)

pub returns-clause-first : goal.returns-clause-first
returns-clause-first g c =
    let some : 0 < length c.args.bytes.now = search rules in
    rw (c.in_ok-first.ensures.cases.2, c.WIDTH.ensures)
    (values_of-first g.T.AsULE.unpack g.T.AsULE.WIDTH g.met.T.AsULE.some_width c.args.bytes.now c.requires some c.in_ok-value.value
    (rw (← c.WIDTH.ensures, ← c.in_ok-first.ensures.cases.1) (sym c.from_unaligned.ensures ∙ c.in_ok-value.was)))
