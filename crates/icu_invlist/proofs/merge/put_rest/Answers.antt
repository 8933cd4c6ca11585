-- The slice has as many boundaries as are left, or as fit.
use Rattle.std.proofs.Common.{◌≡◌, ◌-◌, ◌∙◌, take, drop, length, length-drop, sym, arith}
use Rattle.std.proofs.lemmas.List.{length-take-le}
use Rattle.icu_invlist.proofs.MergeLemmas.{write_nothing, write_slice}
use Rattle.icu_invlist.proofs.merge.put_rest.Goals as goal
use Rattle.icu_invlist.proofs.merge.put_rest.Goals.{then-written-end, else-written-end}

pub returns-clause-out : goal.returns-clause-out
returns-clause-out g c =
    let out = c.args.out.now in
    let w = c.args.written in
    let rest = drop c.args.from (g.A.Boundaries.list c.args.a) in
    let n = c.min-end.result - w in
    let k = length-drop c.args.from (g.A.Boundaries.list c.args.a) in
    let e = c.min-end.ensures in
    let m = c.count-count.ensures in
    let f = c.requires.from in
    elim c.if-written-end.branch [
      | then-written-end t ↦ let b = t.if-written-end.true in
          let size : length (take n (drop w out)) ≡ n = length-take-le n (drop w out) (omega (arith, length-drop w out)) in
          t.out-is ∙ (rw (t.copy_to.ensures, size) (sym (write_slice out rest w n (omega arith) (omega arith))))
      | else-written-end t ↦ let b = t.if-written-end.false in
          t.out-is ∙ sym (write_nothing out rest w (omega arith))
    ]
