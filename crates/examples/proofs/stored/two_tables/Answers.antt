-- The second table is after the end of the first one.
use Rattle.std.proofs.Common.{◌≡◌, ◌-◌, ap, drop, length, sym, take, ◌∙◌}
use Rattle.std.proofs.Math.Seq.{take-length}
use Rattle.std.proofs.lemmas.List.{length-drop}
use Rattle.examples.proofs.stored.two_tables.Goals as goal

pub returns : goal.returns
returns c =
    let bytes = c.args.bytes.now in
    let first = c.in_ok-first.len in
    let rest : drop first bytes ≡ take (length bytes - first) (drop first bytes)
    = sym (ap (λ n. take n (drop first bytes)) (sym (length-drop first bytes)) ∙ take-length (drop first bytes)) in
    (first, c.in_ok-second.field-0-1, (c.in_ok-first.ensures.ok, rw rest c.in_ok-second.ensures.ok))
