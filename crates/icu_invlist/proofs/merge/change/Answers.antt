use Rattle.std.proofs.Common.{◌≡◌, ◌∙◌, ap, true, false, sym}
use Rattle.std.proofs.lemmas.Result.{on_ok_weaker}
use Rattle.icu_invlist.specs.InversionList.{holds}
use Rattle.icu_invlist.specs.Inside.Merging.{StandBefore}
use Rattle.icu_invlist.proofs.PlaceLemmas.{one_range}
use Rattle.icu_invlist.proofs.Merging.{stood_both, stood_first, stood_second}
use Rattle.icu_invlist.proofs.merge.change.Goals as goal
use Rattle.icu_invlist.proofs.merge.change.Goals.{then-stand_before-2-via-then-stand_before-2, then-stand_before-2-via-else-stand_before-2+then-stand_past}

pub returns-then-count-eq2-clause-ok : goal.returns-then-count-eq2-clause-ok
returns-then-count-eq2-clause-ok g c = on_ok_weaker c.of_range.result
    (λ acts n h. acts n h ∙ ap (λ z. g.O.SetOperation.gives (holds c.args.ends.now.items n) z)
    (one_range c.args.set.now n c.end_at.result c.end_at-then-count-eq2.result c.count.ensures.valid
    (sym c.count.ensures.count ∙ c.if-count-eq2.true) c.end_at.ensures.end c.end_at-then-count-eq2.ensures.end))
    c.of_range.ensures.ok

pub returns-then-stand_before-clause-valid : goal.returns-then-stand_before-clause-valid
returns-then-stand_before-clause-valid g c =
    let s : StandBefore c.args.ends.now.items c.args.set.now =
    rw c.deref.ensures.value at (c.stand_before.ensures.apart c.if-stand_before.true) in
    let u : g.O.SetOperation.gives false true ≡ true = sym c.of.ensures ∙ c.if-of.true in
    rw c.in_ok-push_ends.ensures.ok
    ((stood_both g.O.SetOperation.gives c.args.ends.now.items c.args.set.now g.met.O.SetOperation.none c.requires
    c.stand_before.ensures.valid s
    (g.met.O.SetOperation.first_kept u) u).0)

pub returns-then-stand_before-clause-ok : goal.returns-then-stand_before-clause-ok
returns-then-stand_before-clause-ok g c =
    let s : StandBefore c.args.ends.now.items c.args.set.now =
    rw c.deref.ensures.value at (c.stand_before.ensures.apart c.if-stand_before.true) in
    let u : g.O.SetOperation.gives false true ≡ true = sym c.of.ensures ∙ c.if-of.true in
    rw c.in_ok-push_ends.ensures.ok
    ((stood_both g.O.SetOperation.gives c.args.ends.now.items c.args.set.now g.met.O.SetOperation.none c.requires
    c.stand_before.ensures.valid s
    (g.met.O.SetOperation.first_kept u) u).1)

pub returns-then-stand_before-2-clause-ok : goal.returns-then-stand_before-2-clause-ok
returns-then-stand_before-2-clause-ok g c =
    let u : g.O.SetOperation.gives false true ≡ false = sym c.of.ensures ∙ c.if-of.false in
    elim c.then-stand_before-2.branch [
      | then-stand_before-2-via-then-stand_before-2 w ↦
          (stood_first g.O.SetOperation.gives c.args.ends.now.items c.args.set.now c.leave.new.ends.items g.met.O.SetOperation.none
          c.requires c.stand_before-else-of.ensures.valid
          (rw c.deref-else-of.ensures.value at (c.stand_before-else-of.ensures.apart w.if-stand_before-2.true)) u c.leave.ensures).1
      | then-stand_before-2-via-else-stand_before-2+then-stand_past w ↦
          (stood_second g.O.SetOperation.gives c.args.ends.now.items c.args.set.now c.leave.new.ends.items g.met.O.SetOperation.none
          c.requires c.stand_before-else-of.ensures.valid
          (rw w.deref-else-stand_before-2.ensures.value at (w.stand_past.ensures w.if-stand_past.true)) u c.leave.ensures).1
    ]
