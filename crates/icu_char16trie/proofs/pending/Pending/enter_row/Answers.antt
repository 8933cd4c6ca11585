use Rattle.icu_zerovec.specs.Slice.{slice_values}
use Rattle.std.proofs.Common.{sym, refl, ◌+◌, arith}
use Rattle.icu_char16trie.proofs.OpeningLemmas.{nothing_opens, gone_opens, row_opens, arms_here, arms_next, arms_child, last_stands}
use Rattle.icu_char16trie.proofs.pending.Pending.enter_row.Goals as goal
use Rattle.icu_char16trie.proofs.pending.Pending.enter_row.Goals.{then-count-gt1+in-Some-unit_at+in-Some-entry_child+in_ok-put_off, else-count-gt1}

pub returns-in_default : goal.returns-in_default
returns-in_default c = nothing_opens c.args.self.now c.args.place _
    (arms_here (slice_values c.args.self.now.units) c.args.place c.args.count (sym c.in_default.ensures.unit))

pub returns-in_default-unit_at : goal.returns-in_default-unit_at
returns-in_default-unit_at c = nothing_opens c.args.self.now c.args.place _
    (arms_next (slice_values c.args.self.now.units) c.args.place c.args.count (omega arith) (sym c.in_default-unit_at.ensures.unit))

pub returns-in_default-entry_child : goal.returns-in_default-entry_child
returns-in_default-entry_child c =
    nothing_opens c.args.self.now c.args.place _
    (arms_child (slice_values c.args.self.now.units) c.args.place c.args.count c.in-Some.unit c.in-Some-unit_at.value (omega arith)
    c.requires.short (sym c.in-Some.ensures.unit) (sym c.in-Some-unit_at.ensures.unit)
    (sym c.in_default-entry_child.ensures.child))

pub returns : goal.returns
returns c = elim c.if-count-gt1.branch [
  | then-count-gt1+in-Some-unit_at+in-Some-entry_child+in_ok-put_off w ↦
      rw (w.self-is, w.child-is)
      (row_opens c.args.self.now w.put_off.new.self _ c.args.place c.args.count c.in-Some.unit w.in-Some-unit_at.value
      w.in-Some-entry_child.first w.short_end.result
      (omega (arith, w.if-count-gt1.true)) c.requires.short (sym c.in-Some.ensures.unit) (sym w.in-Some-unit_at.ensures.unit)
      (sym w.in-Some-entry_child.ensures.child) w.short_end.ensures.end
      (omega (arith, w.in-Some-entry_child.ensures.above)) (omega (arith, w.short_end.ensures.above)) w.in_ok-put_off.ensures
      (record { units = refl; spelling = rw w.self-is at c.in_ok-push.ensures; node = refl; parts = refl }))
  | else-count-gt1 w ↦
      rw (w.self-is, w.child-is)
      (gone_opens c.args.self.now _ _ c.args.place (c.args.place + 1) _
      (record { units = refl; spelling = rw w.self-is at c.in_ok-push.ensures; node = refl; parts = refl })
      c.in-Some.ensures.within.1 (omega arith) (λ first s.
      last_stands (slice_values c.args.self.now.units) c.args.place c.args.count c.in-Some.unit first
      (omega (arith, w.if-count-gt1.false)) (sym c.in-Some.ensures.unit) s))
]
