use Rattle.icu_zerovec.specs.Slice.{slice_values}
use Rattle.std.proofs.Common.{[], ◌∷◌, ◌++◌, refl, sym, ap, ◌∙◌, arith, append_assoc, append-nil, slice_get}
use Rattle.icu_char16trie.specs.NextUnits.{cut, more, unit_list}
use Rattle.icu_char16trie.proofs.NextUnitLemmas.{added_more, row_end}
use Rattle.icu_char16trie.proofs.next_units.add_row.Goals as goal

pub returns-in_default : goal.returns-in_default
returns-in_default c =
    let so = c.loop-left.invariant.so_far in (
      so.0 ++ [],
      so.2 [] (cut _ _ [] c.loop-left-test.true c.in_default.ensures.two refl),
      so.1
          ∙ ap (λ z. c.args.list.now.items ++ z) (sym (append-nil so.0)),
    )

pub loop-left-preserved : goal.loop-left-preserved
loop-left-preserved c =
    let so = c.loop-left.invariant.so_far in
    let two = c.in-Some.ensures.two in
    record {
      near = omega (arith, c.short_end-place.ensures.near, c.in-Some.ensures.within);
      so_far = (
        so.0 ++ c.in-Some.unit ∷ [],
        added_more c.args.list.now.items so.0 c.loop-left.list.items c.push.new.self.items (c.in-Some.unit ∷ []) so.1
            c.in_ok-push.ensures.items,
        λ us rest. rw (append_assoc so.0 (c.in-Some.unit ∷ []) us)
            (so.2 (c.in-Some.unit ∷ us) (more _ _ c.in-Some.unit c.in-Some.value us (c.in-Some.unit ∷ us) c.loop-left-test.true two.0 two.1
            (rw c.short_end-place.ensures.end at rest) refl)),
      );
    }

pub returns : goal.returns
returns c =
    let so = c.loop-left.invariant.so_far in
    let last = unit_list (slice_get (slice_values c.args.units) c.loop-left.place) in (
      so.0 ++ last,
      so.2 last (row_end (slice_values c.args.units) c.loop-left.place c.loop-left.left (omega (arith, c.loop-left-test.false))),
      added_more c.args.list.now.items so.0 c.loop-left.list.items c.add_unit.new.list.items last so.1 c.in_ok-add_unit.ensures,
    )
