use Rattle.std.proofs.Common.{◌≡◌, ◌∙◌, ◌/◌, ◌%◌, ◌+◌, ◌∷◌, [], ap, sym, Some, slice_get, arith}
use Rattle.icu_zerovec.specs.Slice.{slice_values}
use Rattle.icu_invlist_binary.proofs.PutLemmas.{put_more, put_none, room, up_to_more}
use Rattle.icu_invlist_binary.proofs.UnitLemmas.{units_of_limit, units_of_pair, units_of_single}
use Rattle.icu_invlist_binary.proofs.target.put_ends.Goals as goal
use Rattle.icu_invlist_binary.proofs.target.put_ends.Goals.{then-end-lt65536, else-end-lt65536+then-end-lt-CODE_POINT_LIMIT, else-end-lt65536+else-end-lt-CODE_POINT_LIMIT}

pub put_unit-next-requires : goal.put_unit-next-requires
put_unit-next-requires c =
    let x : slice_get (slice_values c.args.ends) c.loop-i.i ≡ Some c.from-end.result = c.at.ensures ∙ ap Some (sym c.from-end.ensures) in
    let a = room c.args.target.now (slice_values c.args.ends) c.loop-i.target (c.from-end.result ∷ []) c.args.at c.loop-i.i c.loop-i.next
    c.from-end.result c.loop-i.invariant (omega arith) x
    (units_of_single c.from-end.result c.if-end-lt65536.true) c.requires in omega arith

pub put_unit-lower-requires : goal.put_unit-lower-requires
put_unit-lower-requires c =
    let x : slice_get (slice_values c.args.ends) c.loop-i.i ≡ Some c.from-end.result = c.at.ensures ∙ ap Some (sym c.from-end.ensures) in
    let a = room c.args.target.now (slice_values c.args.ends) c.loop-i.target
    (c.from-end.result / 0x10000 ∷ c.from-end.result % 0x10000 ∷ []) c.args.at c.loop-i.i c.loop-i.next c.from-end.result
    c.loop-i.invariant (omega arith) x (units_of_pair c.from-end.result c.if-end-lt65536.false c.if-end-lt-CODE_POINT_LIMIT.true)
    c.requires in omega arith

pub put_unit-next-requires-then-end-lt-CODE_POINT_LIMIT : goal.put_unit-next-requires-then-end-lt-CODE_POINT_LIMIT
put_unit-next-requires-then-end-lt-CODE_POINT_LIMIT c =
    let x : slice_get (slice_values c.args.ends) c.loop-i.i ≡ Some c.from-end.result = c.at.ensures ∙ ap Some (sym c.from-end.ensures) in
    let a = room c.args.target.now (slice_values c.args.ends) c.loop-i.target
    (c.from-end.result / 0x10000 ∷ c.from-end.result % 0x10000 ∷ []) c.args.at c.loop-i.i c.loop-i.next c.from-end.result
    c.loop-i.invariant (omega arith) x (units_of_pair c.from-end.result c.if-end-lt65536.false c.if-end-lt-CODE_POINT_LIMIT.true)
    c.requires in
    let b = c.put_unit-lower.ensures.place in
    let d = c.put_unit-lower.ensures.put.same_length in omega arith

pub loop-i-preserved : goal.loop-i-preserved
loop-i-preserved c =
    let x : slice_get (slice_values c.args.ends) c.loop-i.i ≡ Some c.from-end.result = c.at.ensures ∙ ap Some (sym c.from-end.ensures) in
    elim c.if-end-lt65536.branch [
      | then-end-lt65536 w ↦ rw (w.target-is, w.next-is, w.put_unit-next.ensures.place)
          (up_to_more c.args.target.now (slice_values c.args.ends) c.loop-i.target w.put_unit-next.new.target (c.from-end.result ∷ [])
          c.args.at c.loop-i.i c.loop-i.next c.from-end.result c.loop-i.invariant
          (omega arith) x (units_of_single c.from-end.result w.if-end-lt65536.true) w.put_unit-next.ensures.put)
      | else-end-lt65536+then-end-lt-CODE_POINT_LIMIT w ↦
          let p = w.put_unit-lower.ensures.place in
          let q = w.put_unit-next-then-end-lt-CODE_POINT_LIMIT.ensures.place in
          let n : w.put_unit-next-then-end-lt-CODE_POINT_LIMIT.result ≡ c.loop-i.next + 2 = omega arith in
          rw (w.target-is, w.next-is, n)
          (up_to_more c.args.target.now (slice_values c.args.ends) c.loop-i.target w.put_unit-next-then-end-lt-CODE_POINT_LIMIT.new.target
          (c.from-end.result / 0x10000 ∷ c.from-end.result % 0x10000 ∷ []) c.args.at
          c.loop-i.i c.loop-i.next c.from-end.result c.loop-i.invariant (omega arith) x
          (units_of_pair c.from-end.result w.if-end-lt65536.false w.if-end-lt-CODE_POINT_LIMIT.true)
          (put_more c.loop-i.target w.put_unit-lower.new.target w.put_unit-next-then-end-lt-CODE_POINT_LIMIT.new.target
          (c.from-end.result / 0x10000 ∷ []) (c.from-end.result % 0x10000 ∷ []) c.loop-i.next
          w.put_unit-lower.result w.put_unit-lower.ensures.put p w.put_unit-next-then-end-lt-CODE_POINT_LIMIT.ensures.put))
      | else-end-lt65536+else-end-lt-CODE_POINT_LIMIT w ↦
          let n : c.loop-i.next ≡ c.loop-i.next + 0 = omega arith in
          rw (w.target-is, w.next-is, n)
          (up_to_more c.args.target.now (slice_values c.args.ends) c.loop-i.target c.loop-i.target [] c.args.at c.loop-i.i c.loop-i.next
          c.from-end.result c.loop-i.invariant (omega arith) x
          (units_of_limit c.from-end.result w.if-end-lt-CODE_POINT_LIMIT.false) (put_none c.loop-i.target c.loop-i.next))
    ]
