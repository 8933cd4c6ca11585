-- The lists are merged in the buffer, and the result is how many boundaries there are.
use Rattle.std.proofs.Common.{◌<◌, ◌^◌, refl, inl, arith, w64}
use Rattle.std.proofs.lemmas.Int.{to_z_pos}
use Rattle.icu_collections_c.proofs.set_operations.write_set.Goals as goal

pub returns : goal.returns
returns g c =
    let m = c.merge.ensures.merged in
    let small : c.merge.result < 2 ^ 63 = omega (arith, c.merge.ensures.few) in
    rw (to_z_pos w64 c.merge.result small) (inl (
      c.are_sets.ensures.0 c.if-not-are_sets.false,
      (c.merge.result, refl, record { ends = m.ends; valid = m.valid; set = record { acts = m.set; few = omega (arith, c.merge.ensures.few, m.count) }; count = m.count; buffer = m.buffer }),
    ))
