-- The three parts are written one after another.
use Rattle.std.proofs.Common.{◌≡◌, refl, ◌+◌, ◌<◌, ◌^◌, ◌++◌, arith, inl, length, w64}
use Rattle.std.proofs.lemmas.Int.{to_z_pos}
use Rattle.std.proofs.lemmas.List.{length-append}
use Rattle.icu_collections_c.proofs.SetMakingLemmas.{complement_parts, filled_parts, holds_complement}
use Rattle.icu_collections_c.proofs.set_building.bks_set_complement.Goals as goal

pub returns-clause-set : goal.returns-clause-set
returns-clause-set c =
    let front = c.front_toggled.result.0.now in
    let middle = c.front_toggled.result.1.now in
    let back = c.back_toggled.result.1.now in
    let valid = c.bks_set_test.ensures.0 c.if-not-bks_set_test.false in
    let is = complement_parts c.args.ends.now front middle c.back_toggled.result.0.now back c.front_toggled.ensures
    c.back_toggled.ensures.parts c.back_toggled.ensures.back in
    let made = holds_complement c.args.ends.now ((front ++ middle) ++ back) valid is in
    let one : length ((front ++ middle) ++ back) ≡ length (front ++ middle) + length back = length-append (front ++ middle) back in
    let two : length (front ++ middle) ≡ length front + length middle = length-append front middle in
    let small : length front + length middle + length back < 2 ^ 63 = omega arith in
    rw (to_z_pos w64 (length front + length middle + length back) small) (inl (
      valid,
      inl (
        length front + length middle + length back,
        refl,
        record {
          ends = (front ++ middle) ++ back;
          valid = made.0;
          set = made.1;
          count = omega arith;
          buffer = filled_parts front middle back c.args.complement.now _ _ _ c.write.ensures c.write_from.ensures c.write_from-2.ensures;
        },
      ),
    ))
