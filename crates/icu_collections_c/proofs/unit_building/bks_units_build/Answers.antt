-- The bytes of the trie are its units, and few enough for a signed 64-bit number.
use Rattle.std.proofs.Common.{◌≡◌, ◌∙◌, ◌*◌, ◌^◌, ◌<◌, ap, subst, sym, refl, inl, arith, length, w64}
use Rattle.std.proofs.lemmas.Int.{to_z_pos}
use Rattle.icu_char16trie.specs.Grammar.{IsTrieOf}
use Rattle.icu_collections_c.specs.UnitBuilding.{entries_of, map_of}
use Rattle.icu_collections_c.specs.UnitTries.{units_of}
use Rattle.icu_collections_c.proofs.UnitBuildingLemmas.{most_units-map_of}
use Rattle.icu_collections_c.proofs.UnitLemmas.{whole_units}
use Rattle.icu_collections_c.proofs.unit_building.bks_units_build.Goals as goal

pub returns-in-Ok : goal.returns-in-Ok
returns-in-Ok c =
    let bytes = c.as_bytes-units.result.now in
    let m = map_of (entries_of c.args.keys.now c.args.lengths.now c.args.values.now) in
    let same : c.in-Ok.trie ≡ units_of bytes = sym c.trie.view_is ∙ c.as_bytes-units.ensures.values in
    let trie : IsTrieOf (units_of bytes) m = subst (λ units. IsTrieOf units m) same c.in-Ok.ensures.trie in
    let many = ap length same in
    let whole : length bytes ≡ 2 * length (units_of bytes) = whole_units bytes c.as_bytes-units.ensures.packed.whole in
    let units = most_units-map_of c.args.keys.now c.args.lengths.now c.args.values.now c.in-Ok.ensures.given c.in-Ok.ensures.fresh in
    let short : length bytes < 2 ^ 63 = omega (arith, whole, many, c.in-Ok.ensures.room) in
    rw (to_z_pos w64 (length bytes) short) (inl (
      length bytes,
      refl,
      record {
        given = c.in-Ok.ensures.given;
        short = c.in-Ok.ensures.short;
        fresh = c.in-Ok.ensures.fresh;
        fits = c.in-Ok.ensures.fits;
        size = omega (arith, whole, many, c.in-Ok.ensures.bound, units);
        bytes = record {
          bytes = bytes;
          good = record { trie = trie; whole = whole; bound = omega (arith, whole, many, c.in-Ok.ensures.bound) };
          count = refl;
          buffer = c.write_whole.ensures;
        };
      },
    ))
