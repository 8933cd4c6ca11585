-- The next entry is the first of those that are left.
use Rattle.std.proofs.Common.{◌≡◌, ◌∙◌, ◌+◌, ◌<◌, ap, subst, sym, length, drop, get_or, arith, rules, pos, take, to_z, of_z, w32}
use Rattle.std.specs.Prelude.{IsNone}
use Rattle.std.proofs.lemmas.Int.{to_z-of_z}
use Rattle.std.proofs.lemmas.List.{length-drop}
use Rattle.icu_char16trie.specs.UnitMap.{value_of}
use Rattle.icu_char16trie_builder.specs.Entries.{with_entry}
use Rattle.icu_collections_c.specs.UnitBuilding.{entries_of}
use Rattle.icu_collections_c.proofs.UnitBuildingLemmas.{Along, Along-next, entries_next, sum_drop_more}
use Rattle.icu_collections_c.proofs.unit_building.add_entries.Goals as goal

pub loop-i-preserved : goal.loop-i-preserved
loop-i-preserved c =
    let i = c.loop-i.i in
    let rest = c.loop-i.rest.now in
    let lengths = c.args.lengths.now in
    let values = c.args.values.now in
    let all = entries_of c.args.keys.now lengths values in
    let n = get_or lengths i 0 in
    let v = get_or values i (pos 0) in
    let within : i < length lengths = c.loop-i-test.true in
    let room = sum_drop_more lengths i within in
    let left = entries_next rest lengths values i within c.requires.given.0 in
    let value : to_z w32 (of_z w32 v) ≡ v = to_z-of_z w32 v (search rules) in
    let fresh : IsNone (value_of c.loop-i.builder (take n rest)) =
    subst (λ k. IsNone (value_of c.loop-i.builder k)) c.split_at.ensures.front c.in_ok-add.ensures.fresh in
    let added : c.add.new.self ≡ with_entry (take n rest) v c.loop-i.builder =
    c.in_ok-add.ensures.added ∙ ap (λ k. with_entry k (to_z w32 (of_z w32 v)) c.loop-i.builder) c.split_at.ensures.front
    ∙ ap (λ z. with_entry (take n rest) z c.loop-i.builder) value in
    record {
      room = rw c.split_at.ensures.back (omega (arith, room, c.loop-i.invariant.room, length-drop n rest));
      along = subst (λ r. Along all c.args.builder.now (entries_of r (drop (i + 1) lengths) (drop (i + 1) values)) c.add.new.self)
          (sym c.split_at.ensures.back)
          (Along-next all c.args.builder.now (take n rest) v _ _ c.loop-i.builder c.loop-i.invariant.along left c.add.new.self fresh added);
    }
