-- The next key is the first of those that are left.
use Rattle.std.proofs.Common.{◌≡◌, ◌∙◌, ◌+◌, ◌<◌, ◌++◌, ◌∷◌, [], ap, subst, sym, length, drop, take, get_or, append-nil, append_assoc, arith}
use Rattle.std.specs.Prelude.{All}
use Rattle.std.specs.Str.{IsUtf8}
use Rattle.std.proofs.lemmas.List.{drop_all, length-drop}
use Rattle.std.proofs.lemmas.List.Elements.{All-head, All-tail}
use Rattle.icu_char16trie.specs.Matches.{text_units}
use Rattle.icu_collections_c.specs.UnitTexts.{key_lengths, key_units, keys_of}
use Rattle.icu_collections_c.proofs.UnitBuildingLemmas.{sum_drop_more}
use Rattle.icu_collections_c.proofs.UnitTextLemmas.{keys_next}
use Rattle.icu_collections_c.proofs.unit_keys.transcoded.Goals as goal

pub push-requires : goal.push-requires
push-requires c =
    let i = c.loop-length.length-index in
    let rest = c.loop-length.rest.now in
    let ns = c.args.lengths.now in
    let n = get_or ns i 0 in
    subst IsUtf8 (sym c.split_at.ensures.front)
    (All-head IsUtf8 (take n rest) (keys_of (drop n rest) (drop (i + 1) ns))
    (subst (All IsUtf8) (keys_next rest ns i c.loop-length-test.true) c.loop-length.invariant.texts))

pub loop-length-preserved : goal.loop-length-preserved
loop-length-preserved c =
    let i = c.loop-length.length-index in
    let rest = c.loop-length.rest.now in
    let ns = c.args.lengths.now in
    let n = get_or ns i 0 in
    let within : i < length ns = c.loop-length-test.true in
    let next = keys_next rest ns i within in
    let back = c.split_at.ensures.back in
    let left = keys_of (drop n rest) (drop (i + 1) ns) in
    let units = c.loop-length.given.units.items in
    let lengths = c.loop-length.given.lengths.items in
    let text = text_units (take n rest) in
    record {
      room = rw back (omega (arith, sum_drop_more ns i within, c.loop-length.invariant.room, length-drop n rest));
      texts = subst (λ r. All IsUtf8 (keys_of r (drop (i + 1) ns))) (sym back)
          (All-tail IsUtf8 (take n rest) left (subst (All IsUtf8) next c.loop-length.invariant.texts));
      units = rw (back, c.in_ok-push.ensures.units, c.split_at.ensures.front)
          (append_assoc units text (key_units left) ∙ ap (λ z. units ++ key_units z) (sym next) ∙ c.loop-length.invariant.units);
      lengths = rw (back, c.in_ok-push.ensures.lengths, c.split_at.ensures.front)
          (append_assoc lengths (length text ∷ []) (key_lengths left) ∙ ap (λ z. lengths ++ key_lengths z) (sym next)
          ∙ c.loop-length.invariant.lengths);
    }

pub returns : goal.returns
returns c =
    let rest = c.loop-length.rest.now in
    let none : drop c.loop-length.length-index c.args.lengths.now ≡ [] =
    drop_all c.loop-length.length-index c.args.lengths.now (omega (arith, c.loop-length-test.false)) in
    record {
      units = sym (append-nil c.loop-length.given.units.items)
          ∙ ap (λ z. c.loop-length.given.units.items ++ key_units (keys_of rest z)) (sym none) ∙ c.loop-length.invariant.units;
      lengths = sym (append-nil c.loop-length.given.lengths.items)
          ∙ ap (λ z. c.loop-length.given.lengths.items ++ key_lengths (keys_of rest z)) (sym none) ∙ c.loop-length.invariant.lengths;
    }
