-- The next key is the first of those that are left.
use Rattle.std.proofs.Common.{◌≡◌, ◌+◌, ◌<◌, refl, subst, sym, length, drop, take, get_or, [], arith}
use Rattle.std.specs.Prelude.{All}
use Rattle.std.specs.Str.{IsUtf8}
use Rattle.std.proofs.lemmas.List.{drop_all, length-drop}
use Rattle.std.proofs.lemmas.List.Elements.{All-cons, All-head, All-nil, All-tail}
use Rattle.icu_collections_c.specs.UnitTexts.{keys_of}
use Rattle.icu_collections_c.proofs.UnitBuildingLemmas.{sum_drop_more}
use Rattle.icu_collections_c.proofs.UnitTextLemmas.{keys_next}
use Rattle.icu_collections_c.proofs.unit_texts.are_texts.Goals as goal

pub loop-length-preserved : goal.loop-length-preserved
loop-length-preserved c =
    let i = c.loop-length.length-index in
    let rest = c.loop-length.rest.now in
    let ns = c.args.lengths.now in
    let n = get_or ns i 0 in
    let within : i < length ns = c.loop-length-test.true in
    let next = keys_next rest ns i within in
    let back = c.split_at.ensures.back in
    let text : IsUtf8 (take n rest) = subst IsUtf8 c.split_at.ensures.front c.in-Ok.ensures.cases.1 in
    record {
      room = rw back (omega (arith, sum_drop_more ns i within, c.loop-length.invariant.room, length-drop n rest));
      all = λ h.
          c.loop-length.invariant.all
          (subst (All IsUtf8) (sym next)
          (All-cons IsUtf8 (take n rest) (keys_of (drop n rest) (drop (i + 1) ns)) text
          (subst (λ r. All IsUtf8 (keys_of r (drop (i + 1) ns))) back h)));
      left = λ h.
          subst (λ r. All IsUtf8 (keys_of r (drop (i + 1) ns))) (sym back)
          (All-tail IsUtf8 (take n rest) (keys_of (drop n rest) (drop (i + 1) ns))
          (subst (All IsUtf8) next (c.loop-length.invariant.left h)));
    }

pub returns : goal.returns
returns c =
    let none : drop c.loop-length.length-index c.args.lengths.now ≡ [] =
    drop_all c.loop-length.length-index c.args.lengths.now (omega (arith, c.loop-length-test.false)) in (
      λ _. c.loop-length.invariant.all
          (subst (λ z. All IsUtf8 (keys_of c.loop-length.rest.now z)) (sym none) (All-nil IsUtf8)),
      λ _. refl,
    )

pub returns-in_default : goal.returns-in_default
returns-in_default c =
    let i = c.loop-length.length-index in
    let rest = c.loop-length.rest.now in
    let ns = c.args.lengths.now in
    let n = get_or ns i 0 in (
      λ h. absurd (cc),
      λ h. absurd (c.in_default.ensures.cases.0
          (subst IsUtf8 (sym c.split_at.ensures.front)
          (All-head IsUtf8 (take n rest) (keys_of (drop n rest) (drop (i + 1) ns))
          (subst (All IsUtf8) (keys_next rest ns i c.loop-length-test.true) (c.loop-length.invariant.left h))))),
    )
