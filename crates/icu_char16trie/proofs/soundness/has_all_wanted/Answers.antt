use Rattle.icu_zerovec.specs.Slice.{slice_values}
use Rattle.std.proofs.Common.{◌∙◌, ap, arith, not}
use Rattle.icu_char16trie.specs.Inside.Counts.{NodeLeadsTo}
use Rattle.icu_char16trie.specs.Inside.Soundness.{HasMap, RestsOnWanted}
use Rattle.icu_char16trie.proofs.SoundnessLemmas.{back_sound, back_unwanted, closed_next, closed_unwanted, forth_sound, forth_unwanted, kept_wanted, when_some}
use Rattle.icu_char16trie.proofs.soundness.has_all_wanted.Goals.{else-wanted-place-via-then-wanted-place+else-is_none, else-wanted-place-via-else-wanted-place}
use Rattle.icu_char16trie.proofs.soundness.has_all_wanted.Goals as goal

pub loop-place-preserved : goal.loop-place-preserved
loop-place-preserved c =
    elim c.else-wanted-place.branch [
      | else-wanted-place-via-then-wanted-place+else-is_none w ↦
          let rests : RestsOnWanted (slice_values c.args.units) c.loop-place.place (HasMap (slice_values c.args.units) c.loop-place.place)
          (NodeLeadsTo (slice_values c.args.units) c.loop-place.place) c.loop-place.wanted w.check_node.new.wanted =
          when_some _ _ w.check_node.result (w.is_none.ensures ∙ ap not w.if-is_none.false) w.check_node.ensures in
          rw w.wanted-is (record {
            told = (
              λ all. c.loop-place.invariant.told.0 (back_sound _ _ _ _ (omega arith) rests all),
              λ all. forth_sound _ _ _ _ w.if-wanted-place.true rests (c.loop-place.invariant.told.1 all),
            );
            kept = λ q h. kept_wanted _ _ _ _ rests q (c.loop-place.invariant.kept q h);
            closed = closed_next _ _ _ _ (omega arith) rests c.loop-place.invariant.closed;
          })
      | else-wanted-place-via-else-wanted-place w ↦
          rw w.wanted-is (record {
            told = (
              λ all. c.loop-place.invariant.told.0 (back_unwanted (HasMap (slice_values c.args.units)) _ _ w.if-wanted-place.false all),
              λ all. forth_unwanted (HasMap (slice_values c.args.units)) _ _ (c.loop-place.invariant.told.1 all),
            );
            kept = c.loop-place.invariant.kept;
            closed = closed_unwanted _ _ _ w.if-wanted-place.false c.loop-place.invariant.closed;
          })
    ]
