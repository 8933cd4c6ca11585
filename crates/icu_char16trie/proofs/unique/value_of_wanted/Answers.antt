use Rattle.icu_zerovec.specs.Slice.{slice_values}
use Rattle.std.proofs.Common.{arith}
use Rattle.icu_char16trie.proofs.ValueLemmas.{no_root_value, root_begins, root_ends, root_next, root_skips}
use Rattle.icu_char16trie.proofs.unique.value_of_wanted.Goals.{then-wanted-place+in_ok-found, else-wanted-place}
use Rattle.icu_char16trie.proofs.unique.value_of_wanted.Goals as goal

pub loop-place-init : goal.loop-place-init
loop-place-init c = root_begins (slice_values c.args.units) c.args.root c.args.wanted.now c.requires.root

pub returns-in_err-found : goal.returns-in_err-found
returns-in_err-found c =
    rw c.from_residual.ensures
    (no_root_value (slice_values c.args.units) c.args.root c.loop-place.place c.loop-place.found c.loop-place.wanted c.if-wanted-place.true
    c.in_err-found.ensures c.loop-place.invariant)

pub loop-place-preserved : goal.loop-place-preserved
loop-place-preserved c =
    elim c.if-wanted-place.branch [
      | then-wanted-place+in_ok-found w ↦
          rw (w.found-is, w.wanted-is)
          (root_next (slice_values c.args.units) c.args.root c.loop-place.place c.loop-place.found _ c.loop-place.wanted _ (omega arith)
          w.if-wanted-place.true w.in_ok-found.ensures c.loop-place.invariant)
      | else-wanted-place w ↦
          rw (w.found-is, w.wanted-is)
          (root_skips (slice_values c.args.units) c.args.root c.loop-place.place c.loop-place.found c.loop-place.wanted
          w.if-wanted-place.false c.loop-place.invariant)
    ]

pub returns : goal.returns
returns c =
    root_ends (slice_values c.args.units) c.args.root c.loop-place.found c.loop-place.wanted c.loop-place.place (omega arith)
    c.loop-place.invariant
