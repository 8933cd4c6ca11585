use Rattle.std.proofs.Common.{◌≡◌, ◌∙◌, Some, None, get_or, slice_get, sym, arith}
use Rattle.std.proofs.lemmas.Grind.{common_steps}
use Rattle.std.proofs.lemmas.Option.{gets}
use Rattle.ucd_files.proofs.GroupLemmas.{none_at, none_left, other_at, same_at}
use Rattle.ucd_files.proofs.value_names.number_among.Goals as goal
use Rattle.ucd_files.proofs.value_names.number_among.Goals.{in-Some+else-is_match, in_default}

pub returns-then-is_match : goal.returns-then-is_match
returns-then-is_match c =
    let names = c.args.names.now in
    let indices = c.args.indices.now in
    let i = c.loop-index.index-index in
    let at : slice_get names (get_or indices i 0) ≡ Some c.in-Some.name.now = grind (arith, common_steps, gets) in
    sym (same_at c.args.matching names indices c.args.text.now i c.loop-index-test.true c.in-Some.name.now at (sym c.if-is_match.ensures))
    ∙ c.loop-index.invariant

pub loop-index-preserved : goal.loop-index-preserved
loop-index-preserved c =
    let names = c.args.names.now in
    let indices = c.args.indices.now in
    let i = c.loop-index.index-index in
    elim c.match-get.branch [
      | in-Some+else-is_match w ↦
          let at : slice_get names (get_or indices i 0) ≡ Some w.in-Some.name.now = grind (arith, common_steps, gets) in
          other_at c.args.matching names indices c.args.text.now i c.loop-index-test.true w.in-Some.name.now at (sym w.if-is_match.ensures)
          ∙ c.loop-index.invariant
      | in_default w ↦
          let at : slice_get names (get_or indices i 0) ≡ None = grind (arith, common_steps, gets) in
          none_at c.args.matching names indices c.args.text.now i c.loop-index-test.true at ∙ c.loop-index.invariant
    ]

pub returns : goal.returns
returns c =
    let none = none_left c.args.matching c.args.names.now c.args.indices.now c.args.text.now c.loop-index.index-index (omega arith) in
    sym none ∙ c.loop-index.invariant
