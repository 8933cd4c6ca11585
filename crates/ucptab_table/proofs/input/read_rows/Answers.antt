use Rattle.std.proofs.Common.{◌≡◌, [], ◌∷◌, ◌++◌, Some, None, arith, rules, ◌∙◌, sym}
use Rattle.std.proofs.lemmas.Grind.{common_steps}
use Rattle.std.proofs.lemmas.List.{append-nil}
use Rattle.std.specs.Str.Lines.{lines}
use Rattle.ucptab_table.proofs.RowSteps.{left_after, faultless_more, writes_more, first_fault_named, all_rows}
use Rattle.ucptab_table.proofs.input.read_rows.Goals as goal

pub loop-line-preserved-in-Ok-None : goal.loop-line-preserved-in-Ok-None
loop-line-preserved-in-Ok-None c =
    let all = lines c.args.input.now in
    let left = c.loop-line.invariant.left ∙ c.in-Some.ensures.some in
    record {
      left = left_after all _ _ _ left;
      room = omega (arith, c.in-Some.ensures.shorter);
      faultless = faultless_more all _ _ _ left None (cc) c.loop-line.invariant.faultless;
      writes = sym (append-nil _) ∙ writes_more all _ _ _ left _ None (cc) c.loop-line.invariant.writes;
    }

pub loop-line-preserved : goal.loop-line-preserved
loop-line-preserved c =
    let all = lines c.args.input.now in
    let left = c.loop-line.invariant.left ∙ c.in-Some.ensures.some in
    let pushed : c.push.new.self.items ≡ c.loop-line.writes.items ++ c.in-Ok-Some.write ∷ [] = grind (arith, common_steps) in
    record {
      left = left_after all _ _ _ left;
      room = omega (arith, c.in-Some.ensures.shorter);
      faultless = faultless_more all _ _ _ left (Some c.in-Ok-Some.write) (cc) c.loop-line.invariant.faultless;
      writes = pushed ∙ writes_more all _ _ _ left _ (Some c.in-Ok-Some.write) (cc) c.loop-line.invariant.writes;
    }

pub returns-in-Err-clause-row : goal.returns-in-Err-clause-row
returns-in-Err-clause-row c k f e =
    let left = c.loop-line.invariant.left ∙ c.in-Some.ensures.some in
    first_fault_named c.args.input.now _ _ _ _ k f e left (cc) c.loop-line.invariant.faultless

pub returns-clause-ok : goal.returns-clause-ok
returns-clause-ok c =
    let none : lines c.loop-line.rest.now ≡ [] = search rules in
    all_rows c.args.input.now c.loop-line.number _ (c.loop-line.invariant.left ∙ none) c.loop-line.invariant.faultless
    c.loop-line.invariant.writes
