use Rattle.std.proofs.Common.{◌≡◌, [], ◌∷◌, ◌++◌, Some, None, ap, arith, rules, ◌∙◌, sym}
use Rattle.std.proofs.lemmas.Grind.{common_steps}
use Rattle.std.proofs.lemmas.List.{append-nil}
use Rattle.std.specs.Str.Lines.{lines}
use Rattle.ucd_files.specs.Files.{last_line, paired_lines, with_previous}
use Rattle.ucd_files.proofs.StatementSteps.{left_after, faultless_more, said_more, first_fault_named, all_said}
use Rattle.ucd_files.proofs.read.read_statements.Goals as goal

pub loop-line-preserved-in-Ok-None : goal.loop-line-preserved-in-Ok-None
loop-line-preserved-in-Ok-None c =
    let all = paired_lines c.args.input.now in
    let previous = c.loop-line.previous.now in
    let left = c.loop-line.invariant.left ∙ ap (λ ls. with_previous previous ls) c.in-Some.ensures.some in
    record {
      left = left_after c.args.columns c.args.numbering all _ previous _ _ left;
      room = omega (arith, c.in-Some.ensures.shorter);
      faultless = faultless_more c.args.columns c.args.numbering all _ previous _ _ left None (cc) c.loop-line.invariant.faultless;
      said = sym (append-nil _)
          ∙ said_more c.args.columns c.args.numbering all _ previous _ _ left _ None (cc) c.loop-line.invariant.said;
      last = c.loop-line.invariant.last ∙ ap (λ ls. last_line previous ls) c.in-Some.ensures.some;
    }

pub loop-line-preserved : goal.loop-line-preserved
loop-line-preserved c =
    let all = paired_lines c.args.input.now in
    let previous = c.loop-line.previous.now in
    let left = c.loop-line.invariant.left ∙ ap (λ ls. with_previous previous ls) c.in-Some.ensures.some in
    let pushed : c.push.new.self.items ≡ c.loop-line.said.items ++ c.in-Ok-Some.statement ∷ [] = grind (arith, common_steps) in
    record {
      left = left_after c.args.columns c.args.numbering all _ previous _ _ left;
      room = omega (arith, c.in-Some.ensures.shorter);
      faultless = faultless_more c.args.columns c.args.numbering all _ previous _ _ left (Some c.in-Ok-Some.statement) (cc)
          c.loop-line.invariant.faultless;
      said = pushed
          ∙ said_more c.args.columns c.args.numbering all _ previous _ _ left _ (Some c.in-Ok-Some.statement) (cc)
          c.loop-line.invariant.said;
      last = c.loop-line.invariant.last ∙ ap (λ ls. last_line previous ls) c.in-Some.ensures.some;
    }

pub returns-in-Err-clause-line : goal.returns-in-Err-clause-line
returns-in-Err-clause-line c k f e =
    let previous = c.loop-line.previous.now in
    let left = c.loop-line.invariant.left ∙ ap (λ ls. with_previous previous ls) c.in-Some.ensures.some in
    first_fault_named c.args.columns c.args.numbering c.args.input.now _ previous _ _ _ k f e left (cc) c.loop-line.invariant.faultless

pub returns-clause-ok : goal.returns-clause-ok
returns-clause-ok c =
    let previous = c.loop-line.previous.now in
    let none : lines c.loop-line.rest.now ≡ [] = search rules in
    all_said c.args.columns c.args.numbering c.args.input.now c.loop-line.number _
    (c.loop-line.invariant.left ∙ ap (λ ls. with_previous previous ls) none) c.loop-line.invariant.faultless c.loop-line.invariant.said
    (rw (c.loop-line.invariant.last ∙ ap (λ ls. last_line previous ls) none) (search rules))
