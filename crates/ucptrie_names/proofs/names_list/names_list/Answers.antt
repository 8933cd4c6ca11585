use Rattle.std.proofs.Common.{◌≡◌, ◌∷◌, ◌++◌, ap, sym, ◌∙◌, append_assoc}
use Rattle.std.specs.Map.Iter.{deref_pair}
use Rattle.std.proofs.lemmas.Map.Iter.{rest_more}
use Rattle.ucptrie_names.specs.NamesList.{lines_of, named_line, names_list}
use Rattle.ucptrie_names.proofs.names_list.names_list.Goals as goal

pub loop-number-preserved : goal.loop-number-preserved
loop-number-preserved c =
    let line = named_line c.in-Some.number.now c.in-Some.name.now.now in
    let more : c.loop-number.number-iterator ≡ (c.in-Some.number.now, c.in-Some.name.now) ∷ c.next.new.self =
    rest_more deref_pair c.loop-number.number-iterator c.next.new.self c.next.result (c.in-Some.number, c.in-Some.name)
    c.in-Some.is c.next.ensures.steps in
    let all : c.loop-number.lines.items ++ (line ++ lines_of c.next.new.self) ≡ names_list c.args.names.now =
    ap (λ z. c.loop-number.lines.items ++ lines_of z) (sym more) ∙ c.loop-number.invariant in
    ap (λ z. z ++ lines_of c.next.new.self) c.in_ok-push_line.ensures
    ∙ (append_assoc c.loop-number.lines.items line (lines_of c.next.new.self) ∙ all)
