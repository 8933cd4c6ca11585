use Rattle.std.proofs.Common.{◌≡◌, ◌∷◌, Some, drop, sym, ◌∙◌, arith}
use Rattle.std.proofs.lemmas.Bool.{false≢true}
use borrow.Author.Count.{below_more}
use Rattle.icu_char16trie.specs.Inside.Texts.{units_left}
use Rattle.icu_char16trie.proofs.TextLemmas.{is_other, is_unit, last_then, none_after, rest_after, unit_here, within_rest}
use Rattle.icu_char16trie.proofs.text_units.reads_run.Goals as goal

pub returns-in_default-clause-begins : goal.returns-in_default-clause-begins
returns-in_default-clause-begins c =
    let over = none_after (units_left c.args.text.now) c.loop-i.i (sym c.in_default.ensures.unit ∙ c.loop-i.invariant.left) in (
      λ told. absurd (false≢true told),
      λ begins. absurd (omega (arith, begins.within, over, c.loop-i-test.true)),
    )

pub returns-in_default-clause-last : goal.returns-in_default-clause-last
returns-in_default-clause-last c = last_then c.loop-i.invariant.last c.in_default.ensures.last

pub returns-then-ne-clause-last : goal.returns-then-ne-clause-last
returns-then-ne-clause-last c = last_then c.loop-i.invariant.last c.in-Some.ensures.last

pub returns-then-ne-clause-begins : goal.returns-then-ne-clause-begins
returns-then-ne-clause-begins c =
    let here = unit_here (units_left c.args.text.now) _ c.in-Some.unit c.loop-i.i (sym c.in-Some.ensures.unit ∙ c.loop-i.invariant.left) in (
      λ told. absurd (false≢true told),
      λ begins. absurd
          (is_other c.unit_at.result c.in-Some.unit c.ne.result c.ne.ensures c.if-ne.true
          (c.unit_at.ensures.unit ∙ begins.same c.loop-i.i c.loop-i-test.true ∙ here)),
    )

pub loop-i-preserved : goal.loop-i-preserved
loop-i-preserved c =
    let inv = c.loop-i.invariant in
    let left : c.in-Some.unit ∷ units_left c.next_unit.new.self ≡ drop c.loop-i.i (units_left c.args.text.now) =
    sym c.in-Some.ensures.unit ∙ inv.left in
    let same : c.unit_at.result ≡ Some c.in-Some.unit =
    is_unit c.unit_at.result c.in-Some.unit c.ne.result c.ne.ensures c.if-ne.false in
    let near = rw same at c.unit_at.ensures.within in
    record {
      within = within_rest (units_left c.args.text.now) _ c.in-Some.unit c.loop-i.i left;
      same = below_more _ _ inv.same
          (sym c.unit_at.ensures.unit ∙ same ∙ sym (unit_here (units_left c.args.text.now) _ c.in-Some.unit c.loop-i.i left));
      near = omega (arith, near.0);
      left = rest_after (units_left c.args.text.now) _ c.in-Some.unit c.loop-i.i left;
      units = c.in-Some.ensures.units;
      last = last_then inv.last c.in-Some.ensures.last;
    }
