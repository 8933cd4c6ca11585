use Rattle.std.proofs.Common.{◌≡◌, [], ◌∙◌, arith, rules, sym, subst, Result, Ok, Err}
use Rattle.std.specs.Prelude.{IfErr, IsErrAnd}
use Rattle.std.specs.Str.Lines.{lines}
use Rattle.ucptab_table.proofs.CallerLemmas.{left_after}
use Rattle.ucptrie_words.specs.declared.error.WordsError.{WordsError}
use Rattle.ucptrie_words.proofs.WordSteps.{all_words, first_fault_of, words_more}
use Rattle.ucptrie_words.proofs.read.read_words.Goals as goal

pub loop-line-preserved : goal.loop-line-preserved
loop-line-preserved c =
    let all = lines c.args.input.now in
    let left = c.loop-line.invariant.left ∙ c.in-Some.ensures.some in
    record {
      left = left_after all _ _ _ left;
      room = omega (arith, c.in-Some.ensures.shorter);
      words = words_more all _ _ _ left _ _ c.loop-line.invariant.words c.in_ok-add_line.ensures.added;
    }

-- What holds of an error holds of the one that `?` returns.
same_error : {T : Type 0} (r : Result T WordsError) (x : WordsError) (P : WordsError → Type 0) → IsErrAnd r (λ e. e ≡ x) → P x → IfErr r P
same_error (Ok y) x P h p = absurd h
same_error (Err e) x P h p = subst P (sym h) p

pub returns-in_err-add_line-clause-line : goal.returns-in_err-add_line-clause-line
returns-in_err-add_line-clause-line c k f =
    same_error c.from_residual.result c.in_err-add_line.field-0.0 _ c.from_residual.ensures.1
    (λ e. first_fault_of c.args.input.now _ _ _ _ k f (c.loop-line.invariant.left ∙ c.in-Some.ensures.some) c.loop-line.invariant.words
    _ c.in_err-add_line.ensures.err e)

pub returns-clause-ok : goal.returns-clause-ok
returns-clause-ok c =
    let none : lines c.loop-line.rest.now ≡ [] = search rules in
    all_words (lines c.args.input.now) c.loop-line.number _ (c.loop-line.invariant.left ∙ none) c.loop-line.invariant.words
