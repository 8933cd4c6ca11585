use Rattle.std.proofs.Common.{true}
use Rattle.icu_trie_text.proofs.FoundLemmas.{IsPassed}
use Rattle.icu_trie_text.proofs.find.span_of_values.Given as goal

abbrev pub invariant-loop-offset : goal.invariant-loop-offset
invariant-loop-offset g l = IsPassed (λ f value answer. g.F.Fn.post f (value, tt) answer) l.accepts l.fn.trie true l.text l.offset-iterator
