use Rattle.std.proofs.Common.{false}
use Rattle.icu_trie_text.proofs.FoundLemmas.{IsPassed}
use Rattle.icu_trie_text.proofs.find.find_value.Given as goal

abbrev pub invariant-loop-offset : goal.invariant-loop-offset
invariant-loop-offset g l = IsPassed (λ f value answer. g.F.Fn.post f (value, tt) answer) l.accepts l.fn.trie false l.text l.offset-iterator
