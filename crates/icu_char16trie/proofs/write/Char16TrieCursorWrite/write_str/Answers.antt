use Rattle.std.proofs.lemmas.Iterator.{YieldsList-from_chars}
use Rattle.icu_char16trie.proofs.CallerLemmas.{all_chars, units_next}
use Rattle.icu_char16trie.proofs.PassedLemmas.{passes_then}
use Rattle.icu_char16trie.proofs.write.Char16TrieCursorWrite.write_str.Goals as goal

pub loop-c-preserved : goal.loop-c-preserved
loop-c-preserved c = rw (units_next c.loop-c.yielded c.in-Some.c) (passes_then _ _ _ _ _ c.loop-c.invariant c.step.ensures.passes)

pub returns-clause-ok : goal.returns-clause-ok
returns-clause-ok c = λ _.
    rw (all_chars (YieldsList-from_chars c.args.s.now c.utf8.s cc) c.loop-c.yielded _ c.loop-c.yielded_by _ _ c.in-None.is
    c.next.ensures.steps) at c.loop-c.invariant
