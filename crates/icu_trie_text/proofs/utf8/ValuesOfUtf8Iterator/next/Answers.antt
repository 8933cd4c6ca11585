use Rattle.std.proofs.Common.{refl}
use Rattle.std.specs.Slice.Iter.{iter_rest}
use Rattle.icu_trie_text.specs.Inside.Lookup.{lookup_parts}
use Rattle.icu_trie_text.proofs.Utf8ValueLemmas.{ascii_step}
use Rattle.icu_trie_text.proofs.utf8.ValuesOfUtf8Iterator.next.Goals as goal

pub returns-in-Some-clause-steps : goal.returns-in-Some-clause-steps
returns-in-Some-clause-steps g c =
    rw (← c.self.view_is) (record {
      trie = refl;
      steps = ascii_step (lookup_parts c.self.inside.trie) (iter_rest c.self.inside.rest) (iter_rest c.next.new.self) _ c.next.result c.in_ok-lead.field-0.now
          c.from-in-Some.result c.from.result c.in-Some.value (rw c.as_slice-bytes.ensures.value at c.in_ok-lead.ensures.value) c.from.ensures
          c.in-Some.ensures.ascii c.from-in-Some.ensures c.in-Some.ensures.value c.next.ensures.steps;
    })
