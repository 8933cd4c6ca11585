use Rattle.std.proofs.Common.{◌∙◌, rules, sym}
use Rattle.std.specs.Str.Iter.{chars_rest}
use Rattle.icu_trie_text.specs.Inside.Lookup.{lookup_parts}
use Rattle.icu_trie_text.proofs.IndexLemmas.{first_index}
use Rattle.icu_trie_text.proofs.indices.ValueIndicesOfIterator.next.Goals as goal

pub returns-clause-steps : goal.returns-clause-steps
returns-clause-steps g c =
    let found = c.in_ok-c.ensures.first in
    rw c.as_str.ensures (sym c.self.view_is
    ∙ first_index (lookup_parts c.self.inside.trie) (chars_rest c.self.inside.rest) (chars_rest c.first_value.new.text) c.in_ok-c.c c.self.inside.end
    c.in_ok-c.value found.first c.self.invariant.1 (sym found.value))

pub returns-clause-goes : goal.returns-clause-goes
returns-clause-goes g c =
    let found = c.in_ok-c.ensures.first in
    let step = sym c.self.view_is
    ∙ first_index (lookup_parts c.self.inside.trie) (chars_rest c.self.inside.rest) (chars_rest c.first_value.new.text) c.in_ok-c.c c.self.inside.end
    c.in_ok-c.value found.first c.self.invariant.1 (sym found.value) in
    rw step (search rules)
