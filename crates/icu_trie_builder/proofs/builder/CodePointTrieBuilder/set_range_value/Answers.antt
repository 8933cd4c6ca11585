use Rattle.std.proofs.Common.{arith, rules, ap, ◌+◌, ◌∙◌, sym, ◌≡◌}
use Rattle.icu_trie_builder.specs.CodePointMap.{IsNumberOf, value_of_number}
use Rattle.icu_trie_builder.specs.declared.writes.Write.TheVariants.{Range}
use Rattle.icu_trie_builder.proofs.AfterLemmas.{IsAfter-filled}
use Rattle.icu_trie_builder.proofs.WholeLemmas.{All-filled, value_of_number-back}
use Rattle.icu_trie_builder.proofs.builder.CodePointTrieBuilder.set_range_value.Goals as goal

pub returns-clause-ok : goal.returns-clause-ok
returns-clause-ok g c =
    let inside = c.self.inside in
    let of_number = g.T.TrieValue.of_number in
    let set = c.in_ok-set_range.ensures in
    let is : value_of_number of_number inside.default c.to_u32.result ≡ c.args.value =
    ap (value_of_number of_number inside.default) c.to_u32.ensures
    ∙ value_of_number-back of_number inside.default g.T.AsULE.is_value g.T.TrieValue.number g.met.T.TrieValue.number_gives_back
    c.args.value c.shown.ensures in
    rw (← c.self.view_is) (IsAfter-filled of_number (Range c.args.range c.args.value) inside.numbers c.set_range.new.self c.to_u32.result
    inside.default inside.error inside.trie_type c.min-end.result
    (search rules) (search rules) c.self.invariant.whole set.len is
    (λ k a b. set.inside k (omega (arith, c.start.ensures)) b) (λ k a. set.before k (omega (arith, c.start.ensures))) set.after)

pub invariant_of-self-2 : goal.invariant_of-self-2
invariant_of-self-2 g c =
    let V = g.T.AsULE.is_value in
    let number = g.T.TrieValue.number in
    let inside = c.self.inside in
    let sound = c.self.invariant in
    let set = c.in_ok-set_range.ensures in
    record {
      whole = set.len;
      all_numbers = All-filled (IsNumberOf V number) inside.numbers c.set_range.new.self c.start.result.now (c.min-end.result + 1)
          c.to_u32.result sound.all_numbers
          (c.args.value, c.shown.ensures, sym c.to_u32.ensures) (set.len ∙ sym sound.whole) set.inside set.before set.after;
      default_value = sound.default_value;
      error_value = sound.error_value;
    }
