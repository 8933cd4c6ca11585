use Rattle.std.proofs.Common.{◌≡◌, ◌+◌, ◌++◌, ◌∷◌, [], ℕ, refl, arith, rules}
use Rattle.icu_trie_builder.specs.Writes.{write_first, write_last}
use Rattle.icu_trie_builder.specs.declared.writes.Write.{Write}
use Rattle.icu_trie_builder.specs.declared.writes.Write.TheVariants.{Range}
use Rattle.ucptrie_tables.proofs.JoinLemmas.{join-more, numbered-count}
use Rattle.ucptrie_tables.proofs.join.joined.Goals as goal

pub loop-start-preserved : goal.loop-start-preserved
loop-start-preserved c =
    let columns = c.args.columns.now in
    let end = c.end_of_values-end.ensures in
    let numbered = c.in_ok-number.ensures in
    let old = c.loop-start.invariant in
    let w : Write ℕ = Range c.new.result c.in_ok-number.number in
    let first : write_first w ≡ c.loop-start.start = search rules in
    let last : write_last w + 1 ≡ c.end_of_values-end.result = grind (arith, c.new.ensures.end, end.after) in
    let grown : c.push.new.self.items ≡ c.loop-start.writes.items ++ w ∷ [] = search rules in
    record {
      within = end.within;
      count = numbered-count columns _ _ _ _ _ c.loop-start.writes.items w first last end.after end.within refl end.equal numbered old.joined old.count;
      joined = rw grown (join-more columns _ _ _ _ _ _ w first last end.after end.within refl end.equal numbered old.joined);
    }
