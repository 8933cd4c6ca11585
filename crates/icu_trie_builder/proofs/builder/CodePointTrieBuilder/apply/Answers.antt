use Rattle.std.proofs.Common.{◌≡◌, rules, ◌∷◌, ◌++◌, [], ◌+◌, take, ap, sym, ◌∙◌}
use Rattle.std.proofs.lemmas.List.{take_more}
use Rattle.icu_trie_builder.specs.CodePointMap.{IsAfter}
use Rattle.icu_trie_builder.proofs.AfterLemmas.{IsAfter-append}
use Rattle.icu_trie_builder.proofs.builder.CodePointTrieBuilder.apply.Goals as goal

pub loop-i-preserved : goal.loop-i-preserved
loop-i-preserved g c =
    let x = c.index-writes-i.result in
    let step : IsAfter (x ∷ []) c.loop-i.self c.write.new.self = search rules in
    let more : take (c.loop-i.i + 1) c.args.writes.now ≡ take c.loop-i.i c.args.writes.now ++ x ∷ [] =
    take_more c.args.writes.now c.loop-i.i x (search rules)
    ∙ ap (λ y. take c.loop-i.i c.args.writes.now ++ y ∷ []) (sym c.index-writes-i.is) in
    rw more (IsAfter-append (take c.loop-i.i c.args.writes.now)
    (x ∷ []) c.args.self.now c.loop-i.self c.write.new.self c.loop-i.invariant step)
