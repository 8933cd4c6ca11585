use Rattle.std.proofs.Common.{rules, ◌≡◌, ℕ, ◌≤◌, length, replicate, arith, sym, ◌∙◌}
use Rattle.std.proofs.lemmas.List.{get_or_past}
use Rattle.icu_trie_builder.specs.Inside.Map.NumberMap.{code_points}
use Rattle.icu_trie_builder.proofs.MapLemmas.{one-length, one-at}
use Rattle.icu_trie_builder.proofs.map.number_map.NumberMap.set_range.Goals as goal

pub invariant_of-self-then-end-start : goal.invariant_of-self-then-end-start
invariant_of-self-then-end-start c = one-length c.args.number

pub returns-then-end-start-clause-len : goal.returns-then-end-start-clause-len
returns-then-end-start-clause-len c = one-length c.args.number

pub returns-then-end-start-clause-inside : goal.returns-then-end-start-clause-inside
returns-then-end-start-clause-inside c = λ u from below. one-at c.args.number u (omega (arith, below, c.requires.within))

pub returns-then-end-start-clause-after : goal.returns-then-end-start-clause-after
returns-then-end-start-clause-after c = λ u past.
    let n : ℕ = c.args.number in
    let old : length c.args.self.now ≡ 0x110000 = search rules in
    let whole : 0x110000 ≤ u = omega (arith, past, c.if-end-start.true) in
    get_or_past (replicate code_points n) u 0 (omega (arith, one-length n, whole))
    ∙ sym (get_or_past c.args.self.now u 0 (omega (arith, old, whole)))
