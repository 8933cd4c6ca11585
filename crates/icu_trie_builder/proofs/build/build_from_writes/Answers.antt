use Rattle.std.proofs.Common.{◌≡◌, ℕ, ◌<◌, arith, ◌∙◌, ap}
use Rattle.std.proofs.lemmas.Result.{IfOk-weaker}
use Rattle.icu_trie_builder.specs.CodePointMap.{IsAfter, map_value}
use Rattle.icu_trie_builder.specs.Writes.{value_after}
use Rattle.icu_trie_builder.specs.Built.{IsBuiltFrom}
use Rattle.icu_trie_builder.proofs.BuilderLemmas.{from_ok}
use Rattle.icu_trie_builder.proofs.FewWrites.{few_too_large}
use Rattle.icu_trie_builder.proofs.BuiltAlike.{IsBuiltFrom-alike}
use Rattle.icu_trie_builder.proofs.SameMapLemmas.{IsTooLarge-alike}
use Rattle.icu_trie_builder.proofs.build.build_from_writes.Goals as goal

after : (g : _) (c : goal.After-build g) → IsAfter c.args.writes.now c.new-builder.result c.apply.new.self
after g c = from_ok c.apply.result (IsAfter c.args.writes.now c.new-builder.result c.apply.new.self) c.if-is_err.ensures.value
    c.apply.ensures.ok

-- The map that is built is the map of the default after the writes.
same_value : (g : _) (c : goal.After-build g) → (k : ℕ) → k < 0x110000
    → map_value c.apply.new.self k ≡ value_after c.args.writes.now c.args.default k
same_value g c k l =
    (after g c).values k (omega arith) ∙ ap (λ v. value_after c.args.writes.now v k) (c.new-builder.ensures.map k (omega arith))

-- The same for the numbers.
same : (g : _) (c : goal.After-build g) → (k : ℕ) → k < 0x110000
    → g.T.TrieValue.number (map_value c.apply.new.self k) ≡ g.T.TrieValue.number (value_after c.args.writes.now c.args.default k)
same g c k l = ap g.T.TrieValue.number (same_value g c k l)

pub returns-clause-trie : goal.returns-clause-trie
returns-clause-trie g c =
    let new = c.apply.new.self in
    let done = after g c in
    let number = g.T.TrieValue.number in
    let of_number = g.T.TrieValue.of_number in
    IfOk-weaker c.build.result (IsBuiltFrom number of_number (map_value new) new.default new.error new.trie_type)
    (IsBuiltFrom number of_number (value_after c.args.writes.now c.args.default) c.args.default c.args.error
    c.args.trie_type)
    (λ t. IsBuiltFrom-alike (map_value new) (value_after c.args.writes.now c.args.default) (same_value g c) new.error c.args.error
    (done.error ∙ c.new-builder.ensures.error) t number of_number new.default c.args.default
    (done.default ∙ c.new-builder.ensures.default) new.trie_type c.args.trie_type
    (done.trie_type ∙ c.new-builder.ensures.trie_type))
    c.build.ensures.trie

pub returns-clause-too_large : goal.returns-clause-too_large
returns-clause-too_large g c = λ e.
    IsTooLarge-alike (λ k. g.T.TrieValue.number (map_value c.apply.new.self k))
    (λ k. g.T.TrieValue.number (value_after c.args.writes.now c.args.default k)) (same g c)
    (c.build.ensures.too_large e)

pub returns-clause-few : goal.returns-clause-few
returns-clause-few g c few e = few_too_large g.T.TrieValue.number c.args.default c.args.writes.now few (returns-clause-too_large g c e)
