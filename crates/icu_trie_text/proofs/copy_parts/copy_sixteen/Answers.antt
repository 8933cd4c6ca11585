use Rattle.std.proofs.Common.{◌≡◌, ◌∙◌, ℕ, ◌+◌, ◌-◌, ◌<◌, drop, get_or, take, arith}
use Rattle.std.proofs.lemmas.List.{get_or-drop, get_or-take}
use Rattle.icu_trie_text.proofs.CopiedLemmas.{copied_ascii}
use Rattle.icu_trie_text.proofs.copy_parts.copy_sixteen.Goals as goal

pub returns-clause-copied : goal.returns-clause-copied
returns-clause-copied g c = λ old before.
    let bytes = c.args.bytes.now in
    let i : ℕ = c.args.front.bytes in
    let j : ℕ = c.args.front.values in
    let room = c.requires.room in
    let there = c.requires.bytes in
    let sixteen : j + 16 - j ≡ 16 = omega arith in
    let taken : i + 16 - i ≡ 16 = omega arith in
    let byte : (k : ℕ) → k < 16 → get_or (take (i + 16 - i) (drop i bytes)) k 0 ≡ get_or bytes (i + k) 0 =
    λ k l. rw taken (get_or-take 16 (drop i bytes) k 0 l ∙ get_or-drop i bytes k 0) in
    rw sixteen (copied_ascii (g.V.PartValues.gives c.args.trie.now) bytes old c.args.values.now c.loop-k.target i j 16 before
    (omega (arith, room)) room there
    (λ k l. rw (get_or-drop i bytes k 0) at (c.requires.sixteen k l))
    (λ k l. rw (byte k l) at (c.loop-k.invariant k (omega (arith, l)))))
