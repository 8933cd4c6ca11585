use Rattle.std.proofs.Common.{ℕ, arith, ap, inl, inr, ◌≡◌, ◌+◌, ◌*◌, ◌/◌, ◌<◌, ◌≤◌}
use Rattle.std.proofs.Math.Nat.{mul-add, mul-le-mul_left}
use Rattle.std.proofs.lemmas.Bool.{cases_eq}
use Rattle.icu_trie_core.specs.Blocks.{block}
use Rattle.icu_trie_builder.proofs.MapLemmas.{sixteen, block-in-run, blocks-of-one}
use Rattle.icu_trie_builder.proofs.map.number_map.NumberMap.repeats.Goals as goal

pub run_of_one-requires-clause-first : goal.run_of_one-requires-clause-first
run_of_one-requires-clause-first c = let size = c.args.size in let n = c.args.number in let most = c.args.most in
    let more : 1 ≤ most = omega (arith, c.requires.more) in
    let one : size * 1 ≤ size * most = mul-le-mul_left size more in
    omega (arith, one, mul-add size n most, sixteen size n c.requires.multiple, c.requires.inside, c.requires.some)

pub run_of_one-requires-clause-inside : goal.run_of_one-requires-clause-inside
run_of_one-requires-clause-inside c = let size = c.args.size in let n = c.args.number in let most = c.args.most in
    omega (arith, mul-add size n most, sixteen size n c.requires.multiple, sixteen size most c.requires.multiple, c.requires.inside)

pub returns-clause-same : goal.returns-clause-same
returns-clause-same c = λ j lt.
    let size = c.args.size in let n = c.args.number in let most = c.args.most in
    let run : ℕ = c.run_of_one.result in
    let len = rw c.in-InBlocks.is at c.self.invariant in
    elim (cases_eq j 0) [
      | inl none ↦ ap (λ i. block size c.args.self.now i) (omega (arith, none))
      | inr some ↦
          let below : j < run / (size / 16) = omega (arith, lt, some, c.max.ensures) in
          let other = block-in-run size n j run c.requires.some c.requires.multiple below in
          let first = block-in-run size n 0 run c.requires.some c.requires.multiple (omega (arith, below)) in
          let same : size * (n + 0) ≡ size * n = ap (λ x. size * x) (omega arith) in
          rw (← c.self.view_is, c.in-InBlocks.is) (blocks-of-one size (n + j) n _ _
          (omega (
            arith,
            other.1,
            len,
            c.run_of_one.ensures.within,
            mul-add size n most,
            sixteen size n c.requires.multiple,
            sixteen size most c.requires.multiple,
            c.requires.inside,
          ))
          (omega (
            arith,
            first.1,
            same,
            len,
            c.run_of_one.ensures.within,
            mul-add size n most,
            sixteen size n c.requires.multiple,
            sixteen size most c.requires.multiple,
            c.requires.inside,
          ))
          (λ k low high. c.run_of_one.ensures.same k (omega (arith, low, other.0)) (omega (arith, high, other.1)))
          (λ k low high. c.run_of_one.ensures.same k (omega (arith, low, first.0, same)) (omega (arith, high, first.1, same))))
    ]
