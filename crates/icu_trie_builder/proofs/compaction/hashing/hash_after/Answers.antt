use Rattle.std.proofs.Common.{◌≡◌, ◌+◌, ◌-◌, ◌*◌, ◌%◌, ℕ, suc, get_or, arith, subst}
use Rattle.icu_trie_core.specs.Blocks.{window}
use Rattle.icu_trie_builder.specs.Inside.Compaction.Hashes.{cells_hash, leaving_factor, share}
use Rattle.icu_trie_builder.proofs.CompactionLemmas.HashLemmas.{hash-roll, base, modulus}
use Rattle.icu_trie_builder.proofs.compaction.hashing.hash_after.Goals as goal

pub returns : goal.returns
returns c = λ below.
    let cells = c.args.cells.now in
    let at : ℕ = c.args.at in
    let n : ℕ = c.args.size - 1 in
    let is : suc n ≡ c.args.size = omega arith in
    let P : ℕ → Type 0 =
    λ k.
    (((cells_hash (window k at cells) + (share (get_or cells at 0) * leaving_factor k) % modulus) % modulus
    + share (get_or cells (at + k) 0)) % modulus * base) % modulus ≡ cells_hash (window k (at + 1) cells) in
    rw (c.share_of.ensures, c.share_of-2.ensures, c.requires.hash, c.requires.factor)
    (subst P is (hash-roll n at cells (omega (arith, below))))
