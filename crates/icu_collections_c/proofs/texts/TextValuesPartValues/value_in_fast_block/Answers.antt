use Rattle.std.proofs.Common.{◌≡◌, ◌∙◌, ℕ, ◌+◌, ◌*◌, ◌/◌, ◌%◌, ap, sym, length, slice_get, Some, refl, arith}
use Rattle.icu_zerovec.specs.Cells.{values_of}
use Rattle.icu_zerovec.specs.PackedBytes.{number_of}
use Rattle.icu_trie_core.specs.Contents.{contents_of}
use Rattle.icu_trie_core.specs.Format.{answer}
use Rattle.icu_trie_core.proofs.CallerLemmas.{fast_answer}
use Rattle.icu_collections_c.specs.BytesTrie.{cells_of}
use Rattle.icu_collections_c.proofs.CellLemmas.{length-values_of}
use Rattle.icu_collections_c.proofs.CopiedTextLemmas.{fast_block_number}
use Rattle.icu_collections_c.proofs.texts.TextValuesPartValues.value_in_fast_block.Goals as goal

pub value_there-offset-requires : goal.value_there-offset-requires
value_there-offset-requires g c =
    let index = c.args.self.now.index.now in
    let count : length (cells_of 2 index) ≡ length index / 2 = length-values_of (λ cell. Some (number_of 2 cell)) 2 (λ _. refl) index in
    let there = c.args.self.now.there in
    omega (arith, count, there, c.requires.block)

pub returns-in-Some : goal.returns-in-Some
returns-in-Some g c =
    let header = c.args.self.now.header in
    let index = cells_of 2 c.args.self.now.index.now in
    let values = values_of g.T.AsULE.unpack g.T.AsULE.WIDTH c.args.self.now.cells.now in
    let u : ℕ = c.args.block * 64 + c.args.place in
    let offset : ℕ = c.value_there-offset.result in
    let near = c.args.self.now.fast in
    let below = fast_block_number header.trie_type c.args.block c.args.place (omega (arith, near, c.requires.block)) c.requires.place in
    let own : u / 64 ≡ c.args.block = omega (arith, c.requires.place) in
    let low : u % 64 ≡ c.args.place = omega (arith, c.requires.place) in
    let known : slice_get index (u / 64) ≡ Some offset = rw own c.value_there-offset.ensures in
    let is : answer header (contents_of index values) u ≡ Some c.in-Some.value =
    fast_answer header index values u offset below.1 below.0 known ∙ ap (λ k. slice_get values (offset + k)) low ∙ sym c.in-Some.ensures in
    rw is refl
