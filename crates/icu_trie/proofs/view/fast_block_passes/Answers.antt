use Rattle.std.proofs.Common.{◌≡◌, ◌+◌, ◌*◌, ◌/◌, ◌<◌, ◌≤◌, length, drop, nat_lt, take, arith, refl, ap, sym, subst, ◌∙◌}
use Rattle.std.specs.List.{list_any}
use Rattle.std.proofs.lemmas.List.{get_or-drop, length-drop, length-take-le, take-take}
use Rattle.std.proofs.lemmas.Option.{get_or_from_slice_get, slice_get_within}
use Rattle.icu_zerovec.specs.Slice.{slice_values}
use Rattle.icu_trie_core.specs.declared.header.TrieType.{TrieType}
use Rattle.icu_trie_core.specs.declared.header.TrieType.TheVariants.{Fast, Small}
use Rattle.icu_trie_core.specs.FastIndex.{fast_index_len}
use Rattle.icu_trie.proofs.FastCells.{Decides, halves, more, passes}
use Rattle.icu_trie.proofs.view.fast_block_passes.Goals as goal

-- The number of cells in the fast index is even.
even : (trie_type : TrieType) → fast_index_len trie_type / 2 + fast_index_len trie_type / 2 ≡ fast_index_len trie_type
even Fast = refl
even Small = refl

some : (trie_type : TrieType) → 0 < fast_index_len trie_type / 2
some Fast = omega arith
some Small = omega arith

pub loop-i-preserved : goal.loop-i-preserved
loop-i-preserved c =
    let cells = slice_values c.prefix-cells.result in
    let half = c.fast_index_len-half.result / 2 in
    let at = c.at.ensures in
    let above = c.at-in-loop-i.ensures in
    let inside = slice_get_within cells (half + c.loop-i.i) c.at-in-loop-i.result above in (
      subst (λ n. Decides c.args.len cells (c.loop-i.i + 1) n) (sym c.max-lower.ensures)
          (more c.args.len cells c.loop-i.i c.loop-i.lower c.at.result
          (slice_get_within cells c.loop-i.i c.at.result at)
          (get_or_from_slice_get cells c.loop-i.i c.at.result 0 at) c.loop-i.invariant.0),
      subst (λ n. Decides c.args.len (drop half cells) (c.loop-i.i + 1) n) (sym c.max-upper.ensures)
          (more c.args.len (drop half cells) c.loop-i.i c.loop-i.upper c.at-in-loop-i.result
          (omega (arith, inside, length-drop half cells))
          (get_or-drop half cells c.loop-i.i 0 ∙ get_or_from_slice_get cells (half + c.loop-i.i) c.at-in-loop-i.result 0 above)
          c.loop-i.invariant.1),
    )

pub returns : goal.returns
returns c =
    let index = slice_values c.args.index in
    let cells = slice_values c.prefix-cells.result in
    let half = c.fast_index_len-half.result / 2 in
    let len = c.args.len in
    let first : cells ≡ take (2 * half) index = c.prefix-cells.ensures in
    let all : half + half ≡ fast_index_len c.args.trie_type =
    ap (λ n. n / 2 + n / 2) c.fast_index_len-half.ensures ∙ even c.args.trie_type in
    let one : 0 < half = subst (λ n. 0 < n / 2) (sym c.fast_index_len-half.ensures) (some c.args.trie_type) in
    let within : half + half ≤ length cells = omega (
      arith,
      all,
      c.requires,
      ap length first,
      length-take-le (2 * half) index (omega (arith, all, c.requires)),
    ) in
    let end : c.loop-i.i ≡ half = omega (arith, c.loop-i-test.false, c.loop-i.auto.i-end) in
    ap (λ n. nat_lt len (n + 64)) c.max.ensures
    ∙ halves len cells half c.loop-i.lower c.loop-i.upper one within
    (subst (λ i. Decides len cells i c.loop-i.lower) end c.loop-i.invariant.0)
    (subst (λ i. Decides len (drop half cells) i c.loop-i.upper) end c.loop-i.invariant.1)
    ∙ ap (λ xs. list_any (passes len) (take (half + half) xs)) first
    ∙ ap (list_any (passes len)) (take-take (half + half) (2 * half) index (omega arith))
    ∙ ap (λ n. list_any (passes len) (take n index)) all
