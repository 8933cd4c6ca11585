use Rattle.std.proofs.Common.{rules, ◌≡◌, ℕ, ◌+◌, ◌-◌, ◌/◌, ◌%◌, ◌≤◌, length, slice_index, arith, ap}
use Rattle.icu_trie_builder.specs.Inside.Index.Layout.{IsNullIndex}
use Rattle.icu_trie_builder.specs.Inside.Index.IndexParts.{IsUpper}
use Rattle.icu_trie_builder.proofs.IndexLemmas.Laying.{parts}
use Rattle.icu_trie_builder.proofs.IndexLemmas.Upper.{both}
use Rattle.icu_trie_builder.proofs.index.push_upper.Goals as goal

pub push_index1-requires : goal.push_index1-requires
push_index1-requires c = λ j l.
    let held : c.deref-4.result.now ≡ c.in_ok-places.places.items = search rules in
    let held4 : c.deref-3.result.now ≡ c.in_ok-cells.cells.items = search rules in
    let held3 : c.deref-2.result.now ≡ c.in_ok-numbers.numbers.items = search rules in
    let p = parts c.args.trie_type in
    let few : length c.in_ok-cells.cells.items ≤ 2176 =
    omega (
      arith,
      c.in_ok-cells.ensures.len,
      ap length held3,
      c.in_ok-numbers.ensures.indexed.count,
      c.requires.small_len,
      c.requires.within,
      p.1,
      p.3,
      c.fast_limit-limit.ensures,
    ) in
    let places = c.in_ok-places.ensures.placed in
    let w = places.placed j 0 (omega arith) (omega (arith, l, ap length held, places.count)) in
    omega (arith, w.0, ap (λ xs. slice_index xs j) held, ap length held4, few, places.short, c.in_ok-numbers.ensures.store.room)

-- The index, and its cell of the null blocks.
made : (c : goal.After-drop-fast-inside-3)
    → IsUpper c.args.trie_type c.args.high_start c.args.small.now c.args.index.now.items c.push_stored.new.index.items
    × IsNullIndex c.args.trie_type c.args.high_start c.args.null c.args.small.now c.push_stored.new.index.items c.null_cell.result
made c =
    let held5 : c.deref-4.result.now ≡ c.in_ok-places.places.items = search rules in
    let held4 : c.deref-3.result.now ≡ c.in_ok-cells.cells.items = search rules in
    let held3 : c.deref-2.result.now ≡ c.in_ok-numbers.numbers.items = search rules in
    let blocks : ℕ = c.div_ceil.result - c.fast_limit-limit.result / 16384 in
    both c.args.trie_type c.args.high_start blocks (c.fast_limit-limit.result / 64 + blocks) (c.fast_limit-limit.result % 16384 / 512)
    c.args.small.now c.place_index3.new.store c.place_index2.new.store c.in_ok-numbers.numbers.items c.in_ok-cells.cells.items
    c.in_ok-places.places.items
    c.args.index.now.items c.push_index1.new.index.items c.push_stored.new.index.items
    c.requires.aligned c.requires.above c.requires.within c.requires.small_len c.requires.small_fit c.requires.fast (search arith)
    (search arith) (search arith)
    (search rules) (search rules) (search rules) (search rules) (search rules) (rw held4 at c.in_ok-places.ensures.placed.placed)
    (search rules) (search rules) (search rules) c.args.null c.null_cell.result (search rules)

pub returns-clause-upper : goal.returns-clause-upper
returns-clause-upper c = (made c).0

pub returns-clause-null : goal.returns-clause-null
returns-clause-null c = (made c).1
