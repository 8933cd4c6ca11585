use Rattle.std.proofs.Common.{rules, ◌≡◌, ℕ, ◌++◌, length, drop, arith, ap, ◌∙◌}
use Rattle.std.proofs.lemmas.List.{length-append, length-drop}
use Rattle.icu_trie_builder.specs.Inside.Compaction.Placed.{OccursNowhere}
use Rattle.icu_trie_builder.proofs.CompactionLemmas.Placing.{placed-added}
use Rattle.icu_trie_builder.proofs.CompactionLemmas.TableLemmas.{part-tail, tables-append}
use Rattle.icu_trie_builder.proofs.compaction.cell_store.CellStore.place.Goals as goal

-- The cells once the rest of the block is appended.
added : (c : goal.In_ok-extend_from_slice)
    → c.extend_from_slice.new.self.items ≡ c.self.inside.cells.items ++ drop c.overlap-common.result c.args.wanted.now
added c = c.in_ok-extend_from_slice.ensures.items
    ∙ ap (λ xs. c.self.inside.cells.items ++ xs) (part-tail c.overlap-common.result c.args.wanted.now)

pub invariant_of-self-2 : goal.invariant_of-self-2
invariant_of-self-2 c =
    let cells = c.self.inside.cells.items in
    let wanted = c.args.wanted.now in
    let common : ℕ = c.overlap-common.result in
    let o = rw c.deref.ensures.value at c.overlap-common.ensures.inside in
    rw (added c) (record {
      few = omega (
        arith,
        length-append cells (drop common wanted),
        length-drop common wanted,
        c.overlap-common.ensures.below,
        o,
        c.if-at-limit.false,
        c.len.ensures,
        c.requires.limit,
      );
      tables = tables-append cells (drop common wanted) c.self.inside.tables.items c.self.invariant.tables;
    })

pub returns-clause-placed : goal.returns-clause-placed
returns-clause-placed c =
    let cells = c.self.inside.cells.items in
    let wanted = c.args.wanted.now in
    let common : ℕ = c.overlap-common.result in
    let o = c.overlap-common.ensures in
    let held = c.deref.ensures.value in
    let view : c.args.self.now ≡ cells = search rules in
    let len : c.len.result ≡ length cells = search rules in
    let none : OccursNowhere wanted c.args.self.now = rw c.in_default.is at c.in_ok-at.ensures.none in
    rw (added c, view, len) (placed-added c.args.limit common wanted cells o.below (rw held at o.inside) (rw held at o.tail)
    (rw held at o.longest) (rw view at none) (omega (arith, c.if-at-limit.false, len)))
