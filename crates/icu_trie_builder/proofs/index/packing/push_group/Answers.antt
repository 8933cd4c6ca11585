use Rattle.std.proofs.Common.{◌≡◌, ℕ, ◌+◌, ◌*◌, ◌%◌, get_or, arith, sym, ◌∙◌}
use Rattle.icu_trie_builder.specs.Inside.Index.IndexParts.{packed_cell}
use Rattle.icu_trie_builder.proofs.IndexLemmas.Growing.{grown-none, grown-push}
use Rattle.icu_trie_builder.proofs.IndexLemmas.PackingLemmas.{cell_high, cell_low}
use Rattle.icu_trie_builder.proofs.index.packing.push_group.Goals as goal

pub loop-q-init : goal.loop-q-init
loop-q-init c =
    let offsets = c.args.offsets.now in
    let group = c.args.group in
    let f : ℕ → ℕ = λ x. packed_cell offsets (9 * group + x) in
    let value : c.high_cell.result ≡ f 0 = c.high_cell.ensures ∙ sym (cell_high offsets group (9 * group + 0) (omega arith)) in
    grown-push 0 c.high_cell.result f c.args.packed.now.items c.args.packed.now.items c.push.new.self.items
    (grown-none f c.args.packed.now.items) c.in_ok-push.ensures.items value

pub loop-q-preserved : goal.loop-q-preserved
loop-q-preserved c =
    let offsets = c.args.offsets.now in
    let group = c.args.group in
    let q = c.loop-q.q in
    let f : ℕ → ℕ = λ x. packed_cell offsets (9 * group + x) in
    let x : ℕ = get_or offsets (8 * group + q) 0 % 65536 in
    let value : x ≡ f (q + 1) = sym (cell_low offsets group q (9 * group + (q + 1)) (omega arith) (omega arith)) in
    grown-push (q + 1) x f c.args.packed.now.items c.loop-q.packed.items c.push-in-loop-q.new.self.items c.loop-q.invariant
    c.in_ok-push-2.ensures.items value
