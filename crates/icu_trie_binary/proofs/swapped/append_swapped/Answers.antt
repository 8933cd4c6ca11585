-- Each iteration appends one more group.
use Rattle.std.proofs.Common.{◌≡◌, ◌*◌, ◌/◌, ◌++◌, take, drop, reverse, length, arith, sym, ◌∙◌, ap, append_assoc}
use Rattle.icu_trie_binary.specs.SwappedTrie.{swapped_groups, swap_units}
use Rattle.icu_trie_binary.proofs.SwappedUnits.{swapped_groups-more}
use Rattle.icu_trie_binary.proofs.swapped.append_swapped.Goals as goal

pub loop-i-preserved : goal.loop-i-preserved
loop-i-preserved c =
    let w = c.args.width in
    let i = c.loop-i.i in
    let b = c.args.bytes.now in
    let group : c.reverse.new.self ≡ reverse (take w (drop (i * w) b)) =
    c.reverse.ensures.after ∙ ap reverse (c.copy_from_slice.ensures.after ∙ ap (λ n. take n (drop (i * w) b)) (omega arith)) in
    let wrote : c.extend_from_slice.new.self.items ≡ c.loop-i.into.items ++ c.reverse.new.self = c.in_ok-extend_from_slice.ensures.items in
    wrote ∙ (ap (λ x. x ++ c.reverse.new.self) c.loop-i.invariant
    ∙ (append_assoc c.args.into.now.items (swapped_groups w i b) c.reverse.new.self
    ∙ ap (λ x. c.args.into.now.items ++ x) (ap (λ x. swapped_groups w i b ++ x) group ∙ sym (swapped_groups-more w i b))))

pub returns : goal.returns
unfolding swap_units
returns c =
    let all : c.loop-i.i ≡ length c.args.bytes.now / c.args.width = omega arith in
    c.loop-i.invariant ∙ ap (λ n. c.args.into.now.items ++ swapped_groups c.args.width n c.args.bytes.now) all
