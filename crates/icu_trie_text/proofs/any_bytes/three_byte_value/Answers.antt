use Rattle.std.proofs.Common.{◌≡◌, ℕ, ◌+◌, ◌-◌, ◌*◌, ◌<◌, get_or, arith}
use Rattle.std.proofs.lemmas.Nat.{le_or_l, le_or_r}
use Rattle.icu_trie_text.proofs.CopiedLemmas.{value_if}
use Rattle.icu_utf.proofs.CallerLemmas.{three_found, trail_at}
use Rattle.icu_trie_text.proofs.any_bytes.three_byte_value.Goals as goal

pub is_high_of_three-requires : goal.is_high_of_three-requires
is_high_of_three-requires g c =
    let small = le_or_l c.trail_of-second.result c.trail_of-third.result in
    omega (arith, small, c.if-second-third-ge64.false, c.from.ensures, c.requires.to)

pub value_in_block-requires : goal.value_in_block-requires
value_in_block-requires g c =
    omega (arith, le_or_r c.trail_of-second.result c.trail_of-third.result, c.if-second-third-ge64.false)

pub returns : goal.returns
returns g c =
    let a : ℕ = c.from.result - 224 in
    let bytes = c.args.bytes.now in
    let s : ℕ = c.trail_of-second.result in
    let t : ℕ = c.trail_of-third.result in
    let small : s < 64 = omega (arith, le_or_l s t, c.if-second-third-ge64.false) in
    let small_too : t < 64 = omega (arith, le_or_r s t, c.if-second-third-ge64.false) in
    let lead : get_or bytes 0 0 ≡ 224 + a = omega (arith, c.from.ensures, c.requires.from) in
    let second = trail_at bytes 1 s (omega arith) (omega (arith, c.trail_of-second.ensures.byte small)) small in
    let third = trail_at bytes 2 t (omega arith) (omega (arith, c.trail_of-third.ensures.byte small_too)) small_too in
    let high = c.is_high_of_three.ensures.0 c.if-not-is_high_of_three.false in
    value_if (g.V.PartValues.gives c.args.trie.now) bytes ((a * 64 + s) * 64 + t) 3 (g.V.PartValues.fast_blocks c.args.trie.now) (a * 64 + s)
    c.value_in_block.result (three_found bytes a s t lead (omega (arith, lead, c.requires.to)) second high third) c.value_in_block.ensures
