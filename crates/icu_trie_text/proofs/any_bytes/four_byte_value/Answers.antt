use Rattle.std.proofs.Common.{◌≡◌, ℕ, ◌+◌, ◌-◌, ◌*◌, ◌<◌, get_or, bit_or, Some, arith}
use Rattle.std.proofs.lemmas.Nat.{le_or_l, le_or_r}
use Rattle.icu_utf.proofs.CallerLemmas.{four_found, trail_at}
use Rattle.icu_trie_text.proofs.any_bytes.four_byte_value.Goals as goal

pub returns : goal.returns
returns g c =
    let a : ℕ = c.from.result - 240 in
    let bytes = c.args.bytes.now in
    let s : ℕ = c.trail_of-second.result in
    let t : ℕ = c.trail_of-third.result in
    let u : ℕ = c.trail_of-fourth.result in
    let both = le_or_l (bit_or s t) u in
    let small : s < 64 = omega (arith, le_or_l s t, both, c.if-second-third-ge64.false) in
    let small_too : t < 64 = omega (arith, le_or_r s t, both, c.if-second-third-ge64.false) in
    let small_last : u < 64 = omega (arith, le_or_r (bit_or s t) u, c.if-second-third-ge64.false) in
    let lead : get_or bytes 0 0 ≡ 240 + a = omega (arith, c.from.ensures, c.requires.from) in
    let second = trail_at bytes 1 s (omega arith) (omega (arith, c.trail_of-second.ensures.byte small)) small in
    let third = trail_at bytes 2 t (omega arith) (omega (arith, c.trail_of-third.ensures.byte small_too)) small_too in
    let fourth = trail_at bytes 3 u (omega arith) (omega (arith, c.trail_of-fourth.ensures.byte small_last)) small_last in
    let high = c.is_high_of_four.ensures.0 c.if-not-is_high_of_four.false in
    (Some ((a * 64 + s) * 4096 + t * 64 + u), four_found bytes a s t u lead second high third fourth, c.value.ensures)
