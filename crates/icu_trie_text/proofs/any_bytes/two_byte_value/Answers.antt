use Rattle.std.proofs.Common.{◌≡◌, ℕ, ◌+◌, ◌-◌, ◌*◌, get_or, Some, arith}
use Rattle.icu_utf.specs.Trails.{IsTrail}
use Rattle.icu_utf.proofs.CallerLemmas.{two_found}
use Rattle.icu_trie_text.proofs.any_bytes.two_byte_value.Goals as goal

pub returns : goal.returns
returns g c =
    let a : ℕ = c.from.result - 192 in
    let b : ℕ = c.trail_of-second.result in
    let bytes = c.args.bytes.now in
    let lead : get_or bytes 0 0 ≡ 192 + a = omega (arith, c.from.ensures, c.requires.from) in
    let byte : get_or bytes 1 0 ≡ 128 + b = omega (arith, c.trail_of-second.ensures.byte (omega arith)) in
    let second : IsTrail bytes 1 b = record { there = omega arith; byte = byte; six = omega arith } in (
      Some (a * 64 + b),
      two_found bytes a b lead (omega (arith, lead, c.requires.from)) (omega (arith, lead, c.requires.to)) second,
      c.value_in_fast_block.ensures,
    )
