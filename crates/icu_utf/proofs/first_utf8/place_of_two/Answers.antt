use Rattle.std.proofs.Common.{◌≡◌, ℕ, ◌+◌, ◌-◌, get_or, arith}
use Rattle.icu_utf.proofs.Utf8Parts.{not_second_of_two, two_found}
use Rattle.icu_utf.proofs.first_utf8.place_of_two.Goals as goal

pub returns-in_err-second : goal.returns-in_err-second
returns-in_err-second c = rw c.from_residual.ensures
    (not_second_of_two c.args.bytes.now c.requires.from c.requires.to c.in_err-second.ensures c.requires.some).no_character

pub returns : goal.returns
returns c =
    let first : ℕ = c.from-first.result - 192 in
    let lead : get_or c.args.bytes.now 0 0 ≡ 192 + first = omega (arith, c.from-first.ensures, c.requires.from) in (
      c.in_ok-second.ensures.six,
      two_found c.args.bytes.now first c.in_ok-second.second lead (omega (arith, lead, c.requires.from))
          (omega (arith, lead, c.requires.to)) c.in_ok-second.ensures,
      omega (arith, lead, c.requires.to),
    )
