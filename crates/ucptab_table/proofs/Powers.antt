-- Numbers of a few digits.
use Rattle.std.proofs.Common.{ℕ, ◌+◌, ◌*◌, ◌^◌, ◌<◌, ◌≤◌, suc, arith, add-one}
use Rattle.std.proofs.Math.Nat.{pow-suc, pow-le-pow_left, pow-le-pow_right, mul-le-mul_right}

-- one digit more
pub one_digit_more : (base i n d : ℕ) → n < base ^ i → d < base → n * base + d < base ^ (i + 1)
one_digit_more base i n d below digit =
    let step : suc n * base ≤ base ^ i * base = mul-le-mul_right base (omega arith) in
    rw (add-one, pow-suc) (omega arith)

-- up to ten digits of a base up to 16 fit 40 bits
pub digits_fit : (base i : ℕ) → base ≤ 16 → i ≤ 10 → base ^ i ≤ 2 ^ 40
digits_fit base i small few =
    let left : base ^ i ≤ 16 ^ i = pow-le-pow_left small i in
    let right : 16 ^ i ≤ 16 ^ 10 = pow-le-pow_right (omega arith) few in
    omega arith
