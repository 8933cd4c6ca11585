use Rattle.std.proofs.Common.{◌∙◌, ◌≡◌, ◌+◌, ◌*◌, ◌/◌, ◌%◌, ℕ, ap, arith, get_or}
use Rattle.std.specs.Int.{bit_at}
use Rattle.std.specs.Prelude.{nat_eq}
use Rattle.icu_frozen_sets.proofs.BitLemmas.{bit_tested}
use Rattle.icu_frozen_sets.proofs.frozen.FrozenCodePointSet.contains_short.Goals as goal

pub returns : goal.returns
returns c =
    let s = c.self.inside in
    let n = 64 * c.args.word + c.args.place in
    let w : c.args.word ≡ n / 64 = omega arith in
    let p : c.args.place ≡ n % 64 = omega arith in
    rw (← c.self.view_is)
    (bit_tested (get_or s.two_bytes c.args.word 0) c.args.place
    ∙ (ap (λ (k : ℕ). nat_eq (bit_at (get_or s.two_bytes k 0) c.args.place) 1) w
    ∙ (ap (λ (k : ℕ). nat_eq (bit_at (get_or s.two_bytes (n / 64) 0) k) 1) p
    ∙ c.self.invariant.short n (omega arith))))
