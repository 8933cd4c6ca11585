use Rattle.std.proofs.Common.{◌≡◌, ℕ, ◌+◌, ◌/◌, ◌%◌, List, arith, get_or}
use Rattle.icu_frozen_sets.specs.FrozenWords.{place_in}
use Rattle.icu_frozen_sets.specs.Inside.ThreeByte.{wide_place}
use Rattle.icu_frozen_sets.proofs.ThreeByteLemmas.{has_place, table_bits}
use Rattle.icu_frozen_sets.proofs.three_byte.three_bits.Goals as goal

pub returns-clause-bits : goal.returns-clause-bits
returns-clause-bits c = λ bits e.
    let table : List ℕ = c.args.table.now in
    let high : ℕ = c.args.high in
    let place : ℕ = get_or c.args.places.now (high / 16) 0 in
    let is : place ≡ wide_place table (high / 16) = c.requires.wide (high / 16) (omega (arith, c.requires.most)) in
    let found = has_place table high place c.requires.most is c.if-place.false in
    let index : ℕ = place + high % 16 in
    let at : index ≡ place_in table (high / 16) + high % 16 = omega (arith, found.1) in
    let same : bits ≡ get_or table index 0 = cc in
    table_bits table high index bits c.requires.most at same
