-- What impls cite about the numbers of values.
use Rattle.std.specs.Prelude.{◌≡◌, ℕ, Some}
use Rattle.std.proofs.Common.{arith}
use Rattle.icu_trie_core.specs.ValueNumbers.{fitting}

-- The unsigned value that has a number is that number.
pub fitting-number : (limit n m : ℕ) → fitting limit n ≡ Some m → m ≡ n
fitting-number limit n m e = grind (arith, e)
