-- Hashes of windows of cells.
use Rattle.std.specs.Prelude.{ℕ, ◌+◌, ◌*◌, ◌/◌, ◌%◌, ◌^◌, List, fold}

-- The share of a cell in a hash: its square. So a cell cannot be chosen by a division such that a
-- window gets a given hash.
unfoldable pub share : ℕ → ℕ
share x = x * x % 2 ^ 64

-- The hash of some cells: a number in base 0x9e3779b97f4a7c15, modulo 2^64, whose digits are the
-- shares of the cells.
unfoldable pub cells_hash : List ℕ → ℕ
cells_hash xs = fold (λ sum x. (sum + share x) * 0x9e3779b97f4a7c15) 0 xs % 2 ^ 64

-- The factor that removes a cell from the hash: when the first cell leaves a window of k cells, the
-- hash changes by that cell's share times this factor.
unfoldable pub leaving_factor : ℕ → ℕ
leaving_factor k = 0xffffffffffffffff * 0x9e3779b97f4a7c15 ^ k % 2 ^ 64

-- The bucket of some cells, among n buckets, by the upper half of their hash.
unfoldable pub bucket : ℕ → List ℕ → ℕ
bucket n xs = cells_hash xs / 2 ^ 32 * n / 2 ^ 32
