-- An upper bound for the work that is left.
use Rattle.std.proofs.Common.{◌≡◌, ℕ, suc, ◌+◌, ◌-◌, ◌^◌, ◌<◌, ◌≤◌, List, [], ◌∷◌, ◌++◌, arith}
use Rattle.std.proofs.lemmas.List.Sums.{sum_by-append}
use Rattle.std.proofs.Math.Nat.{pow-le-pow_right, one-le-pow, pow-suc}
use Rattle.icu_char16trie.specs.Pending.{weight, parts_work}
use Rattle.icu_char16trie.specs.declared.pending.BranchPart.{BranchPart}

two_powers : (k x y : ℕ) → x ≤ k → y ≤ k → 3 ^ x + 3 ^ y < 3 ^ suc k
two_powers k x y h i =
    let wx : 3 ^ x ≤ 3 ^ k = pow-le-pow_right (omega arith) h in
    let wy : 3 ^ y ≤ 3 ^ k = pow-le-pow_right (omega arith) i in
    let pos : 1 ≤ 3 ^ k = one-le-pow k 3 (omega arith) in
    rw (pow-suc 3 k) (omega arith)

one_power : (k x : ℕ) → x ≤ k → 3 ^ x < 3 ^ suc k
one_power k x h =
    let wx : 3 ^ x ≤ 3 ^ k = pow-le-pow_right (omega arith) h in
    let pos : 1 ≤ 3 ^ k = one-le-pow k 3 (omega arith) in
    rw (pow-suc 3 k) (omega arith)

step : (len p : ℕ) → p < len → len + 1 - p ≡ suc (len - p)
step len p h = omega arith

-- Two later indices have less weight together, and so has one.
pub weight_two : (len p a b : ℕ) → p < len → p < a → p < b → weight len a + weight len b < weight len p
unfolding weight
weight_two len p a b h i j = rw (step len p h) (two_powers (len - p) (len + 1 - a) (len + 1 - b) (omega arith) (omega arith))

pub weight_one : (len p a : ℕ) → p < len → p < a → weight len a < weight len p
unfolding weight
weight_one len p a h i = rw (step len p h) (one_power (len - p) (len + 1 - a) (omega arith))

pub weight_some : (len p : ℕ) → 0 < weight len p
unfolding weight
weight_some len p = one-le-pow (len + 1 - p) 3 (omega arith)

pub work_push : (len : ℕ) (parts : List BranchPart) (part : BranchPart)
    → parts_work len (parts ++ part ∷ []) ≡ parts_work len parts + weight len part.place
unfolding parts_work
work_push len parts part = omega (arith, sum_by-append (λ (t : BranchPart). weight len t.place) parts (part ∷ []))

-- A later index has no more weight.
pub weight_le : (len p a : ℕ) → p ≤ a → weight len a ≤ weight len p
unfolding weight
weight_le len p a h = pow-le-pow_right (omega arith) (omega arith)
