-- Rolling hashes: the hash of a window gives the hash of the next one.
use Rattle.std.proofs.Common.{◌≡◌, ℕ, ◌+◌, ◌*◌, ◌%◌, ◌^◌, ◌<◌, List, [], ◌∷◌, ◌++◌, length, get_or, take, drop, arith, ◌∙◌, sym, ap, suc, drop-cons}
use Rattle.std.specs.List.{fold}
use Rattle.std.proofs.Math.Nat.{mod-add-mod, add-mod-mod, add-mul-mod_self_left}
use Rattle.std.proofs.lemmas.Nat.{mul-mod_first, mul-mod_second}
use Rattle.std.proofs.lemmas.List.{get_or-drop, length-take, length-drop, take_more}
use Rattle.std.proofs.lemmas.List.Sums.{fold-append}
use Rattle.icu_trie_core.specs.Blocks.{window}
use Rattle.icu_trie_builder.specs.Inside.Compaction.Hashes.{cells_hash, leaving_factor, share}

abbrev pub base : ℕ
base = 0x9e3779b97f4a7c15

abbrev pub modulus : ℕ
modulus = 18446744073709551616

-- The sum of some cells, continued from the sum of others.
abbrev sum_from : ℕ → List ℕ → ℕ
sum_from a xs = fold (λ sum x. (sum + share x) * base) a xs

power-suc : (n : ℕ) → base ^ suc n ≡ base ^ n * base
power-suc n = grind arith

-- One more cell.
step : (a x : ℕ) → ((a % modulus + x) % modulus * base) % modulus ≡ ((a + x) * base) % modulus
step a x = ap (λ n. (n * base) % modulus) (mod-add-mod a modulus x) ∙ mul-mod_first (a + x) base modulus

spread : (a x b q p : ℕ) → p ≡ q * b → (a + x) * b * q ≡ a * p + (0 + x) * b * q
spread a x b q p e = rw e (omega arith)

shift : (x b q p : ℕ) → q * b ≡ p → (0 + x) * b * q ≡ x * p
shift x b q p e = rw (← e) (omega arith)

-- The contribution of the first sum.
sum-parts : (a : ℕ) (xs : List ℕ) → sum_from a xs ≡ a * base ^ length xs + sum_from 0 xs
sum-parts a [] = omega arith
sum-parts a (x ∷ xs) =
    let q : ℕ = base ^ length xs in
    let one : sum_from a (x ∷ xs) ≡ (a + share x) * base * base ^ length xs + sum_from 0 xs = sum-parts ((a + share x) * base) xs in
    let two : sum_from 0 (x ∷ xs) ≡ (0 + share x) * base * base ^ length xs + sum_from 0 xs = sum-parts ((0 + share x) * base) xs in
    let three = spread a (share x) base (base ^ length xs) (base ^ suc (length xs)) (power-suc (length xs)) in
    omega (arith, one, two, three)

-- The contribution of the first cell.
sum-first : (x : ℕ) (xs : List ℕ) (p : ℕ) → base ^ length xs * base ≡ p → sum_from 0 (x ∷ xs) ≡ share x * p + sum_from 0 xs
sum-first x xs p e = sum-parts ((0 + share x) * base) xs ∙ ap (λ n. n + sum_from 0 xs) (shift (share x) base (base ^ length xs) p e)

-- One cell leaves, and another one enters.
roll : (x y v p : ℕ)
    → ((((x * p + v) % modulus + (x * (0xffffffffffffffff * p % modulus)) % modulus) % modulus + y) % modulus * base) %
    modulus ≡ ((v + y) * base) % modulus
roll x y v p =
    let out : ((x * p + v) % modulus + (x * (0xffffffffffffffff * p % modulus)) % modulus) % modulus ≡ v % modulus =
    mod-add-mod (x * p + v) modulus ((x * (0xffffffffffffffff * p % modulus)) % modulus)
    ∙ (ap (λ n. ((x * p + v) + n) % modulus) (mul-mod_second x (0xffffffffffffffff * p) modulus)
    ∙ (add-mod-mod (x * p + v) (x * (0xffffffffffffffff * p)) modulus
    ∙ (ap (λ n. n % modulus) (omega arith) ∙ add-mul-mod_self_left v modulus (x * p)))) in
    ap (λ n. ((n + y) % modulus * base) % modulus) out ∙ step v y

-- The window after another one.
pub hash-roll : (n at : ℕ) (cells : List ℕ) → at + suc n < length cells
    →
    (((cells_hash (window (suc n) at cells) + (share (get_or cells at 0) * leaving_factor (suc n)) % modulus) % modulus
    + share (get_or cells (at + suc n) 0)) % modulus * base) % modulus
    ≡ cells_hash (window (suc n) (at + 1) cells)
unfolding cells_hash leaving_factor
hash-roll n at cells below =
    let x : ℕ = get_or cells at 0 in
    let y : ℕ = get_or cells (at + suc n) 0 in
    let xs : List ℕ = take n (drop (at + 1) cells) in
    let p : ℕ = base ^ suc n in
    let v : ℕ = sum_from 0 xs in
    let here : at < length cells = omega (arith, below) in
    let rest : n < length (drop (at + 1) cells) = omega (arith, length-drop (at + 1) cells, below) in
    let len : length xs ≡ n = omega (arith, length-take n (drop (at + 1) cells), rest) in
    let after : suc at ≡ at + 1 = omega arith in
    let next : at + 1 + n ≡ at + suc n = omega arith in
    let more : n + 1 ≡ suc n = omega arith in
    let first : window (suc n) at cells ≡ x ∷ xs = ap (take (suc n)) (drop-cons cells at 0 here)
    ∙ ap (λ i. x ∷ take n (drop i cells)) after in
    let last : xs ++ y ∷ [] ≡ window (suc n) (at + 1) cells =
    ap (λ z. xs ++ z ∷ []) (ap (λ i. get_or cells i 0) (sym next) ∙ sym (get_or-drop (at + 1) cells n 0))
    ∙ (sym (take_more (drop (at + 1) cells) n 0 rest) ∙ ap (λ i. take i (drop (at + 1) cells)) more) in
    let power : base ^ length xs * base ≡ p = ap (λ i. base ^ i * base) len ∙ sym (power-suc n) in
    let sum : sum_from 0 (x ∷ xs) ≡ share x * p + v = sum-first x xs p power in
    ap (λ h. ((h % modulus + (share x * (0xffffffffffffffff * p % modulus)) % modulus) % modulus + share y) % modulus * base % modulus)
    (ap (sum_from 0) first ∙ sum)
    ∙ (roll (share x) (share y) v p ∙ (ap (λ s. s % modulus) (sym (fold-append (λ sum x. (sum + share x) * base) 0 xs (y ∷ [])))
    ∙ ap (λ zs. sum_from 0 zs % modulus) last))
