-- Groups of bytes in the other order, one after another: one more group, and the number of bytes.
use Rattle.std.proofs.Common.{◌≡◌, ℕ, zero, suc, ◌+◌, ◌*◌, ◌/◌, ◌≤◌, List, ◌++◌, length, take, drop, reverse, refl, arith, sym, ◌∙◌, ap, append_assoc}
use Rattle.std.proofs.Math.Nat.{zero-mul, suc-mul}
use Rattle.std.proofs.lemmas.List.{length-append, length-take, length-drop, length-take-le, length-reverse, append-nil, drop-drop}
use Rattle.std.proofs.lemmas.Nat.{div-add-mod'}
use Rattle.icu_trie_binary.specs.SwappedTrie.{swapped_groups, swap_units, swapped_header, index_said, data_said, swapped_cells, in_other_order}
use Rattle.std.specs.Prelude.{Bool, true, false, nat_lt, if◌then◌else◌}
use Rattle.std.proofs.lemmas.Grind.{common_steps}

pub swapped_groups-more : (k n : ℕ) (b : List ℕ) → swapped_groups k (n + 1) b ≡ swapped_groups k n b ++ reverse (take k (drop (n * k) b))
swapped_groups-more k zero b = rw zero-mul (append-nil _)
swapped_groups-more k (suc n) b =
    let again = swapped_groups-more k n (drop k b) in
    let place : drop (n * k) (drop k b) ≡ drop (suc n * k) b = drop-drop (n * k) k b ∙ ap (λ i. drop i b) (omega (arith, suc-mul n k)) in
    ap (λ m. swapped_groups k m b) count
    ∙ ap (λ s. reverse (take k b) ++ s) (again ∙ ap (λ d. swapped_groups k n (drop k b) ++ reverse (take k d)) place)
    ∙ sym (append_assoc (reverse (take k b)) _ _)
  where
    count : suc n + 1 ≡ suc (n + 1)
    count = omega arith

length-swapped_groups : (k n : ℕ) (b : List ℕ) → n * k ≤ length b → length (swapped_groups k n b) ≡ n * k
length-swapped_groups k zero b l = sym (zero-mul k)
length-swapped_groups k (suc n) b l =
    let again = length-swapped_groups k n (drop k b) (omega (arith, l, length-drop k b, suc-mul n k)) in
    omega (
      arith,
      length-append (reverse (take k b)) (swapped_groups k n (drop k b)),
      length-reverse (take k b),
      length-take-le k b (omega (arith, l, suc-mul n k)),
      again,
      suc-mul n k,
    )

pub length-swap_units : (k : ℕ) (b : List ℕ) → length (swap_units k b) ≡ length b / k * k
unfolding swap_units
length-swap_units k b = length-swapped_groups k (length b / k) b (omega (arith, div-add-mod' (length b) k))

-- A header has 16 bytes in either order.
pub length-swapped_header : (b : List ℕ) → 16 ≤ length b → length (swapped_header b) ≡ 16
unfolding swapped_header
length-swapped_header b l =
    omega (
      arith,
      length-append (swap_units 4 (take 4 b)) (swap_units 2 (take 12 (drop 4 b))),
      length-swap_units 4 (take 4 b),
      length-swap_units 2 (take 12 (drop 4 b)),
      length-take-le 4 b (omega (arith, l)),
      length-take-le 12 (drop 4 b) (omega (arith, l, length-drop 4 b)),
    )

-- A trie in the other order takes no more bytes than there are.
pub length-swapped : (width : ℕ) (header b : List ℕ) → length header ≡ 16 → 16 ≤ length b
    → length (header ++ swapped_cells width header (drop 16 b)) ≤ length b
length-swapped width header b h l =
    let rest = drop 16 b in
    let front = take (index_said header) rest in
    let back = take (data_said width header) (drop (index_said header) rest) in
    omega (
      arith,
      h,
      l,
      length-append header (swapped_cells width header rest),
      length-append (swap_units 2 front) (swap_units width back),
      length-swap_units 2 front,
      length-swap_units width back,
      div-add-mod' (length front) 2,
      div-add-mod' (length back) width,
      length-take (index_said header) rest,
      length-take (data_said width header) (drop (index_said header) rest),
      length-drop (index_said header) rest,
      length-drop 16 b,
    )

either : (p : Bool) (b c : List ℕ) (n : ℕ) → (p ≡ true → length b ≤ n) → (p ≡ false → length c ≤ n) → length (if p then b else c) ≤ n
either true b c n h g = h refl
either false b c n h g = g refl

pub length-in_other_order : (width : ℕ) (b : List ℕ) → length (in_other_order width b) ≤ length b
length-in_other_order width b =
    either (nat_lt (length b) 16) _ _ (length b) (λ e. omega arith)
    (λ e. let long : 16 ≤ length b = grind (arith, common_steps) in
    length-swapped width (swapped_header b) b (length-swapped_header b long) long)
