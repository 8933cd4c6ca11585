-- Lemmas about blocks of 16 code points.
use Rattle.std.proofs.Common.{◌≡◌, ◌≢◌, ℕ, ◌+◌, ◌*◌, ◌/◌, ◌%◌, ◌<◌, ◌≤◌, ◌⊎◌, inl, inr, Bool, true, false, List, [], ◌∷◌, ◌++◌, length, get_or, set, replicate, take, drop, refl, subst, sym, ◌∙◌, ap, arith, ◌-◌}
use Rattle.std.proofs.lemmas.Bool.{cases_lt, cases_eq, cases_Bool, false≢true}
use Rattle.std.proofs.lemmas.List.{get_or-set_same, get_or-set_other, length-set, get_or_default, get_or_past, same_lists, length-take, length-drop, get_or-take, get_or-drop, length-replicate, get_or-replicate, get_or_append_left, get_or_push, take-replicate, drop-replicate, drop-drop}
use Rattle.std.proofs.Math.Seq.{take-add}
use Rattle.std.specs.Bool.{⊤}
use Rattle.std.specs.Prelude.{Option, None, Some, MatchOption, unwrap_or}
use Rattle.std.specs.List.{zip, AllWithin, HoldsAt}
use Rattle.std.proofs.lemmas.Slice.Zip.{get_or-zip, length-zip}
use Rattle.std.proofs.Math.Nat.{mul_assoc, mul-add, mul-le-mul_left}
use Rattle.std.proofs.lemmas.List.FromFn.{length-map-range_with_len, get_or-map-range_with_len}
use Rattle.icu_trie_core.specs.Blocks.{block, window}
use Rattle.icu_trie_builder.specs.Inside.Map.NumberMap.{code_points}
use Rattle.icu_trie_builder.specs.Inside.Map.Blocks.{AreBlocks, IsWritten, number_at, all_numbers, is_mixed}

code_points-is : code_points ≡ 0x110000
unfolding code_points
code_points-is = refl

-- The list of the numbers of all code points.
module _ (f : ℕ → ℕ) where
  numbers-length : length (all_numbers f) ≡ 0x110000
  numbers-length = length-map-range_with_len f 0 code_points ∙ code_points-is

  numbers-at : (c d : ℕ) → c < 0x110000 → get_or (all_numbers f) c d ≡ f c
  numbers-at c d l = get_or-map-range_with_len f 0 code_points c c d (omega (arith, l, code_points-is)) (omega arith)

  numbers-are : (xs : List ℕ) → length xs ≡ 0x110000 → ((c : ℕ) → c < 0x110000 → f c ≡ get_or xs c 0) → all_numbers f ≡ xs
  numbers-are xs len at = same_lists (all_numbers f) xs (numbers-length ∙ sym len) (λ c d l.
      let below : c < 0x110000 = omega (arith, l, numbers-length) in
      numbers-at c d below ∙ at c below ∙ get_or_default xs c 0 d (omega (arith, below, len)))

-- All code points have one number.
pub one-length : (v : ℕ) → length (replicate code_points v) ≡ 0x110000
one-length v = length-replicate code_points v ∙ code_points-is

pub one-at : (v c : ℕ) → c < 0x110000 → get_or (replicate code_points v) c 0 ≡ v
one-at v c l = get_or-replicate code_points c v 0 (omega (arith, l, code_points-is))

-- The number of a code point in block number i, if the block is mixed and if it is not.
module _ (m : List Bool) (n : List ℕ) (cs : List (List ℕ)) (i c : ℕ) (e : c / 16 ≡ i) where
  at-mixed : is_mixed m i ≡ true → number_at m n cs c ≡ get_or (get_or cs (get_or n i 0) []) (c % 16) 0
  unfolding number_at
  at-mixed h = rw (e, h) refl

  at-one : is_mixed m i ≡ false → number_at m n cs c ≡ get_or n i 0
  unfolding number_at
  at-one h = rw (e, h) refl

-- No block is mixed, and each has this number.
pub made-numbers : (m : List Bool) (n : List ℕ) (number : ℕ) → ((i : ℕ) (d : Bool) → i < 0x11000 → get_or m i d ≡ false)
    → ((i d : ℕ) → i < 0x11000 → get_or n i d ≡ number) → all_numbers (number_at m n []) ≡ replicate code_points number
made-numbers m n number whole filled = numbers-are (number_at m n []) (replicate code_points number) (one-length number)
    (λ c l. let i : c / 16 < 0x11000 = omega (arith, l) in
    at-one m n [] (c / 16) c refl (whole (c / 16) false i) ∙ filled (c / 16) 0 i ∙ sym (one-at number c l))

-- The number of a code point in a block that does not change when block number i does.
others : (m m' : List Bool) (n n' : List ℕ) (cs cs' : List (List ℕ)) (i : ℕ) → ((j : ℕ) → j ≢ i → is_mixed m' j ≡ is_mixed m j)
    → ((j : ℕ) → j ≢ i → get_or n' j 0 ≡ get_or n j 0)
    → ((j : ℕ) → j ≢ i → is_mixed m j ≡ true → get_or cs' (get_or n j 0) [] ≡ get_or cs (get_or n j 0) [])
    → (c : ℕ) → c / 16 ≢ i → number_at m' n' cs' c ≡ number_at m n cs c
others m m' n n' cs cs' i mixed places cells c ne = let j = c / 16 in elim (cases_Bool (is_mixed m j)) [
  | inl h ↦ at-mixed m' n' cs' j c refl (mixed j ne ∙ h) ∙ ap (λ x. get_or (get_or cs' x []) (c % 16) 0) (places j ne)
      ∙ ap (λ xs. get_or xs (c % 16) 0) (cells j ne h) ∙ sym (at-mixed m n cs j c refl h)
  | inr h ↦ at-one m' n' cs' j c refl (mixed j ne ∙ h) ∙ places j ne ∙ sym (at-one m n cs j c refl h)
]

-- A write, number by number.
written : (f g : ℕ → ℕ) (start end number : ℕ) → end ≤ 0x110000 → ((c : ℕ) → start ≤ c → c < end → g c ≡ number)
    → ((c : ℕ) → (c < start) ⊎ (end ≤ c) → g c ≡ f c) → IsWritten (all_numbers f) (all_numbers g) start end number
written f g start end number within inside outside = record {
  len = numbers-length g ∙ sym (numbers-length f);
  inside = λ c low high. numbers-at g c 0 (omega (arith, high, within)) ∙ inside c low high;
  outside = λ c out. elim (cases_lt c 0x110000) [
    | inl l ↦ numbers-at g c 0 l ∙ outside c out ∙ sym (numbers-at f c 0 l)
    | inr past ↦ get_or_past (all_numbers g) c 0 (omega (arith, past, numbers-length g))
        ∙ sym (get_or_past (all_numbers f) c 0 (omega (arith, past, numbers-length f)))
  ];
}

-- Nothing is written, or one position.
pub written-none : (xs : List ℕ) (start number : ℕ) → IsWritten xs xs start start number
written-none xs start number = record { len = refl; inside = λ c low high. absurd (omega (arith, low, high)); outside = λ _ _. refl }

pub written-one : (xs : List ℕ) (i number : ℕ) → i < length xs → IsWritten xs (set xs i number) i (i + 1) number
written-one xs i number there = record {
  len = length-set xs i number;
  inside = λ c low high. let e : c ≡ i = omega (arith, low, high) in rw e (get_or-set_same xs i number 0 there);
  outside = λ c out. get_or-set_other xs i c number 0 (λ e. elim out [ inl l ↦ omega (arith, l, e) | inr h ↦ omega (arith, h, e) ]);
}

-- Two writes, one after the other.
pub written-on : {a b c : List ℕ} {start middle end number : ℕ} → start ≤ middle → middle ≤ end
    → IsWritten a b start middle number → IsWritten b c middle end number → IsWritten a c start end number
written-on {middle = middle} low high first second = record {
  len = second.len ∙ first.len;
  inside = λ k from to. elim (cases_lt k middle) [
    | inl l ↦ second.outside k (inl l) ∙ first.inside k from l
    | inr m ↦ second.inside k m to
  ];
  outside = λ k out. elim out [
    | inl l ↦ second.outside k (inl (omega (arith, l, low))) ∙ first.outside k (inl l)
    | inr m ↦ second.outside k (inr m) ∙ first.outside k (inr (omega (arith, m, high)))
  ];
}

module _ (m : List Bool) (n : List ℕ) (cs : List (List ℕ)) (sound : AreBlocks m n cs) where
  -- Block number i, which is not mixed, gets its own cells with its number, after the cells so far.
  pub mix-same : (i : ℕ) → i < 0x11000 → is_mixed m i ≡ false
      → all_numbers (number_at (set m i true) (set n i (length cs)) (cs ++ replicate 16 (get_or n i 0) ∷ []))
      ≡ all_numbers (number_at m n cs)
  mix-same i there whole =
      let m' : List Bool = set m i true in let n' : List ℕ = set n i (length cs) in
      let f : ℕ → ℕ = number_at m n cs in let x : List ℕ = replicate 16 (get_or n i 0) in let cs' : List (List ℕ) = cs ++ x ∷ [] in
      numbers-are (number_at m' n' cs') (all_numbers f) (numbers-length f) (λ c l. elim (cases_eq (c / 16) i) [
        | inl e ↦ at-mixed m' n' cs' i c e (get_or-set_same m i true false (omega (arith, there, sound.all)))
            ∙ ap (λ y. get_or (get_or cs' y []) (c % 16) 0) (get_or-set_same n i (length cs) 0 (omega (arith, there, sound.same)))
            ∙ ap (λ y. get_or y (c % 16) 0) (get_or_push cs x [] (length cs) refl)
            ∙ get_or-replicate 16 (c % 16) (get_or n i 0) 0 (omega arith) ∙ sym (at-one m n cs i c e whole)
        | inr ne ↦ others m m' n n' cs cs' i (λ j nj. get_or-set_other m i j true false nj)
            (λ j nj. get_or-set_other n i j (length cs) 0 nj)
            (λ j nj h. get_or_append_left cs (x ∷ []) [] (get_or n j 0) (sound.inside j h)) c ne
      ] ∙ sym (numbers-at f c 0 l))

  -- The cells of a mixed block are written from one code point of it up to another (exclusive).
  pub fill-written : (xs : List ℕ) (start end number : ℕ) → is_mixed m (start / 16) ≡ true → start < end → end ≤ 16 * (start / 16) + 16
      → IsWritten (get_or cs (get_or n (start / 16) 0) []) xs (start - 16 * (start / 16)) (end - 16 * (start / 16)) number → end ≤ 0x110000
      → IsWritten (all_numbers (number_at m n cs)) (all_numbers (number_at m n (set cs (get_or n (start / 16) 0) xs))) start end number
  fill-written xs start end number own range within fill all =
      let i : ℕ = start / 16 in let place : ℕ = get_or n i 0 in let cs' : List (List ℕ) = set cs place xs in
      let filled : (c : ℕ) → c / 16 ≡ i → number_at m n cs' c ≡ get_or xs (c % 16) 0 = λ c e. at-mixed m n cs' i c e own
      ∙ ap (λ ys. get_or ys (c % 16) 0) (get_or-set_same cs place xs [] (sound.inside i own)) in
      written (number_at m n cs) (number_at m n cs') start end number all
      (λ c low high. filled c (omega (arith, low, high, within))
      ∙ fill.inside (c % 16) (omega (arith, low, high, within)) (omega (arith, low, high, within)))
      (λ c out. elim (cases_eq (c / 16) i) [
        | inl e ↦ filled c e
            ∙ fill.outside (c % 16) (elim out [ inl l ↦ inl (omega (arith, l, e)) | inr h ↦ inr (omega (arith, h, e, range)) ])
            ∙ sym (at-mixed m n cs i c e own)
        | inr ne ↦ others m m n n cs cs' i (λ _ _. refl) (λ _ _. refl)
            (λ j nj h. get_or-set_other cs place (get_or n j 0) xs [] (λ e. nj (sound.own j i h own e))) c ne
      ])

  -- Block number i, which is not mixed, gets another number.
  pub set-written : (i number start end : ℕ) → i < 0x11000 → is_mixed m i ≡ false → start / 16 ≡ i → start < end → end ≤ 16 * i + 16
      → (start % 16 ≡ 0) ⊎ (is_mixed m (start / 16) ≡ true) → (end % 16 ≡ 0) ⊎ (is_mixed m (end / 16) ≡ true)
      → IsWritten (all_numbers (number_at m n cs)) (all_numbers (number_at m (set n i number) cs)) start end number
  set-written i number start end there whole here range within first last =
      let never : (j : ℕ) → j ≡ i → is_mixed m j ≡ true → ⊥ = λ j e own. false≢true (sym whole ∙ ap (is_mixed m) (sym e) ∙ own) in
      let low : start ≡ 16 * i = elim first [ inl z ↦ omega (arith, z, here) | inr own ↦ absurd (never (start / 16) here own) ] in
      let high : end ≡ 16 * i + 16 = elim last [
        | inl z ↦ omega (arith, z, low, range, within)
        | inr own ↦ elim (cases_eq (end / 16) i) [
          | inl e ↦ absurd (never (end / 16) e own)
          | inr ne ↦ omega (arith, ne, low, range, within)
        ]
      ] in
      written (number_at m n cs) (number_at m (set n i number) cs) start end number (omega (arith, there, high))
      (λ c from to. at-one m (set n i number) cs i c (omega (arith, from, to, low, high)) whole
      ∙ get_or-set_same n i number 0 (omega (arith, there, sound.same)))
      (λ c out. others m m n (set n i number) cs cs i (λ _ _. refl) (λ j nj. get_or-set_other n i j number 0 nj) (λ _ _ _. refl) c
      (λ e. absurd (elim out [ inl l ↦ omega (arith, l, e, low) | inr h ↦ omega (arith, h, e, high) ])))

-- A block, number by number.
length-window : (k at : ℕ) (xs : List ℕ) → at + k ≤ length xs → length (take k (drop at xs)) ≡ k
length-window k at xs h = omega (arith, length-take k (drop at xs), length-drop at xs, h)

window-read : (k at i : ℕ) (xs : List ℕ) (d : ℕ) → i < k → get_or (take k (drop at xs)) i d ≡ get_or xs (at + i) d
window-read k at i xs d l = get_or-take k (drop at xs) i d l ∙ get_or-drop at xs i d

block-is : (k n : ℕ) (xs ys : List ℕ) → k * n + k ≤ length xs → length ys ≡ k → ((i : ℕ) → i < k → get_or ys i 0 ≡ get_or xs (k * n + i) 0)
    → ys ≡ block k xs n
block-is k n xs ys inside len items = same_lists ys (block k xs n) (len ∙ sym (length-window k (k * n) xs inside)) (λ i d l.
    let below : i < k = omega (arith, l, len) in
    get_or_default ys i d 0 l ∙ items i below ∙ get_or_default xs (k * n + i) 0 d (omega (arith, inside, below))
    ∙ sym (window-read k (k * n) i xs d below))

-- The contents of block number i.
pub holds : (m : List Bool) (n : List ℕ) (cs : List (List ℕ)) (i : ℕ) (ys : List ℕ) → i < 0x11000 → length ys ≡ 16
    → ((c : ℕ) → c / 16 ≡ i → number_at m n cs c ≡ get_or ys (c % 16) 0) → ys ≡ block 16 (all_numbers (number_at m n cs)) i
holds m n cs i ys there len at =
    let f : ℕ → ℕ = number_at m n cs in
    block-is 16 i (all_numbers f) ys (omega (arith, there, numbers-length f)) len (λ k l.
    let r : (16 * i + k) % 16 ≡ k = omega (arith, l) in
    ap (λ x. get_or ys x 0) (sym r) ∙ sym (at (16 * i + k) (omega (arith, l)))
    ∙ sym (numbers-at f (16 * i + k) 0 (omega (arith, there, l))))

pub holds-one : (m : List Bool) (n : List ℕ) (cs : List (List ℕ)) (i : ℕ) → i < 0x11000 → is_mixed m i ≡ false
    → replicate 16 (get_or n i 0) ≡ block 16 (all_numbers (number_at m n cs)) i
holds-one m n cs i there h = let x : ℕ = get_or n i 0 in holds m n cs i (replicate 16 x) there (length-replicate 16 x)
    (λ c e. at-one m n cs i c e h ∙ sym (get_or-replicate 16 (c % 16) x 0 (omega arith)))

pub holds-cells : (m : List Bool) (n : List ℕ) (cs : List (List ℕ)) (i : ℕ) → i < 0x11000 → AreBlocks m n cs → is_mixed m i ≡ true
    → get_or cs (get_or n i 0) [] ≡ block 16 (all_numbers (number_at m n cs)) i
holds-cells m n cs i there sound h = let x : ℕ = get_or n i 0 in
    holds m n cs i (get_or cs x []) there (sound.whole x (sound.inside i h)) (λ c e. at-mixed m n cs i c e h)

-- The number of a code point, from the contents of its block.
pub number-in : (xs ys : List ℕ) (n c : ℕ) → ys ≡ block 16 xs n → c / 16 ≡ n → get_or xs c 0 ≡ get_or ys (c % 16) 0
number-in xs ys n c held e = let at : c ≡ 16 * n + c % 16 = omega (arith, e) in
    ap (λ x. get_or xs x 0) at ∙ sym (window-read 16 (16 * n) (c % 16) xs 0 (omega arith)) ∙ ap (λ zs. get_or zs (c % 16) 0) (sym held)

pub number-in-one : (xs : List ℕ) (n c v : ℕ) → replicate 16 v ≡ block 16 xs n → c / 16 ≡ n → get_or xs c 0 ≡ v
number-in-one xs n c v held e = number-in xs (replicate 16 v) n c held e ∙ get_or-replicate 16 (c % 16) v 0 (omega arith)

-- A block, as whether it is mixed and its number or position, is not mixed and has this number.
abbrev pub IsOf : ℕ → Bool × ℕ → Type 0
IsOf v p = (p.0 ≡ false) × (p.1 ≡ v)

-- `end` is the first block that need not be so, or None. Then all before it are, and otherwise all.
pub run-before : (m : List Bool) (n : List ℕ) (v most : ℕ) (end : Option ℕ) → length m ≡ most → length n ≡ most
    → MatchOption end (AllWithin (IsOf v) (zip m n) 0 (length (zip m n)))
    (λ i. (i < length (zip m n)) × HoldsAt (λ _. ⊤) (zip m n) i × AllWithin (IsOf v) (zip m n) 0 i)
    → (unwrap_or end most ≤ most)
    × ((i : ℕ) → i < unwrap_or end most → (is_mixed m i ≡ false) × (get_or n i 0 ≡ v))
run-before m n v most None em en all = (
  omega arith,
  λ i l. subst (IsOf v) (get_or-zip m n i (false, 0) (omega (arith, l, em)) (omega (arith, l, en)))
      (all i (false, 0) (omega arith) (omega (arith, l, em, en, length-zip m n))),
)
run-before m n v most (Some end) em en found = (
  omega (arith, found.0, em, en, length-zip m n),
  λ i l. subst (IsOf v) (get_or-zip m n i (false, 0) (omega (arith, l, found.0, em, length-zip m n)) (omega (arith, l, found.0, en, length-zip m n)))
      (found.2 i (false, 0) (omega arith) l),
)

-- The number of a code point in the first `size` blocks of a part, none of which is mixed and all of which have this number.
pub number-in-part : (m : List Bool) (n : List ℕ) (cs : List (List ℕ)) (first most size c v : ℕ) → size ≤ most → first + size ≤ 0x11000
    → ((i : ℕ) → i < size
    → (is_mixed (take most (drop first m)) i ≡ false) × (get_or (take most (drop first n)) i 0 ≡ v))
    → 16 * first ≤ c → c < 16 * (first + size) → get_or (all_numbers (number_at m n cs)) c 0 ≡ v
number-in-part m n cs first most size c v within there given low high =
    let j : ℕ = c / 16 in let i : ℕ = j - first in
    let at : first + i ≡ j = omega (arith, low) in let in_part : i < most = omega (arith, low, high, within) in
    let h = given i (omega (arith, low, high)) in
    let whole : is_mixed m j ≡ false = ap (λ x. is_mixed m x) (sym at) ∙ sym (get_or-drop first m i false)
    ∙ sym (get_or-take most (drop first m) i false in_part) ∙ h.0 in
    number-in-one (all_numbers (number_at m n cs)) j c (get_or n j 0) (holds-one m n cs j (omega (arith, high, there)) whole) refl
    ∙ ap (λ x. get_or n x 0) (sym at) ∙ sym (get_or-drop first n i 0) ∙ sym (get_or-take most (drop first n) i 0 in_part) ∙ h.1

-- The numbers of some blocks, and of one more.
pub window-on : (xs : List ℕ) (first i : ℕ) → first ≤ i
    → window (16 * (i + 1 - first)) (16 * first) xs ≡ window (16 * (i - first)) (16 * first) xs ++ block 16 xs i
window-on xs first i from = let ys : List ℕ = drop (16 * first) xs in
    ap (λ k. take k ys) (omega (arith, from)) ∙ take-add (16 * (i - first)) 16 ys ∙ ap (λ zs. take (16 * (i - first)) ys ++ take 16 zs)
    (drop-drop (16 * (i - first)) (16 * first) xs ∙ ap (λ at. drop at xs) (omega (arith, from)))

-- One block of one number, and two.
pub block-of-one : (k n v : ℕ) → k * n + k ≤ 0x110000 → block k (replicate code_points v) n ≡ replicate k v
block-of-one k n v inside = ap (λ xs. take k xs) (drop-replicate (k * n) code_points v)
    ∙ take-replicate k (code_points - k * n) v (omega (arith, inside, code_points-is))

pub blocks-of-one : (k n m v : ℕ) (xs : List ℕ) → k * n + k ≤ length xs → k * m + k ≤ length xs
    → ((c : ℕ) → k * n ≤ c → c < k * n + k → get_or xs c 0 ≡ v) → ((c : ℕ) → k * m ≤ c → c < k * m + k → get_or xs c 0 ≡ v)
    → block k xs n ≡ block k xs m
blocks-of-one k n m v xs inside inside' one one' =
    block-is k m xs (block k xs n) inside' (length-window k (k * n) xs inside) (λ i l.
    window-read k (k * n) i xs 0 l ∙ one (k * n + i) (omega arith) (omega (arith, l))
    ∙ sym (one' (k * m + i) (omega arith) (omega (arith, l))))

-- 16 times a number of blocks.
pub sixteen : (k n : ℕ) → k % 16 ≡ 0 → 16 * (k / 16 * n) ≡ k * n
sixteen k n h = sym (mul_assoc 16 (k / 16) n) ∙ ap (λ x. x * n) (omega (arith, h))

-- Block number n + j of k code points is in a run of blocks of 16 that starts with block number n.
pub block-in-run : (k n j run : ℕ) → 0 < k → k % 16 ≡ 0 → j < run / (k / 16)
    → (16 * (k / 16 * n) ≤ k * (n + j)) × (k * (n + j) + k ≤ 16 * (k / 16 * n + run))
block-in-run k n j run some whole lt =
    let count : ℕ = k / 16 in
    let positive : 0 < count = omega (arith, some, whole) in
    let fits : count * (run / count) ≤ run = omega (arith, positive) in
    let next : j + 1 ≤ run / count = omega (arith, lt) in
    let within : count * (j + 1) ≤ count * (run / count) = mul-le-mul_left count next in
    let step = mul-add count j 1 in
    let here = sixteen k n whole in
    let there = sixteen k j whole in
    let parts = mul-add k n j in
    (omega (arith, here, parts), omega (arith, here, there, parts, step, fits, within, whole))
