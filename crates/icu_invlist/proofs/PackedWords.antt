-- Several boundaries in packed bytes, read at once.
use Rattle.std.proofs.Common.{◌≡◌, ℕ, zero, suc, ◌+◌, ◌-◌, ◌*◌, ◌/◌, ◌%◌, ◌^◌, ◌<◌, ◌≤◌, List, [], ◌∷◌, ◌++◌, length, take, drop, get_or, Some, refl, sym, arith, ◌∙◌, ap, length-drop, take-append-drop}
use Rattle.std.specs.Prelude.{IsTrue, ◌↔◌, nat_lt}
use Rattle.std.specs.Int.{w32, from_le_bytes}
use Rattle.std.specs.List.{All, flat_map}
use Rattle.std.proofs.lemmas.Bool.{lt-ltb, ltb-true}
use Rattle.std.proofs.lemmas.List.{drop-drop, drop-take, get_or-drop, length-take-le, take-take}
use Rattle.icu_zerovec.specs.Cells.{IsPacked, cell, values_from, values_of}
use Rattle.icu_zerovec.specs.CodePoints.{code_point_limit}
use Rattle.icu_zerovec.specs.PackedBytes.{AreBytes, low_bytes, number_of}
use Rattle.icu_zerovec.proofs.CallerLemmas.{length-values_of}
use Rattle.icu_invlist.specs.InversionList.{IsValid}
use Rattle.icu_invlist.specs.Inside.PackedSets.{sum_of_sizes, word_before}
use Rattle.icu_invlist.specs.Inside.Places.{Run, ends_below}
use Rattle.icu_invlist.specs.Inside.StillGiven.{ends_in, ArePackedEnds}
use Rattle.icu_invlist.proofs.MemberLemmas.{Walked, rest_valid, walked_to}
use Rattle.icu_invlist.proofs.PackedEnds.{end_in_cell}
use Rattle.icu_invlist.proofs.RunLemmas.{ends_below-front}
use Rattle.icu_invlist.proofs.Searches.{place_of_end}
use Rattle.icu_invlist.proofs.ValidLists.{run_from_valid, valid_from_run}

-- ---- a word of four bytes has three of a boundary
pub word_low : (xs : List ℕ) → AreBytes xs → from_le_bytes w32 (take 4 xs) % 16777216 ≡ number_of 3 xs
word_low [] h = refl
word_low (x ∷ []) h = let a : x < 256 = h 0 in omega arith
word_low (x ∷ y ∷ []) h = let a : x < 256 = h 0 in let b : y < 256 = h 1 in omega arith
word_low (x ∷ y ∷ z ∷ []) h = let a : x < 256 = h 0 in let b : y < 256 = h 1 in let c : z < 256 = h 2 in omega arith
word_low (x ∷ y ∷ z ∷ u ∷ xs) h = let a : x < 256 = h 0 in let b : y < 256 = h 1 in let c : z < 256 = h 2 in omega arith

pub word_high : (xs : List ℕ) → AreBytes xs → from_le_bytes w32 (take 4 xs) / 256 ≡ number_of 3 (drop 1 xs)
word_high [] h = refl
word_high (x ∷ []) h = let a : x < 256 = h 0 in omega arith
word_high (x ∷ y ∷ []) h = let a : x < 256 = h 0 in let b : y < 256 = h 1 in omega arith
word_high (x ∷ y ∷ z ∷ []) h = let a : x < 256 = h 0 in let b : y < 256 = h 1 in let c : z < 256 = h 2 in omega arith
word_high (x ∷ y ∷ z ∷ u ∷ xs) h = let a : x < 256 = h 0 in let b : y < 256 = h 1 in let c : z < 256 = h 2 in omega arith

-- A suffix of bytes consists of bytes.
pub AreBytes-drop : (n : ℕ) (b : List ℕ) → AreBytes b → AreBytes (drop n b)
AreBytes-drop zero b h = h
AreBytes-drop (suc n) [] h = h
AreBytes-drop (suc n) (x ∷ b) h = AreBytes-drop n b (λ j. h (suc j))

pub four_same : {a b c d p q r s : ℕ} → a ≡ p → b ≡ q → c ≡ r → d ≡ s → a ∷ b ∷ c ∷ d ∷ [] ≡ p ∷ q ∷ r ∷ s ∷ []
four_same e f g h = rw (e, f, g, h) refl

-- A number of three bytes does not depend on the bytes after them.
number-take : (xs : List ℕ) → number_of 3 (take 3 xs) ≡ number_of 3 xs
number-take [] = refl
number-take (x ∷ []) = refl
number-take (x ∷ y ∷ []) = refl
number-take (x ∷ y ∷ z ∷ xs) = refl

number-within : (k m : ℕ) (b : List ℕ) → 3 ≤ m → number_of 3 (drop k (take (k + m) b)) ≡ number_of 3 (drop k b)
number-within k m b h = sym (number-take (drop k (take (k + m) b))) ∙ ap (λ c. number_of 3 (take 3 c)) (drop-take k m b)
    ∙ ap (number_of 3) (take-take 3 m (drop k b) h) ∙ number-take (drop k b)

-- The last word of the first n boundaries has the boundary with index n - 1 in its three high bytes.
pub word_is_end : (b : List ℕ) (n i : ℕ) → AreBytes b → n ≡ suc (suc i) → word_before b n / 256 ≡ number_of 3 (cell 3 b (suc i))
word_is_end b n i h e = word_high (drop (3 * n - 4) b) (AreBytes-drop (3 * n - 4) b h)
    ∙ ap (number_of 3) (drop-drop 1 (3 * n - 4) b)
    ∙ sym (number-take (drop (3 * n - 4 + 1) b))
    ∙ ap (λ k. number_of 3 (take 3 (drop k b))) (omega arith)

-- ---- the boundaries in bytes, one or more at a time
pub no_more_ends : (b : List ℕ) → length b < 3 → ends_in b ≡ []
unfolding values_of
no_more_ends b e = let k : length b / 3 ≡ 0 = omega arith in ap (values_from (λ c. Some (number_of 3 c)) 3 b) k

next_end : (b : List ℕ) → 3 ≤ length b → ends_in b ≡ number_of 3 b ∷ ends_in (drop 3 b)
unfolding values_of
next_end b h =
    let k : length b / 3 ≡ suc (length (drop 3 b) / 3) = omega (arith, length-drop 3 b) in
    ap (values_from (λ c. Some (number_of 3 c)) 3 b) k ∙ ap (λ n. n ∷ ends_in (drop 3 b)) (number-take b)

next_two : (b : List ℕ) → 6 ≤ length b → ends_in b ≡ number_of 3 b ∷ number_of 3 (drop 3 b) ∷ ends_in (drop 6 b)
next_two b h = next_end b (omega arith)
    ∙ ap (λ xs. number_of 3 b ∷ xs) (next_end (drop 3 b) (omega (arith, length-drop 3 b)))
    ∙ ap (λ c. number_of 3 b ∷ number_of 3 (drop 3 b) ∷ ends_in c) (drop-drop 3 3 b)

next_four : (b : List ℕ) → 12 ≤ length b
    → ends_in b ≡ number_of 3 b ∷ number_of 3 (drop 3 b) ∷ number_of 3 (drop 6 b) ∷ number_of 3 (drop 9 b) ∷ ends_in (drop 12 b)
next_four b h =
    let second = next_two (drop 6 b) (omega (arith, length-drop 6 b)) in
    let third : drop 3 (drop 6 b) ≡ drop 9 b = drop-drop 3 6 b in
    let last : drop 6 (drop 6 b) ≡ drop 12 b = drop-drop 6 6 b in
    next_two b (omega arith) ∙ ap (λ xs. number_of 3 b ∷ number_of 3 (drop 3 b) ∷ xs) (rw (third, last) at second)

-- The first four boundaries in bytes.
abbrev pub four_numbers : List ℕ → List ℕ
four_numbers b = number_of 3 b ∷ number_of 3 (drop 3 b) ∷ number_of 3 (drop 6 b) ∷ number_of 3 (drop 9 b) ∷ []

pub all_eight : (b : List ℕ) → length b ≡ 24 → ends_in b ≡ four_numbers b ++ four_numbers (drop 12 b)
all_eight b h =
    let none : ends_in (drop 12 (drop 12 b)) ≡ [] = no_more_ends _ (omega (arith, length-drop 12 (drop 12 b), length-drop 12 b)) in
    next_four b (omega arith)
    ∙ ap (λ xs. four_numbers b ++ xs) (next_four (drop 12 b) (omega (arith, length-drop 12 b)) ∙ ap (λ xs. four_numbers (drop 12 b) ++ xs) none)

-- The same with names for the parts of the bytes.
pub one_end : (b three next : List ℕ) → 3 ≤ length b → three ≡ take 3 b → next ≡ drop 3 b → ends_in b ≡ number_of 3 three ∷ ends_in next
one_end b three next h e f = rw (e, f) (next_end b h ∙ ap (λ n. n ∷ ends_in (drop 3 b)) (sym (number-take b)))

pub two_ends : (b two : List ℕ) → length b ≡ 6 → two ≡ take 6 b → ends_in b ≡ number_of 3 two ∷ number_of 3 (drop 3 two) ∷ []
two_ends b two h e =
    let n : ends_in (drop 6 b) ≡ [] = no_more_ends (drop 6 b) (omega (arith, length-drop 6 b)) in
    rw (e, number-within 0 6 b (omega arith), number-within 3 3 b (omega arith), ← n) (next_two b (omega arith))

pub four_ends : (b four next : List ℕ) → 12 ≤ length b → four ≡ take 12 b → next ≡ drop 12 b
    → ends_in b ≡ number_of 3 four ∷ number_of 3 (drop 3 four) ∷ number_of 3 (drop 6 four) ∷ number_of 3 (drop 9 four) ∷ ends_in next
four_ends b four next h e f =
    rw (e, f, number-within 0 12 b (omega arith), number-within 3 9 b (omega arith), number-within 6 6 b (omega arith), number-within 9 3 b (omega arith))
    (next_four b h)

-- ---- the boundaries from an index on, or up to one
ends_from_take : (i n : ℕ) (b : List ℕ) → i ≤ n
    → values_from (λ c. Some (number_of 3 c)) 3 (take (i * 3) b) i ≡ take i (values_from (λ c. Some (number_of 3 c)) 3 b n)
ends_from_take zero n b h = refl
ends_from_take (suc i) zero b h = absurd (omega arith)
ends_from_take (suc i) (suc n) b h =
    let e : suc i * 3 ≡ 3 + i * 3 = omega arith in
    ap (λ k. values_from (λ c. Some (number_of 3 c)) 3 (take k b) (suc i)) e
    ∙ ap (λ k. number_of 3 k ∷ values_from (λ c. Some (number_of 3 c)) 3 (drop 3 (take (3 + i * 3) b)) i)
    (take-take 3 (3 + i * 3) b (omega arith))
    ∙ ap (λ k. number_of 3 (take 3 b) ∷ values_from (λ c. Some (number_of 3 c)) 3 k i) (drop-take 3 (i * 3) b)
    ∙ ap (λ xs. number_of 3 (take 3 b) ∷ xs) (ends_from_take i n (drop 3 b) (omega arith))

pub ends_in_take : (i m : ℕ) (b : List ℕ) → m ≡ i * 3 → m ≤ length b → ends_in (take m b) ≡ take i (ends_in b)
unfolding values_of
ends_in_take i m b e h =
    let k : length (take m b) / 3 ≡ i = omega (arith, length-take-le m b h) in
    ap (values_from (λ c. Some (number_of 3 c)) 3 (take m b)) k
    ∙ ap (λ j. values_from (λ c. Some (number_of 3 c)) 3 (take j b) i) e
    ∙ ends_from_take i (length b / 3) b (omega arith)

ends_from_drop : (i n : ℕ) (b : List ℕ)
    → values_from (λ c. Some (number_of 3 c)) 3 (drop (i * 3) b) (n - i) ≡ drop i (values_from (λ c. Some (number_of 3 c)) 3 b n)
ends_from_drop zero n b = let e : n - 0 ≡ n = omega arith in ap (values_from (λ c. Some (number_of 3 c)) 3 b) e
ends_from_drop (suc i) zero b = let e : 0 - suc i ≡ 0 = omega arith in ap (values_from (λ c. Some (number_of 3 c)) 3 (drop (suc i * 3) b)) e
ends_from_drop (suc i) (suc n) b =
    let e : suc i * 3 ≡ 3 + i * 3 = omega arith in
    let k : suc n - suc i ≡ n - i = omega arith in
    ap (values_from (λ c. Some (number_of 3 c)) 3 (drop (suc i * 3) b)) k
    ∙ ap (λ j. values_from (λ c. Some (number_of 3 c)) 3 (drop j b) (n - i)) e
    ∙ ap (λ c. values_from (λ c. Some (number_of 3 c)) 3 c (n - i)) (sym (drop-drop (i * 3) 3 b))
    ∙ ends_from_drop i n (drop 3 b)

pub ends_in_drop : (i m : ℕ) (b : List ℕ) → m ≡ i * 3 → m ≤ length b → ends_in (drop m b) ≡ drop i (ends_in b)
unfolding values_of
ends_in_drop i m b e h =
    let k : length (drop m b) / 3 ≡ length b / 3 - i = omega (arith, length-drop m b) in
    ap (values_from (λ c. Some (number_of 3 c)) 3 (drop m b)) k
    ∙ ap (λ j. values_from (λ c. Some (number_of 3 c)) 3 (drop j b) (length b / 3 - i)) e
    ∙ ends_from_drop i (length b / 3) b

pub eight_ends : (b eight next : List ℕ) → 24 ≤ length b → eight ≡ take 24 b → next ≡ drop 24 b → ends_in b ≡ ends_in eight ++ ends_in next
eight_ends b eight next h e f = rw (e, f, ends_in_take 8 24 b refl h, ends_in_drop 8 24 b refl h) (sym (take-append-drop 8 (ends_in b)))

-- A suffix of small numbers has small numbers.
pub small-drop : (n : ℕ) (xs ys : List ℕ) → ys ≡ drop n xs → All (λ x. x < 2 ^ 24) xs → All (λ x. x < 2 ^ 24) ys
small-drop n xs ys e h = rw e (λ k d l. rw (get_or-drop n xs k d) (h (n + k) d (omega (arith, l, length-drop n xs))))

-- Packed boundaries take three bytes each.
pub packed-length : (xs : List ℕ) → length (flat_map (low_bytes 3) xs) ≡ length xs * 3
packed-length [] = refl
packed-length (x ∷ xs) = let i = packed-length xs in omega arith

empty_list : (xs : List ℕ) → length xs ≡ 0 → xs ≡ []
empty_list [] h = refl
empty_list (x ∷ xs) h = absurd (omega arith)

four_first : (xs : List ℕ) → 4 ≤ length xs → xs ≡ get_or xs 0 0 ∷ get_or xs 1 0 ∷ get_or xs 2 0 ∷ get_or xs 3 0 ∷ drop 4 xs
four_first [] h = absurd (omega arith)
four_first (a ∷ []) h = absurd (omega arith)
four_first (a ∷ b ∷ []) h = absurd (omega arith)
four_first (a ∷ b ∷ c ∷ []) h = absurd (omega arith)
four_first (a ∷ b ∷ c ∷ d ∷ xs) h = refl

-- A list of eight numbers is four and four.
pub four_and_four : (xs : List ℕ) → length xs ≡ 8
    → xs ≡ (get_or xs 0 0 ∷ get_or xs 1 0 ∷ get_or xs 2 0 ∷ get_or xs 3 0 ∷ [])
    ++ (get_or xs 4 0 ∷ get_or xs 5 0 ∷ get_or xs 6 0 ∷ get_or xs 7 0 ∷ [])
four_and_four xs h =
    let first = four_first xs (omega arith) in
    let second = four_first (drop 4 xs) (omega (arith, length-drop 4 xs)) in
    let none : drop 4 (drop 4 xs) ≡ [] = empty_list (drop 4 (drop 4 xs)) (omega (arith, length-drop 4 (drop 4 xs), length-drop 4 xs)) in
    let named : drop 4 xs ≡ get_or xs 4 0 ∷ get_or xs 5 0 ∷ get_or xs 6 0 ∷ get_or xs 7 0 ∷ [] =
    rw (none, get_or-drop 4 xs 0 0, get_or-drop 4 xs 1 0, get_or-drop 4 xs 2 0, get_or-drop 4 xs 3 0) at second in
    first ∙ ap (λ ys. get_or xs 0 0 ∷ get_or xs 1 0 ∷ get_or xs 2 0 ∷ get_or xs 3 0 ∷ ys) named

-- ---- the packed boundaries of a set
pub bytes-length : (b xs : List ℕ) → IsPacked (λ c. Some (number_of 3 c)) 3 b → xs ≡ values_of (λ c. Some (number_of 3 c)) 3 b
    → length b ≡ length xs * 3
bytes-length b xs p e =
    let n : length xs ≡ length b / 3 = ap length e ∙ length-values_of (λ c. Some (number_of 3 c)) 3 b p in
    let w = p.whole in omega arith

-- The comparison of a word with a limit compares the boundary in it.
pub word_up_to : (b xs : List ℕ) (n c word limit : ℕ) → IsPacked (λ c. Some (number_of 3 c)) 3 b
    → xs ≡ values_of (λ c. Some (number_of 3 c)) 3 b → IsValid xs → 2 ≤ n → n ≤ length xs → word ≡ word_before b n
    → limit ≡ (c + 1) * 256 → IsTrue (nat_lt word limit) ↔ (n - 1 < ends_below xs (suc c))
word_up_to b xs n c word limit p e v two l w m =
    let i : ℕ = n - 2 in
    let k : n ≡ suc (suc i) = omega arith in
    let x = (end_in_cell b xs (suc i) p e (omega arith)).1 in
    let y = word_is_end b n i p.small k in
    let q = place_of_end (suc code_point_limit) xs (suc i) (suc c) (run_from_valid xs v) (omega arith) in (
      λ t. (let a = ltb-true _ _ t in let z = q.0 (omega arith) in omega arith),
      λ t. lt-ltb _ _ (let a = q.1 (omega arith) in omega arith),
    )

-- The first boundaries of a set, if they are an even number, are those of a set.
run-take : (lo hi i : ℕ) (xs : List ℕ) → Run lo hi xs → Run lo hi (take i xs)
run-take lo hi zero xs r = tt
run-take lo hi (suc i) [] r = tt
run-take lo hi (suc i) (x ∷ xs) r = (r.0, r.1, run-take (suc x) hi i xs r.2)

pub valid-take : (i : ℕ) (xs : List ℕ) → IsValid xs → i % 2 ≡ 0 → i ≤ length xs → IsValid (take i xs)
valid-take i xs v e h = valid_from_run (take i xs) (run-take 0 (suc code_point_limit) i xs (run_from_valid xs v))
    (let l = length-take-le i xs h in omega arith)

module _ (b xs : List ℕ) (i m : ℕ) (p : IsPacked (λ c. Some (number_of 3 c)) 3 b) (s : xs ≡ values_of (λ c. Some (number_of 3 c)) 3 b)
    (v : IsValid xs) (e : i % 2 ≡ 0) (h : i ≤ length xs) (k : m ≡ i * 3) where
  first_ends : ends_in (take m b) ≡ take i xs
  first_ends = ends_in_take i m b k (let n = bytes-length b xs p s in omega arith) ∙ ap (take i) (sym s)

  pub first_packed : ArePackedEnds (take m b)
  first_packed = record {
    whole = (let n = bytes-length b xs p s in let l = length-take-le m b (omega arith) in omega arith);
    valid = rw first_ends (valid-take i xs v e h);
  }

  pub first_walked : (c before : ℕ) → i < ends_below xs (suc c) → before ≡ sum_of_sizes (ends_in (take m b)) → Walked xs i c before
  first_walked c before f a = rw (a ∙ ap sum_of_sizes first_ends) (walked_to xs i c v e h
      (λ j q. let z = ends_below-front 0 (suc code_point_limit) (suc c) xs (run_from_valid xs v) j (omega arith) in omega arith))

-- Ranges do not end before they start, and what follows them is packed too.
pub two_rise : (b two : List ℕ) → ArePackedEnds b → length b ≡ 6 → two ≡ take 6 b → number_of 3 two ≤ number_of 3 (drop 3 two)
two_rise b two v h e =
    let r : IsValid (number_of 3 two ∷ number_of 3 (drop 3 two) ∷ []) = rw (two_ends b two h e) at v.valid in
    let s = run_from_valid _ r in omega (arith, s.2.0)

module _ (b four next : List ℕ) (v : ArePackedEnds b) (h : 12 ≤ length b) (e : four ≡ take 12 b) (f : next ≡ drop 12 b) where
  four_valid : IsValid (number_of 3 four ∷ number_of 3 (drop 3 four) ∷ number_of 3 (drop 6 four) ∷ number_of 3 (drop 9 four) ∷ ends_in next)
  four_valid = rw (four_ends b four next h e f) at v.valid

  pub first_rises : number_of 3 four ≤ number_of 3 (drop 3 four)
  first_rises = let s = run_from_valid _ four_valid in omega (arith, s.2.0)

  pub second_rises : number_of 3 (drop 6 four) ≤ number_of 3 (drop 9 four)
  second_rises = let s = run_from_valid _ four_valid in omega (arith, s.2.2.2.0)

  pub next_packed : ArePackedEnds next
  next_packed = record {
    whole = (let w = v.whole in let l = ap length f in omega (arith, length-drop 12 b));
    valid = rest_valid _ _ _ (rest_valid _ _ _ four_valid);
  }
