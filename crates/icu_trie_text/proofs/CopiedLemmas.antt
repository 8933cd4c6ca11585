-- Values of the first parts of bytes, in a buffer that is filled from its start.
use Rattle.std.proofs.Common.{◌≡◌, ◌∙◌, sym, ap, refl, ℕ, zero, suc, ◌+◌, ◌-◌, ◌<◌, ◌≤◌, List, [], ◌∷◌, ◌++◌, length, get_or, slice_get, take, drop, Option, Some, None, arith, inl, inr}
use Rattle.std.specs.Prelude.{◌⊎◌, IfSome}
use Rattle.std.specs.Option.{MatchOption}
use Rattle.std.proofs.Math.ListN.{set}
use Rattle.std.proofs.lemmas.Slice.{drop-put_mid, take-put_mid}
use borrow.Rule.Slice.PartMut.{put_mid, same_len_mid}
use Rattle.std.proofs.lemmas.List.{append-nil, append_assoc, drop_all, drop-drop, get_or-drop, length-drop, length-set, length-take-le, take_more_set, take_rest}
use Rattle.icu_trie_text.specs.CopiedParts.{AreCopiedParts, HasCopiedParts, HasFirstValue, HaveFirstValues}
use Rattle.icu_utf.specs.Utf8.{IsFirstPart}
use Rattle.icu_utf.proofs.CallerLemmas.{part_of_ascii, part_size}

-- ---- lists with the same cells
module _ {T : Type 0} where
  drop_same : (xs ys : List T) (n : ℕ) → length xs ≡ length ys → ((k : ℕ) → n ≤ k → slice_get xs k ≡ slice_get ys k) → drop n xs ≡ drop n ys
  drop_same [] [] n e h = refl
  drop_same [] (y ∷ ys) n e h = absurd (omega (arith, e))
  drop_same (x ∷ xs) [] n e h = absurd (omega (arith, e))
  drop_same (x ∷ xs) (y ∷ ys) zero e h =
      let first : Some x ≡ Some y = h 0 (omega arith) in
      let others = drop_same xs ys 0 (omega (arith, e)) (λ k l. h (suc k) (omega arith)) in
      cc
  drop_same (x ∷ xs) (y ∷ ys) (suc n) e h = drop_same xs ys n (omega (arith, e)) (λ k l. h (suc k) (omega arith))

  set_other : (xs : List T) (n k : ℕ) (x : T) → n < k → slice_get (set xs n x) k ≡ slice_get xs k
  set_other [] n k x l = refl
  set_other (y ∷ ys) zero zero x l = absurd (omega arith)
  set_other (y ∷ ys) zero (suc k) x l = refl
  set_other (y ∷ ys) (suc n) zero x l = absurd (omega arith)
  set_other (y ∷ ys) (suc n) (suc k) x l = set_other ys n k x (omega arith)

  get_drop : (xs : List T) (n k : ℕ) → slice_get (drop n xs) k ≡ slice_get xs (n + k)
  get_drop xs zero k = ap (λ j. slice_get xs j) (omega arith)
  get_drop [] (suc n) k = refl
  get_drop (x ∷ xs) (suc n) k =
      let same : suc (n + k) ≡ suc n + k = omega arith in
      get_drop xs n k ∙ ap (λ j. slice_get (x ∷ xs) j) same

  get_after : (xs ys : List T) (n k : ℕ) → drop n xs ≡ drop n ys → n ≤ k → slice_get xs k ≡ slice_get ys k
  get_after xs ys n k e l =
      let same : n + (k - n) ≡ k = omega (arith, l) in
      ap (λ j. slice_get xs j) (sym same) ∙ sym (get_drop xs n (k - n)) ∙ ap (λ (zs : List T). slice_get zs (k - n)) e
      ∙ get_drop ys n (k - n) ∙ ap (λ j. slice_get ys j) same

-- ---- parts
module _ {T : Type 0} (value : Option ℕ → Option T) where
  -- One more value, that of the next part.
  pub first_values_more : (bytes : List ℕ) (xs : List T) (size n : ℕ) (x : T) → HaveFirstValues value bytes xs size
      → HasFirstValue value (drop size bytes) x n → HaveFirstValues value bytes (xs ++ x ∷ []) (size + n)
  first_values_more bytes [] size n x h v =
      let own : HasFirstValue value bytes x n = rw h at v in (n, 0, own, refl, omega (arith, h))
  first_values_more bytes (y ∷ ys) size n x h v =
      let m = h.0 in
      let rest = h.1 in
      let both : drop size bytes ≡ drop rest (drop m bytes) =
      ap (λ k. drop k bytes) h.4 ∙ sym (drop-drop rest m bytes ∙ ap (λ k. drop k bytes) (omega arith)) in
      let next : HasFirstValue value (drop rest (drop m bytes)) x n = rw both at v in
      (m, rest + n, h.2, first_values_more (drop m bytes) ys rest n x h.3 next, omega (arith, h.4))

  -- An ASCII byte is a part.
  pub ascii_value : (bytes : List ℕ) (i : ℕ) (x : T) → i < length bytes → get_or bytes i 0 < 128 → value (Some (get_or bytes i 0)) ≡ Some x
      → HasFirstValue value (drop i bytes) x 1
  ascii_value bytes i x there a e =
      let byte : get_or (drop i bytes) 0 0 ≡ get_or bytes i 0 = get_or-drop i bytes 0 0 ∙ ap (λ j. get_or bytes j 0) (omega arith) in
      let some : 0 < length (drop i bytes) = omega (arith, length-drop i bytes, there) in (
        Some (get_or (drop i bytes) 0 0),
        part_of_ascii (drop i bytes) some (rw byte a),
        ap (λ b. value (Some b)) byte ∙ e,
      )

  -- The values of ASCII bytes, each of which is a part, after those of the parts before them.
  ascii_more : (bytes : List ℕ) (xs ys : List T) (size : ℕ) → HaveFirstValues value bytes xs size → size + length ys ≤ length bytes
      → ((k : ℕ) → k < length ys → get_or bytes (size + k) 0 < 128)
      → ((k : ℕ) → k < length ys → value (Some (get_or bytes (size + k) 0)) ≡ slice_get ys k)
      → HaveFirstValues value bytes (xs ++ ys) (size + length ys)
  ascii_more bytes xs [] size h l a e = let none : size + 0 ≡ size = omega arith in rw (append-nil, none) h
  ascii_more bytes xs (y ∷ ys) size h l a e =
      let here : size + 0 ≡ size = omega arith in
      let own = ascii_value bytes size y (omega (arith, l)) (rw here at (a 0 (omega arith))) (rw here at (e 0 (omega arith))) in
      let more = ascii_more bytes (xs ++ y ∷ []) ys (size + 1) (first_values_more bytes xs size 1 y h own) (omega (arith, l))
      (λ k m. let same : size + 1 + k ≡ size + suc k = omega arith in rw same (a (suc k) (omega (arith, m))))
      (λ k m. let same : size + 1 + k ≡ size + suc k = omega arith in rw same (e (suc k) (omega (arith, m)))) in
      let count : size + 1 + length ys ≡ size + suc (length ys) = omega arith in
      rw (append_assoc, count) at more

  -- The value of a character, if it is returned.
  pub value_if : (bytes : List ℕ) (c size limit block : ℕ) (found : Option T) → IsFirstPart bytes (Some c) size
      → MatchOption found (limit ≤ block) (λ x. value (Some c) ≡ Some x) → IfSome found (λ x. HasFirstValue value bytes x size)
  value_if bytes c size limit block None p m = tt
  value_if bytes c size limit block (Some x) p m = (Some c, p, m)

  -- ---- the buffer
  module _ (bytes : List ℕ) (old : List T) where
    pub copied_none : AreCopiedParts value bytes old old 0 0
    copied_none = record {
      taken = omega arith;
      within = omega arith;
      long = refl;
      values = refl;
      rest = λ k l. refl;
    }

    -- One more value is written.
    pub copied_more : (new : List T) (size count n : ℕ) (x : T) → AreCopiedParts value bytes old new size count
        → HasFirstValue value (drop size bytes) x n → count < length new
        → AreCopiedParts value bytes old (set new count x) (size + n) (count + 1)
    copied_more new size count n x r v room =
        let fits = (part_size (drop size bytes) v.0 n v.1).1 in
        let before = r.taken in
        let long = r.long in
        record {
          taken = omega (arith, fits, before, length-drop size bytes);
          within = omega (arith, room, long);
          long = length-set new count x ∙ long;
          values = rw (take_more_set new count x room) (first_values_more bytes (take count new) size n x r.values v);
          rest = λ k l. set_other new count k x (omega (arith, l)) ∙ r.rest k (omega (arith, l));
        }

    -- The values of n ASCII bytes are written.
    pub copied_ascii : (new target : List T) (size count n : ℕ) → AreCopiedParts value bytes old new size count
        → length target ≡ n → count + n ≤ length new → size + n ≤ length bytes
        → ((k : ℕ) → k < n → get_or bytes (size + k) 0 < 128)
        → ((k : ℕ) → k < n → value (Some (get_or bytes (size + k) 0)) ≡ slice_get target k)
        → AreCopiedParts value bytes old (put_mid count n new target) (size + n) (count + n)
    copied_ascii new target size count n r own room there a e =
        let long = r.long in
        let within : count ≤ length new = omega (arith, room) in
        let part : length (take n (drop count new)) ≡ n = length-take-le n (drop count new) (omega (arith, room, length-drop count new)) in
        let more = ascii_more bytes (take count new) target size r.values (omega (arith, own, there))
        (λ k l. a k (omega (arith, own, l))) (λ k l. e k (omega (arith, own, l))) in
        record {
          taken = there;
          within = omega (arith, room, long);
          long = same_len_mid count n new target (own ∙ sym part) ∙ long;
          values = rw (take-put_mid count n new target (count + n) (omega (arith, own)) within) (rw own at more);
          rest = λ k l. get_after (put_mid count n new target) new (count + n) k
              (drop-put_mid count n new target (count + n) (omega arith) within own) l ∙ r.rest k (omega (arith, l));
        }

    -- Copying ends where the bytes or the buffer end.
    pub copied_all : (new : List T) (size count : ℕ) → AreCopiedParts value bytes old new size count
        → (length bytes ≤ size) ⊎ (length new ≤ count)
        → HasCopiedParts value bytes old new (record { values = count; bytes = size })
    copied_all new size count r (inl ended) = let taken = r.taken in record {
      within = r.within;
      values = r.values;
      rest = drop_same new old count r.long r.rest;
      stops = inr (omega (arith, ended, taken));
    }
    copied_all new size count r (inr full) = let long = r.long in let within = r.within in record {
      within = within;
      values = r.values;
      rest = drop_all count new full ∙ sym (drop_all count old (omega (arith, full, long)));
      stops = inl (omega (arith, full, long, within));
    }

-- What is left of bytes, after n more of them.
pub rest_after : (bytes rest : List ℕ) (i n : ℕ) → rest ≡ drop i bytes → take (length rest - n) (drop n rest) ≡ drop (i + n) bytes
rest_after bytes rest i n e =
    take_rest rest n ∙ ap (drop n) e ∙ drop-drop n i bytes ∙ ap (λ k. drop k bytes) (omega arith)

-- Where what is left of bytes starts.
pub left_from : (bytes rest : List ℕ) (i : ℕ) → rest ≡ drop i bytes → i ≤ length bytes
    → (length bytes - length rest ≡ i) × (length rest ≤ length bytes) × (rest ≡ drop (length bytes - length rest) bytes)
left_from bytes rest i e l =
    let long : length rest ≡ length bytes - i = ap length e ∙ length-drop i bytes in
    let same : length bytes - length rest ≡ i = omega (arith, long, l) in
    (same, omega (arith, long), e ∙ ap (λ k. drop k bytes) (sym same))
