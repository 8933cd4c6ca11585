-- The first part of bytes that may be ill-formed UTF-8.
use Rattle.std.proofs.Common.{◌≡◌, ◌∙◌, ℕ, ◌+◌, ◌*◌, ◌<◌, ◌≤◌, List, [], ◌∷◌, ◌++◌, length, get_or, take, drop, ap, sym, arith, inl, inr, Option, Some, None, encode_utf8}
use Rattle.std.specs.Prelude.{◌⊎◌}
use Rattle.std.specs.Char.{IsScalar, len_utf8}
use Rattle.std.specs.Option.{MatchOption, SomeIff}
use Rattle.std.specs.Str.{StartsWithNoChar}
use Rattle.std.proofs.lemmas.Bool.{cases_lt}
use Rattle.std.proofs.lemmas.List.{append-nil, get_or-take, length-append, length-drop, length-take-le}
use Rattle.std.proofs.Math.Seq.{take-append_seam}
use Rattle.std.proofs.lemmas.Str.{len_utf8_bounds, length-encode}
use Rattle.icu_utf.specs.Trails.{IsHighOfFour, IsHighOfThree, IsNoTrail, IsTrail}
use Rattle.icu_utf.specs.Utf8.{BeginsCharacter, IsFirstPart, IsIllFormedPart}
use Rattle.icu_utf.proofs.Utf8Table.{HasBytes, IsSecond, begins_four, begins_three, begins_two, four, longer_than_one, longer_than_three, longer_than_two, one, second_of_four, second_of_three, second_of_two, three, two}

-- ---- characters
--
-- A character and what follows it.
found : (c : ℕ) (own rest : List ℕ) → HasBytes c own → IsScalar c × (len_utf8 c ≡ length own) × (own ++ rest ≡ encode_utf8 c ++ rest)
found c own rest h = (
  h.scalar,
  sym (length-encode c) ∙ ap (λ (bs : List ℕ). length bs) h.encoded,
  ap (λ (bs : List ℕ). bs ++ rest) (sym h.encoded),
)

-- The number of the character at the start of the bytes is made a character.
pub made_character : (bytes : List ℕ) (made : Option ℕ) (c size : ℕ) → SomeIff made (IsScalar c) c → IsFirstPart bytes (Some c) size
    → MatchOption made (StartsWithNoChar bytes) (λ d. IsFirstPart bytes (Some d) size)
made_character bytes None c size m p = absurd (m p.0)
made_character bytes (Some d) c size m p = rw m.1 p

-- A number below 64 that makes the byte at the index a trail byte.
pub trail_at : (bytes : List ℕ) (place bits : ℕ) → place < length bytes → get_or bytes place 0 ≡ 128 + bits → bits < 64
    → IsTrail bytes place bits
trail_at bytes place bits there byte six = record { there = there; byte = byte; six = six }

pub part_of_ascii : (bytes : List ℕ) → 0 < length bytes → get_or bytes 0 0 < 128 → IsFirstPart bytes (Some (get_or bytes 0 0)) 1
part_of_ascii [] n h = absurd (omega arith)
part_of_ascii (x ∷ rest) n h = let f = found x (x ∷ []) rest (one x h) in (f.0, sym f.1, f.2)

pub two_found : (bytes : List ℕ) (a b : ℕ) → get_or bytes 0 0 ≡ 192 + a → 2 ≤ a → a < 32 → IsTrail bytes 1 b
    → IsFirstPart bytes (Some (a * 64 + b)) 2
two_found [] a b e l h t = let n = t.there in absurd (omega arith)
two_found (x ∷ []) a b e l h t = let n = t.there in absurd (omega arith)
two_found (x ∷ y ∷ rest) a b e l h t =
    let second : y ≡ 128 + b = t.byte in
    let f = found (a * 64 + b) ((192 + a) ∷ (128 + b) ∷ []) rest (two a b l h t.six) in
    (f.0, sym f.1, rw (e, second) f.2)

-- The same, from the two bytes.
pub two_bytes_found : (bytes : List ℕ) (a b : ℕ) → get_or bytes 0 0 ≡ 192 + a → 2 ≤ a → a < 32 → 1 < length bytes
    → get_or bytes 1 0 ≡ 128 + b → b < 64 → IsFirstPart bytes (Some (a * 64 + b)) 2
two_bytes_found bytes a b e l h there byte six = two_found bytes a b e l h (record { there = there; byte = byte; six = six })

pub three_found : (bytes : List ℕ) (a b d : ℕ) → get_or bytes 0 0 ≡ 224 + a → a < 16 → IsTrail bytes 1 b → IsHighOfThree (a * 64 + b)
    → IsTrail bytes 2 d → IsFirstPart bytes (Some ((a * 64 + b) * 64 + d)) 3
three_found [] a b d e l s h t = let n = t.there in absurd (omega arith)
three_found (x ∷ []) a b d e l s h t = let n = t.there in absurd (omega arith)
three_found (x ∷ y ∷ []) a b d e l s h t = let n = t.there in absurd (omega arith)
three_found (x ∷ y ∷ z ∷ rest) a b d e l s h t =
    let second : y ≡ 128 + b = s.byte in
    let third : z ≡ 128 + d = t.byte in
    let f = found ((a * 64 + b) * 64 + d) ((224 + a) ∷ (128 + b) ∷ (128 + d) ∷ []) rest (three a b d l s.six t.six h) in
    (f.0, sym f.1, rw (e, second, third) f.2)

pub four_found : (bytes : List ℕ) (a b d f : ℕ) → get_or bytes 0 0 ≡ 240 + a → IsTrail bytes 1 b → IsHighOfFour (a * 64 + b)
    → IsTrail bytes 2 d → IsTrail bytes 3 f → IsFirstPart bytes (Some ((a * 64 + b) * 4096 + d * 64 + f)) 4
four_found [] a b d f e s h t u = let n = u.there in absurd (omega arith)
four_found (x ∷ []) a b d f e s h t u = let n = u.there in absurd (omega arith)
four_found (x ∷ y ∷ []) a b d f e s h t u = let n = u.there in absurd (omega arith)
four_found (x ∷ y ∷ z ∷ []) a b d f e s h t u = let n = u.there in absurd (omega arith)
four_found (x ∷ y ∷ z ∷ w ∷ rest) a b d f e s h t u =
    let second : y ≡ 128 + b = s.byte in
    let third : z ≡ 128 + d = t.byte in
    let fourth : w ≡ 128 + f = u.byte in
    let r = found ((a * 64 + b) * 4096 + d * 64 + f)
    ((240 + a) ∷ (128 + b) ∷ (128 + d) ∷ (128 + f) ∷ []) rest (four a b d f s.six t.six u.six h) in
    (r.0, sym r.1, rw (e, second, third, fourth) r.2)

-- ---- ill-formed parts
no_trail : (x : ℕ) → (x < 128) ⊎ (192 ≤ x) → (128 ≤ x) × (x < 192) → ⊥
no_trail x (inl low) t = omega (arith, low, t.0)
no_trail x (inr high) t = omega (arith, high, t.1)

module _ (bytes : List ℕ) where
  -- If no longer prefix starts a character, the bytes do not start with a character that is longer
  -- than the part.
  none_begins : (size : ℕ) → ((n : ℕ) → size < n → n ≤ length bytes → ¬ (BeginsCharacter (take n bytes)))
      → (c : ℕ) (rest : List ℕ) → IsScalar c → bytes ≡ encode_utf8 c ++ rest → size < length (encode_utf8 c) → ⊥
  none_begins size longest c rest s e n =
      let lengths = ap (λ (bs : List ℕ). length bs) e ∙ length-append (encode_utf8 c) rest in
      let front : take (length (encode_utf8 c)) bytes ≡ encode_utf8 c = rw e (take-append_seam (encode_utf8 c) rest) in
      longest (length (encode_utf8 c)) n (omega arith) (c, s, ([], append-nil (take (length (encode_utf8 c)) bytes) ∙ front))

  -- A byte of a prefix is a byte of the whole.
  byte_of_front : (n k : ℕ) → k < n → get_or (take n bytes) k 0 ≡ get_or bytes k 0
  byte_of_front n k h = get_or-take n bytes k 0 h

  length_of_front : (n : ℕ) → n ≤ length bytes → length (take n bytes) ≡ n
  length_of_front n h = length-take-le n bytes h

  pub one_byte : 0 < length bytes → 128 ≤ get_or bytes 0 0
      → (1 < length bytes → IsSecond (get_or bytes 0 0) (get_or bytes 1 0) → ⊥) → IsIllFormedPart bytes 1
  one_byte some lead bad =
      let longest : (n : ℕ) → 1 < n → n ≤ length bytes → ¬ (BeginsCharacter (take n bytes)) =
      λ n more there b. let long = length_of_front n there in bad (omega arith)
      (rw (byte_of_front n 0 (omega arith), byte_of_front n 1 more) at (begins_two (take n bytes) b (omega arith))) in
      record {
        no_character = λ c rest s e. none_begins 1 longest c rest s e (longer_than_one c rest bytes s e lead);
        some = omega arith;
        within = omega arith;
        front = λ h. absurd (omega arith);
        longest = longest;
      }

  pub two_bytes : 1 < length bytes → 224 ≤ get_or bytes 0 0 → BeginsCharacter (take 2 bytes) → IsNoTrail bytes 2 → IsIllFormedPart bytes 2
  two_bytes some lead front bad =
      let longest : (n : ℕ) → 2 < n → n ≤ length bytes → ¬ (BeginsCharacter (take n bytes)) =
      λ n more there b. let long = length_of_front n there in
      no_trail _ (bad (omega arith)) (rw (byte_of_front n 2 more) at (begins_three (take n bytes) b (omega arith))) in
      record {
        no_character = λ c rest s e. none_begins 2 longest c rest s e (longer_than_two c rest bytes s e lead);
        some = omega arith;
        within = omega arith;
        front = λ h. front;
        longest = longest;
      }

  pub three_bytes : 2 < length bytes → 240 ≤ get_or bytes 0 0 → BeginsCharacter (take 3 bytes) → IsNoTrail bytes 3 → IsIllFormedPart bytes 3
  three_bytes some lead front bad =
      let longest : (n : ℕ) → 3 < n → n ≤ length bytes → ¬ (BeginsCharacter (take n bytes)) =
      λ n more there b. let long = length_of_front n there in
      no_trail _ (bad (omega arith)) (rw (byte_of_front n 3 more) at (begins_four (take n bytes) b (omega arith))) in
      record {
        no_character = λ c rest s e. none_begins 3 longest c rest s e (longer_than_three c rest bytes s e lead);
        some = omega arith;
        within = omega arith;
        front = λ h. front;
        longest = longest;
      }

-- The second byte of two is not a trail byte.
pub not_second_of_two : (bytes : List ℕ) → 194 ≤ get_or bytes 0 0 → get_or bytes 0 0 < 224 → IsNoTrail bytes 1 → 0 < length bytes
    → IsIllFormedPart bytes 1
not_second_of_two bytes from to bad some = one_byte bytes some (omega (arith, from)) (λ more second. refused more second) where
  refused : 1 < length bytes → IsSecond (get_or bytes 0 0) (get_or bytes 1 0) → ⊥
  refused more (second_of_two l h m n) = no_trail _ (bad more) (m, n)
  refused more (second_of_three a b la lb x y h) = omega (arith, x, to)
  refused more (second_of_four a b lb x y h) = omega (arith, x, to)

-- The second byte of three is not a trail byte, or none that may follow the first one.
not_second_of_three : (bytes : List ℕ) → 224 ≤ get_or bytes 0 0 → get_or bytes 0 0 < 240 → 0 < length bytes
    → ((a b : ℕ) → 1 < length bytes → b < 64 → get_or bytes 0 0 ≡ 224 + a → get_or bytes 1 0 ≡ 128 + b → IsHighOfThree (a * 64 + b) → ⊥)
    → IsIllFormedPart bytes 1
not_second_of_three bytes from to some bad = one_byte bytes some (omega (arith, from)) (λ more second. refused more second) where
  refused : 1 < length bytes → IsSecond (get_or bytes 0 0) (get_or bytes 1 0) → ⊥
  refused more (second_of_two l h m n) = omega (arith, h, from)
  refused more (second_of_three a b la lb x y h) = bad a b more lb x y h
  refused more (second_of_four a b lb x y h) = omega (arith, x, to)

pub no_second_of_three : (bytes : List ℕ) → 224 ≤ get_or bytes 0 0 → get_or bytes 0 0 < 240 → 0 < length bytes → IsNoTrail bytes 1
    → IsIllFormedPart bytes 1
no_second_of_three bytes from to some none = not_second_of_three bytes from to some
    (λ a b more lb x y h. no_trail _ (none more) (omega (arith, y), omega (arith, y, lb)))

pub bad_second_of_three : (bytes : List ℕ) (a b : ℕ) → get_or bytes 0 0 ≡ 224 + a → a < 16 → IsTrail bytes 1 b
    → (IsHighOfThree (a * 64 + b) → ⊥)
    → IsIllFormedPart bytes 1
bad_second_of_three bytes a b e l s bad =
    let there = s.there in let byte = s.byte in
    not_second_of_three bytes (omega (arith, e)) (omega (arith, e)) (omega arith)
    (λ i k more lk x y h. let first : i ≡ a = omega (arith, e, x) in let second : k ≡ b = omega (arith, byte, y) in
    bad (rw (first, second) at h))

-- The second byte of four is not a trail byte, or none that may follow the first one.
not_second_of_four : (bytes : List ℕ) → 240 ≤ get_or bytes 0 0 → 0 < length bytes
    → ((a b : ℕ) → 1 < length bytes → b < 64 → get_or bytes 0 0 ≡ 240 + a → get_or bytes 1 0 ≡ 128 + b → IsHighOfFour (a * 64 + b) → ⊥)
    → IsIllFormedPart bytes 1
not_second_of_four bytes from some bad = one_byte bytes some (omega (arith, from)) (λ more second. refused more second) where
  refused : 1 < length bytes → IsSecond (get_or bytes 0 0) (get_or bytes 1 0) → ⊥
  refused more (second_of_two l h m n) = omega (arith, h, from)
  refused more (second_of_three a b la lb x y h) = omega (arith, x, la, from)
  refused more (second_of_four a b lb x y h) = bad a b more lb x y h

pub no_second_of_four : (bytes : List ℕ) → 240 ≤ get_or bytes 0 0 → 0 < length bytes → IsNoTrail bytes 1 → IsIllFormedPart bytes 1
no_second_of_four bytes from some none = not_second_of_four bytes from some
    (λ a b more lb x y h. no_trail _ (none more) (omega (arith, y), omega (arith, y, lb)))

pub bad_second_of_four : (bytes : List ℕ) (a b : ℕ) → get_or bytes 0 0 ≡ 240 + a → IsTrail bytes 1 b → (IsHighOfFour (a * 64 + b) → ⊥)
    → IsIllFormedPart bytes 1
bad_second_of_four bytes a b e s bad =
    let there = s.there in let byte = s.byte in
    not_second_of_four bytes (omega (arith, e)) (omega arith)
    (λ i k more lk x y h. let first : i ≡ a = omega (arith, e, x) in let second : k ≡ b = omega (arith, byte, y) in
    bad (rw (first, second) at h))

-- No character starts with this byte.
pub not_first : (bytes : List ℕ) → 0 < length bytes → 128 ≤ get_or bytes 0 0 → (get_or bytes 0 0 < 194) ⊎ (245 ≤ get_or bytes 0 0)
    → IsIllFormedPart bytes 1
not_first bytes some lead bad = one_byte bytes some lead (λ more second. refused bad second) where
  refused : (get_or bytes 0 0 < 194) ⊎ (245 ≤ get_or bytes 0 0) → IsSecond (get_or bytes 0 0) (get_or bytes 1 0) → ⊥
  refused (inl low) (second_of_two l h m n) = omega (arith, low, l)
  refused (inl low) (second_of_three a b la lb x y h) = omega (arith, low, x)
  refused (inl low) (second_of_four a b lb x y h) = omega (arith, low, x)
  refused (inr high) (second_of_two l h m n) = omega (arith, high, h)
  refused (inr high) (second_of_three a b la lb x y h) = omega (arith, high, x, la)
  refused (inr high) (second_of_four a b lb x y h) = omega (arith, high, x, h.1)

-- ---- the second byte may follow the first one, and the third one is not a trail byte
pub not_third_of_three : (bytes : List ℕ) (a b : ℕ) → get_or bytes 0 0 ≡ 224 + a → a < 16 → IsTrail bytes 1 b → IsHighOfThree (a * 64 + b)
    → IsNoTrail bytes 2 → IsIllFormedPart bytes 2
not_third_of_three [] a b e l s h bad = let n = s.there in absurd (omega arith)
not_third_of_three (x ∷ []) a b e l s h bad = let n = s.there in absurd (omega arith)
not_third_of_three (x ∷ y ∷ rest) a b e l s h bad =
    let second : y ≡ 128 + b = s.byte in
    let t = three a b 0 l s.six (omega arith) h in
    two_bytes (x ∷ y ∷ rest) s.there (omega (arith, e))
    ((a * 64 + b) * 64 + 0, t.scalar, ((128 + 0) ∷ [], rw (e, second) (sym t.encoded))) bad

pub not_third_of_four : (bytes : List ℕ) (a b : ℕ) → get_or bytes 0 0 ≡ 240 + a → IsTrail bytes 1 b → IsHighOfFour (a * 64 + b)
    → IsNoTrail bytes 2 → IsIllFormedPart bytes 2
not_third_of_four [] a b e s h bad = let n = s.there in absurd (omega arith)
not_third_of_four (x ∷ []) a b e s h bad = let n = s.there in absurd (omega arith)
not_third_of_four (x ∷ y ∷ rest) a b e s h bad =
    let second : y ≡ 128 + b = s.byte in
    let t = four a b 0 0 s.six (omega arith) (omega arith) h in
    two_bytes (x ∷ y ∷ rest) s.there (omega (arith, e))
    ((a * 64 + b) * 4096 + 0 * 64 + 0, t.scalar, ((128 + 0) ∷ (128 + 0) ∷ [], rw (e, second) (sym t.encoded))) bad

pub not_fourth : (bytes : List ℕ) (a b d : ℕ) → get_or bytes 0 0 ≡ 240 + a → IsTrail bytes 1 b → IsHighOfFour (a * 64 + b)
    → IsTrail bytes 2 d → IsNoTrail bytes 3 → IsIllFormedPart bytes 3
not_fourth [] a b d e s h t bad = let n = s.there in absurd (omega arith)
not_fourth (x ∷ []) a b d e s h t bad = let n = s.there in absurd (omega arith)
not_fourth (x ∷ y ∷ []) a b d e s h t bad = let n = t.there in absurd (omega arith)
not_fourth (x ∷ y ∷ z ∷ rest) a b d e s h t bad =
    let second : y ≡ 128 + b = s.byte in
    let third : z ≡ 128 + d = t.byte in
    let u = four a b d 0 s.six t.six (omega arith) h in
    three_bytes (x ∷ y ∷ z ∷ rest) t.there (omega (arith, e))
    ((a * 64 + b) * 4096 + d * 64 + 0, u.scalar, ((128 + 0) ∷ [], rw (e, second, third) (sym u.encoded))) bad

-- ---- the length of a part
pub part_size : (bytes : List ℕ) (part : Option ℕ) (size : ℕ) → IsFirstPart bytes part size → (0 < size) × (size ≤ length bytes)
part_size bytes None size p = (p.some, p.within)
part_size bytes (Some c) size p =
    let lengths = ap (λ (bs : List ℕ). length bs) p.2 ∙ length-append (encode_utf8 c) (drop size bytes) in
    let own = length-encode c in
    let some = (len_utf8_bounds c).0 in
    let same = p.1 in
    (omega arith, omega (arith, length-drop size bytes))

-- A part has at most four bytes.
pub part_near : (bytes : List ℕ) (part : Option ℕ) (size : ℕ) → IsFirstPart bytes part size → size ≤ 4
part_near bytes None size p = elim (cases_lt 1 size) [
  | inl more ↦
      let begun = p.front more in
      let lengths = ap (λ (bs : List ℕ). length bs) begun.2.1 in
      let own = length-encode begun.0 in
      let most = (len_utf8_bounds begun.0).1 in
      let within = p.within in
      omega (arith, lengths, own, most, within, length-append (take size bytes) begun.2.0, length-take-le size bytes within)
  | inr few ↦ omega (arith, few)
]
part_near bytes (Some c) size p = let most = (len_utf8_bounds c).1 in let same = p.1 in omega (arith, same, most)
