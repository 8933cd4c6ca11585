-- The loops of spans, over the characters of a text from its start or from its end.
use Rattle.std.proofs.Common.{◌≡◌, ◌∙◌, sym, ap, refl, ℕ, ◌+◌, ◌-◌, ◌≤◌, List, [], ◌∷◌, ◌++◌, append_assoc, length, take, drop, reverse, Bool, true, false, not, arith, encode_utf8}
use mathlib.Core.Bool.{beq}
use Rattle.std.specs.List.{take_while}
use Rattle.std.specs.Str.{IsCharBoundary, chars, encode_utf8_all, IsUtf8}
use Rattle.std.proofs.lemmas.Bool.{cond-true, cond-false, not-true, not-false}
use Rattle.std.proofs.lemmas.List.{length-append, length-drop, nil_from_length, append-nil, reverse-append}
use Rattle.std.proofs.Math.Seq.{take-append_seam}
use Rattle.std.proofs.lemmas.List.Sums.{take_while-cons}
use Rattle.std.specs.Char.{IsScalar}
use Rattle.std.proofs.lemmas.Str.{chars_past_char, IsUtf8-past_char, chars_from_encodes, IsUtf8-nil, IsUtf8-encode, IsUtf8-append, IsUtf8-take, IsUtf8-drop, IsCharBoundary-start, IsCharBoundary-at_seam, IsCharBoundary-from_drop, chars-append, chars-nil, drop_past_char, length-encode}

-- A set contains a character if `held`, and does not contain it if not: what the loop found is what
-- is wanted.
pub is_wanted : {found member : Bool} (held : Bool) → found ≡ member → not (beq found held) ≡ false → beq member held ≡ true
is_wanted held e h = ap (λ (b : Bool). beq b held) (sym e) ∙ not-false _ h

pub is_unwanted : {found member : Bool} (held : Bool) → found ≡ member → not (beq found held) ≡ true → beq member held ≡ false
is_unwanted held e h = ap (λ (b : Bool). beq b held) (sym e) ∙ not-true _ h

-- The length of the prefix that passes.
abbrev pub front : (ℕ → Bool) → List ℕ → ℕ
front p text = length (encode_utf8_all (take_while p (chars text)))

-- The characters from `start` to `end` all pass.
pub record Passed (p : ℕ → Bool) (text : List ℕ) (start end : ℕ) : Type 0 where
  pub utf8 : IsUtf8 (drop end text)
  pub order : start ≤ end
  pub within : end ≤ length text
  pub so_far : end + front p (drop end text) ≡ start + front p (drop start text)

pub passed_none : (p : ℕ → Bool) (text : List ℕ) (start : ℕ) → IsUtf8 text → IsCharBoundary text start → Passed p text start start
passed_none p text start u b = record { utf8 = IsUtf8-drop text start u b; order = omega arith; within = b.0; so_far = refl }

module _ {p : ℕ → Bool} {text : List ℕ} {start end : ℕ} (s : Passed p text start end) (next c : ℕ)
    (within : next ≤ length text) (step : drop end text ≡ encode_utf8 c ++ drop next text) where
  characters : chars (drop end text) ≡ c ∷ chars (drop next text)
  characters = chars_past_char (drop end text) (drop next text) c s.utf8 step

  size : end + length (encode_utf8 c) ≡ next
  size = let g = ap (λ (bs : List ℕ). length bs) step
      ∙ length-append (encode_utf8 c) (drop next text) in omega (arith, g, length-drop end text, length-drop next text, s.within)

  pub passed_more : p c ≡ true → Passed p text start next
  passed_more y =
      let e : take_while p (chars (drop end text)) ≡ c ∷ take_while p (chars (drop next text)) = rw characters (take_while-cons p c
      (chars (drop next text)) ∙ cond-true _ _ _ y) in
      let f : front p (drop end text) ≡ length (encode_utf8 c) + front p (drop next text) =
      ap (λ (cs : List ℕ). length (encode_utf8_all cs)) e
      ∙ length-append (encode_utf8 c) (encode_utf8_all (take_while p (chars (drop next text)))) in
      record {
        utf8 = IsUtf8-past_char (drop end text) (drop next text) c s.utf8 step;
        order = omega (arith, size, s.order);
        within = within;
        so_far = omega (arith, f, size, s.so_far);
      }

  pub passed_stops : p c ≡ false → end ≡ start + front p (drop start text)
  passed_stops y =
      let e : take_while p (chars (drop end text)) ≡ [] = rw characters (take_while-cons p c (chars (drop next text))
      ∙ cond-false _ _ _ y) in
      let f : front p (drop end text) ≡ 0 = ap (λ (cs : List ℕ). length (encode_utf8_all cs)) e in omega (arith, f, s.so_far)

module _ {p : ℕ → Bool} {text : List ℕ} {start end : ℕ} (s : Passed p text start end) where
  pub passed_ends : length text ≤ end → end ≡ start + front p (drop start text)
  passed_ends e =
      let r : drop end text ≡ [] = nil_from_length (drop end text) (omega (arith, length-drop end text)) in
      let k : [] ≡ chars [] = chars_from_encodes [] [] IsUtf8-nil refl in
      let f : front p (drop end text) ≡ 0 = ap (front p) r ∙ ap (λ (cs : List ℕ). length (encode_utf8_all (take_while p cs))) (sym k) in
      omega (arith, f, s.so_far)

  -- The current offset is a character boundary.
  pub passed_boundary : IsCharBoundary text end
  passed_boundary = IsCharBoundary-from_drop text end s.within s.utf8

-- The same for an iterator over the characters, of which `rest` is left.
pub record Spanned (p : ℕ → Bool) (text rest : List ℕ) (n : ℕ) : Type 0 where
  pub passed : Passed p text 0 n
  pub left : drop n text ≡ rest
  pub boundary : IsCharBoundary text n
  pub ends : length rest ≡ 0 → n ≡ front p text

spanned : (p : ℕ → Bool) (text rest : List ℕ) (n : ℕ) → Passed p text 0 n → drop n text ≡ rest → Spanned p text rest n
spanned p text rest n s left = record {
  passed = s;
  left = left;
  boundary = passed_boundary s;
  ends = λ none.
      let l : length (drop n text) ≡ 0 = ap (λ (bs : List ℕ). length bs) left ∙ none in
      let e = passed_ends s (omega (arith, length-drop n text, l)) in omega (arith, e);
}

pub span_start : (p : ℕ → Bool) (text rest : List ℕ) → IsUtf8 text → rest ≡ text → Spanned p text rest 0
span_start p text rest u e = spanned p text rest 0 (passed_none p text 0 u (IsCharBoundary-start text u)) (sym e)

module _ {p : ℕ → Bool} {text rest : List ℕ} {n : ℕ} (s : Spanned p text rest n) (more : List ℕ) (c : ℕ)
    (step : rest ≡ encode_utf8 c ++ more) where
  left_past : drop (n + length (encode_utf8 c)) text ≡ more
  left_past = rw (length-encode c) (drop_past_char text more n c (s.left ∙ step))

  step_past : drop n text ≡ encode_utf8 c ++ drop (n + length (encode_utf8 c)) text
  step_past = s.left ∙ step ∙ ap (λ (bs : List ℕ). encode_utf8 c ++ bs) (sym left_past)

  pub span_room : n + length (encode_utf8 c) + length more ≡ length text
  span_room =
      let g : length (drop n text) ≡ length (encode_utf8 c) + length more =
      ap (λ (bs : List ℕ). length bs) (s.left ∙ step) ∙ length-append (encode_utf8 c) more in
      omega (arith, g, length-drop n text, s.passed.within)

  pub span_past : p c ≡ true → Spanned p text more (n + length (encode_utf8 c))
  span_past y =
      let m = n + length (encode_utf8 c) in
      spanned p text more m (passed_more s.passed m c (omega (arith, span_room)) step_past y) left_past

  pub span_stops : p c ≡ false → n ≡ front p text
  span_stops y =
      let e = passed_stops s.passed (n + length (encode_utf8 c)) c (omega (arith, span_room)) step_past y in omega (arith, e)

-- ---- from the end of the text
-- The length of the suffix that passes.
abbrev pub tail : (ℕ → Bool) → List ℕ → ℕ
tail p text = length (encode_utf8_all (take_while p (reverse (chars text))))

-- The characters from `start` on all pass, and `rest` is the text before them.
pub record SpannedBack (p : ℕ → Bool) (text rest : List ℕ) (start : ℕ) : Type 0 where
  pub utf8 : IsUtf8 rest
  pub behind : List ℕ
  pub behind_utf8 : IsUtf8 behind
  pub parts : text ≡ rest ++ behind
  pub place : start ≡ length rest
  pub so_far : start + tail p text ≡ length text + tail p rest
  pub boundary : IsCharBoundary text start
  pub ends : length rest ≡ 0 → start + tail p text ≡ length text

spanned_back : (p : ℕ → Bool) (text rest behind : List ℕ) (start : ℕ) → IsUtf8 rest → IsUtf8 behind → text ≡ rest ++ behind
    → start ≡ length rest → start + tail p text ≡ length text + tail p rest → SpannedBack p text rest start
spanned_back p text rest behind start u v parts place so_far = record {
  utf8 = u;
  behind = behind;
  behind_utf8 = v;
  parts = parts;
  place = place;
  so_far = so_far;
  boundary = rw place (IsCharBoundary-at_seam text rest behind parts v);
  ends = λ none.
      let r : rest ≡ [] = nil_from_length rest none in
      let f : tail p rest ≡ 0 = ap (tail p) r ∙ ap (λ (cs : List ℕ). length (encode_utf8_all (take_while p (reverse cs)))) chars-nil in
      omega (arith, f, so_far);
}

pub back_start : (p : ℕ → Bool) (text rest : List ℕ) (start : ℕ) → IsUtf8 text → rest ≡ text → start ≡ length text
    → SpannedBack p text rest start
back_start p text rest start u e l = rw (e, l)
    (spanned_back p text text [] (length text) u IsUtf8-nil (sym (append-nil text)) refl refl)

module _ {p : ℕ → Bool} {text rest : List ℕ} {start : ℕ} (s : SpannedBack p text rest start) (less : List ℕ) (c : ℕ) (scalar : IsScalar c)
    (step : rest ≡ less ++ encode_utf8 c) where
  less_utf8 : IsUtf8 less
  less_utf8 =
      let b = IsCharBoundary-at_seam rest less (encode_utf8 c) step (IsUtf8-encode c scalar) in
      let t : take (length less) rest ≡ less = rw step (take-append_seam less (encode_utf8 c)) in
      rw t at (IsUtf8-take rest (length less) s.utf8 b)

  one_char : chars (encode_utf8 c) ≡ c ∷ []
  one_char = sym (chars_from_encodes (c ∷ []) (encode_utf8 c) (IsUtf8-encode c scalar) (append-nil (encode_utf8 c)))

  last_first : reverse (chars rest) ≡ c ∷ reverse (chars less)
  last_first = rw (step, chars-append less (encode_utf8 c) less_utf8, one_char) (reverse-append (chars less) (c ∷ []))

  room : length less + length (encode_utf8 c) ≡ start
  room = sym (s.place ∙ ap (λ (bs : List ℕ). length bs) step ∙ length-append less (encode_utf8 c))

  pub back_past : p c ≡ true → SpannedBack p text less (start - length (encode_utf8 c))
  back_past y =
      let e : take_while p (reverse (chars rest)) ≡ c ∷ take_while p (reverse (chars less)) =
      rw last_first (take_while-cons p c (reverse (chars less)) ∙ cond-true _ _ _ y) in
      let f : tail p rest ≡ length (encode_utf8 c) + tail p less =
      ap (λ (cs : List ℕ). length (encode_utf8_all cs)) e
      ∙ length-append (encode_utf8 c) (encode_utf8_all (take_while p (reverse (chars less)))) in
      let parts = s.parts ∙ ap (λ (bs : List ℕ). bs ++ s.behind) step ∙ append_assoc less (encode_utf8 c) s.behind in
      spanned_back p text less (encode_utf8 c ++ s.behind) (start - length (encode_utf8 c)) less_utf8
      (IsUtf8-append (encode_utf8 c) s.behind (IsUtf8-encode c scalar) s.behind_utf8) parts (omega (arith, room))
      (omega (arith, f, room, s.so_far))

  pub back_stops : p c ≡ false → start + tail p text ≡ length text
  back_stops y =
      let e : take_while p (reverse (chars rest)) ≡ [] = rw last_first (take_while-cons p c (reverse (chars less)) ∙ cond-false _ _ _ y) in
      let f : tail p rest ≡ 0 = ap (λ (cs : List ℕ). length (encode_utf8_all cs)) e in omega (arith, f, s.so_far)
