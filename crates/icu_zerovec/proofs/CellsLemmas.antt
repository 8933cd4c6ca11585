-- Packed bytes and their values, cell by cell: how many there are, what they are, and that packed
-- values unpack to themselves.
use Rattle.std.proofs.Common.{◌≡◌, ℕ, zero, suc, ◌+◌, ◌*◌, ◌/◌, ◌%◌, ◌<◌, ◌≤◌, List, [], ◌∷◌, ◌++◌, length, take, drop, slice_get, Option, Some, None, refl, true, arith, sym, ◌∙◌, ap, subst, lit<}
use Rattle.std.specs.Prelude.{IsSome}
use Rattle.std.specs.Option.{option_to_list, option_map, is_some}
use Rattle.std.proofs.Math.Nat.{zero-mul, suc-mul, mul-div_cancel, mul-mod_left, zero-div}
use Rattle.std.proofs.Math.Seq.{take-append_seam}
use Rattle.icu_zerovec.specs.PackedBytes.{AreBytes}
use Rattle.icu_zerovec.specs.Canonical.{IsCanonical}
use Rattle.std.proofs.lemmas.List.{drop-drop}
use Rattle.std.proofs.lemmas.Option.{slice_get_past}
use Rattle.std.specs.List.{flat_map, AllByRecursion}
use Rattle.std.proofs.lemmas.List.{nil_from_length, drop_at, take-append-drop, length-take-le, length-drop, length-append}
use Rattle.std.proofs.lemmas.Nat.{div-add-mod', row_fits}
use Rattle.icu_zerovec.specs.Cells.{cell, values_from, values_of, IsPacked}

-- The first cell is the first w bytes.
cell-zero : (w : ℕ) (b : List ℕ) → cell w b zero ≡ take w b
cell-zero w b = ap (λ k. take w (drop k b)) (zero-mul w)

-- A later cell is a cell of the rest.
cell-suc : (w : ℕ) (b : List ℕ) (i : ℕ) → cell w b (suc i) ≡ cell w (drop w b) i
cell-suc w b i = ap (take w) (ap (λ k. drop k b) (omega (arith, suc-mul i w)) ∙ sym (drop-drop (i * w) w b))

-- ---- a value before others
-- It is the first.
front-get : {T : Type 0} (o : Option T) (xs : List T) → is_some o ≡ true → slice_get (option_to_list o ++ xs) zero ≡ o
front-get None xs h = cc
front-get (Some x) xs h = refl

-- The others follow it.
front-later : {T : Type 0} (o : Option T) (xs : List T) (i : ℕ) → is_some o ≡ true
    → slice_get (option_to_list o ++ xs) (suc i) ≡ slice_get xs i
front-later None xs i h = cc
front-later (Some x) xs i h = refl

-- Of the first n + 1, it is the first, and n of the others follow.
pub front-take : {T : Type 0} (o : Option T) (xs : List T) (n : ℕ) → is_some o ≡ true
    → take (suc n) (option_to_list o ++ xs) ≡ option_to_list o ++ take n xs
front-take None xs n h = cc
front-take (Some x) xs n h = refl

-- There is one more.
front-length : {T : Type 0} (o : Option T) (xs : List T) → is_some o ≡ true → length (option_to_list o ++ xs) ≡ suc (length xs)
front-length None xs h = cc
front-length (Some x) xs h = refl

module _ {T : Type 0} (f : List ℕ → Option T) (w : ℕ) where
  -- If the cells are values, the first cell is a value.
  pub first_some : (b : List ℕ) (n : ℕ) → ((i : ℕ) → i < suc n → is_some (f (cell w b i)) ≡ true) → is_some (f (take w b)) ≡ true
  first_some b n h = rw (cell-zero w b) at (h zero (omega arith))

  -- If the cells are values, the others are values.
  pub rest_some : (b : List ℕ) (n : ℕ) → ((i : ℕ) → i < suc n → is_some (f (cell w b i)) ≡ true) → (i : ℕ) → i < n
      → is_some (f (cell w (drop w b) i)) ≡ true
  rest_some b n h i l = rw (cell-suc w b i) at (h (suc i) (omega arith))

  -- The first n cells have n values.
  length-values_from : (b : List ℕ) (n : ℕ) → ((i : ℕ) → i < n → is_some (f (cell w b i)) ≡ true) → length (values_from f w b n) ≡ n
  length-values_from b zero h = refl
  length-values_from b (suc n) h = front-length _ _ (first_some b n h) ∙ ap suc (length-values_from (drop w b) n (rest_some b n h))

  -- Value i of them is that of cell i.
  get-values_from : (b : List ℕ) (n i : ℕ) → ((j : ℕ) → j < n → is_some (f (cell w b j)) ≡ true) → i < n
      → slice_get (values_from f w b n) i ≡ f (cell w b i)
  get-values_from b zero i h l = absurd (omega arith)
  get-values_from b (suc n) zero h l = front-get _ _ (first_some b n h) ∙ ap f (sym (cell-zero w b))
  get-values_from b (suc n) (suc i) h l = front-later _ _ i (first_some b n h)
      ∙ get-values_from (drop w b) n i (rest_some b n h) (omega arith) ∙ ap f (sym (cell-suc w b i))

  -- There are as many values as cells.
  pub length-values_of : (b : List ℕ) → IsPacked f w b → length (values_of f w b) ≡ length b / w
  unfolding values_of
  length-values_of b p = length-values_from b (length b / w) p.valued

  -- Value i is that of cell i.
  pub get-values_of : (b : List ℕ) (i : ℕ) → IsPacked f w b → i < length b / w → slice_get (values_of f w b) i ≡ f (cell w b i)
  unfolding values_of
  get-values_of b i p l = get-values_from b (length b / w) i p.valued l

  -- There is no value after the last cell.
  pub get_past-values_of : (b : List ℕ) (i : ℕ) → IsPacked f w b → length b / w ≤ i → slice_get (values_of f w b) i ≡ None
  get_past-values_of b i p l = slice_get_past _ i (rw (length-values_of b p) l)

-- ---- small facts on options, lists and bytes
-- A value of an option that is not `None` can be named.
some_value : {T : Type 0} (o : Option T) → is_some o ≡ true → (x : T) × (o ≡ Some x)
some_value None h = cc
some_value (Some x) h = (x, refl)

-- `Some` is not `None`.
pub not_none : {T : Type 0} (o : Option T) → is_some o ≡ true → o ≡ None → ⊥
not_none None h e = cc
not_none (Some x) h e = cc

-- There is a value at each index below the length.
some_within : {T : Type 0} (xs : List T) (i : ℕ) → i < length xs → is_some (slice_get xs i) ≡ true
some_within [] i l = absurd (omega arith)
some_within (x ∷ xs) zero l = refl
some_within (x ∷ xs) (suc i) l = some_within xs i (omega arith)

-- A prefix of bytes consists of bytes.
pub AreBytes-take : (n : ℕ) (b : List ℕ) → AreBytes b → AreBytes (take n b)
AreBytes-take zero b h i = lit< tt
AreBytes-take (suc n) [] h i = lit< tt
AreBytes-take (suc n) (x ∷ b) h zero = h 0
AreBytes-take (suc n) (x ∷ b) h (suc i) = AreBytes-take n b (λ j. h (suc j)) i

-- A suffix of bytes consists of bytes.
AreBytes-drop : (n : ℕ) (b : List ℕ) → AreBytes b → AreBytes (drop n b)
AreBytes-drop zero b h = h
AreBytes-drop (suc n) [] h = h
AreBytes-drop (suc n) (x ∷ b) h = AreBytes-drop n b (λ j. h (suc j))

-- Bytes appended to bytes are bytes.
AreBytes-append : (a b : List ℕ) → AreBytes a → AreBytes b → AreBytes (a ++ b)
AreBytes-append [] b g h i = h i
AreBytes-append (x ∷ a) b g h zero = g 0
AreBytes-append (x ∷ a) b g h (suc i) = AreBytes-append a b (λ j. g (suc j)) h i

-- ---- the bytes of values
module _ {T : Type 0} (f : List ℕ → Option T) (w : ℕ) (pack : T → List ℕ) (V : T → Type 0) (positive : 0 < w)
    (long : (x : T) → V x → length (pack x) ≡ w) (back : (x : T) → V x → f (pack x) ≡ Some x) where
  -- The first w bytes are those of the first value.
  pub take-pack : (x : T) (b : List ℕ) → V x → take w (pack x ++ b) ≡ pack x
  take-pack x b v = subst (λ n. take n (pack x ++ b) ≡ pack x) (long x v) (take-append_seam (pack x) b)

  -- The bytes after them are those of the other values.
  drop-pack : (x : T) (b : List ℕ) → V x → drop w (pack x ++ b) ≡ b
  drop-pack x b v = drop_at (pack x) b w (long x v)

  -- The bytes of values unpack to the values, cell by cell.
  values_from-flat_map : (xs : List T) → AllByRecursion V xs → values_from f w (flat_map pack xs) (length xs) ≡ xs
  values_from-flat_map [] v = refl
  values_from-flat_map (x ∷ xs) v =
      rw (take-pack x (flat_map pack xs) v.0, drop-pack x (flat_map pack xs) v.0, back x v.0)
      (ap (λ r. x ∷ r) (values_from-flat_map xs v.1))

  -- Cell i unpacks to value i.
  cell-flat_map : (xs : List T) (i : ℕ) → AllByRecursion V xs → i < length xs → f (cell w (flat_map pack xs) i) ≡ slice_get xs i
  cell-flat_map [] i v l = absurd (omega arith)
  cell-flat_map (x ∷ xs) zero v l = ap f (cell-zero w _ ∙ take-pack x (flat_map pack xs) v.0) ∙ back x v.0
  cell-flat_map (x ∷ xs) (suc i) v l =
      ap f (cell-suc w _ i ∙ ap (λ b. cell w b i) (drop-pack x (flat_map pack xs) v.0)) ∙ cell-flat_map xs i v.1 (omega arith)

  -- Each value has w bytes.
  length-flat_map : (xs : List T) → AllByRecursion V xs → length (flat_map pack xs) ≡ length xs * w
  length-flat_map [] v = sym (zero-mul w)
  length-flat_map (x ∷ xs) v =
      omega (arith, length-append (pack x) (flat_map pack xs), long x v.0, length-flat_map xs v.1, suc-mul (length xs) w)

  -- There are as many cells as values.
  count-flat_map : (xs : List T) → AllByRecursion V xs → length (flat_map pack xs) / w ≡ length xs
  count-flat_map xs v = ap (λ n. n / w) (length-flat_map xs v) ∙ mul-div_cancel (length xs) positive

  -- The packed bytes of values are bytes.
  AreBytes-flat_map : (xs : List T) → AllByRecursion V xs → ((x : T) → V x → AreBytes (pack x)) → AreBytes (flat_map pack xs)
  AreBytes-flat_map [] v h i = lit< tt
  AreBytes-flat_map (x ∷ xs) v h i = AreBytes-append (pack x) (flat_map pack xs) (h x v.0) (AreBytes-flat_map xs v.1 h) i

  -- The bytes of values are packed.
  pub IsPacked-flat_map : (xs : List T) → AllByRecursion V xs → ((x : T) → V x → AreBytes (pack x)) → IsPacked f w (flat_map pack xs)
  IsPacked-flat_map xs v h = record {
    whole = ap (λ n. n % w) (length-flat_map xs v) ∙ mul-mod_left (length xs) w;
    valued = λ i l. let k : i < length xs = rw (count-flat_map xs v) at l in rw (cell-flat_map xs i v k) (some_within xs i k);
    small = AreBytes-flat_map xs v h;
  }

  -- The bytes of values unpack to the values.
  pub values_of-flat_map : (xs : List T) → AllByRecursion V xs → values_of f w (flat_map pack xs) ≡ xs
  unfolding values_of
  values_of-flat_map xs v = ap (values_from f w (flat_map pack xs)) (count-flat_map xs v) ∙ values_from-flat_map xs v

-- ---- the values of bytes
module _ {T : Type 0} (f : List ℕ → Option T) (w : ℕ) (pack : T → List ℕ)
    (one : IsCanonical pack f w) where
  -- The bytes of the values of the first n cells are those cells.
  flat_map-values_from : (b : List ℕ) (n : ℕ) → length b ≡ n * w → AreBytes b → ((i : ℕ) → i < n → is_some (f (cell w b i)) ≡ true)
      → flat_map pack (values_from f w b n) ≡ b
  flat_map-values_from b zero e h s = sym (nil_from_length b (e ∙ zero-mul w))
  flat_map-values_from b (suc n) e h s =
      let whole : length b ≡ n * w + w = e ∙ suc-mul n w in
      let x = some_value (f (take w b)) (first_some f w b n s) in
      let front : pack x.0 ≡ take w b = one.packs (take w b) x.0 (length-take-le w b (omega arith)) (AreBytes-take w b h) x.1 in
      let rest : flat_map pack (values_from f w (drop w b) n) ≡ drop w b =
      flat_map-values_from (drop w b) n (omega (arith, length-drop w b)) (AreBytes-drop w b h) (rest_some f w b n s) in
      rw (x.1, front, rest) (take-append-drop w b)

  -- The bytes of the values of packed bytes are those bytes.
  pub flat_map-values_of : (b : List ℕ) → IsPacked f w b → flat_map pack (values_of f w b) ≡ b
  unfolding values_of
  flat_map-values_of b p = flat_map-values_from b (length b / w) (omega (arith, div-add-mod' (length b) w, p.whole)) p.small p.valued

-- The bytes of value i are cell i.
pub pack-get : {T : Type 0} (f : List ℕ → Option T) (w : ℕ) (pack : T → List ℕ)
    → IsCanonical pack f w
    → (b : List ℕ) (i : ℕ) → IsPacked f w b → i < length b / w
    → option_map pack (slice_get (values_of f w b) i) ≡ Some (cell w b i)
pack-get f w pack one b i p l =
    let fits : i * w + w ≤ length b = omega (arith, row_fits i w (length b / w) w l (omega arith), div-add-mod' (length b) w) in
    let x = some_value (f (cell w b i)) (p.valued i l) in
    let long : length (cell w b i) ≡ w = length-take-le w (drop (i * w) b) (omega (arith, length-drop (i * w) b)) in
    rw (get-values_of f w b i p l, x.1)
    (ap Some (one.packs (cell w b i) x.0 long (AreBytes-take w _ (AreBytes-drop (i * w) b p.small)) x.1))

-- ---- the first cell and the others
module _ {T : Type 0} (f : List ℕ → Option T) (w : ℕ) (positive : 0 < w) (b : List ℕ) (p : IsPacked f w b) (some : 0 < length b) where
  -- If there are bytes, there is a cell, and the bytes after it have one cell less.
  one_less : (m : ℕ) × (length b / w ≡ suc m) × (length (drop w b) ≡ m * w)
  one_less = counted (length b / w) (omega (arith, div-add-mod' (length b) w, p.whole))
    where
      counted : (n : ℕ) → length b ≡ n * w → (m : ℕ) × (n ≡ suc m) × (length (drop w b) ≡ m * w)
      counted zero e = absurd (omega (arith, zero-mul w))
      counted (suc m) e = (m, refl, omega (arith, length-drop w b, suc-mul m w))

  -- The number of cells after the first.
  count-drop : length (drop w b) / w ≡ one_less.0
  count-drop = ap (λ n. n / w) one_less.2 ∙ mul-div_cancel one_less.0 positive

  -- Each cell is a value.
  valued_first : (i : ℕ) → i < suc one_less.0 → is_some (f (cell w b i)) ≡ true
  valued_first i l = p.valued i (rw one_less.1 l)

  -- There is a cell.
  pub first_fits : w ≤ length b
  first_fits = omega (arith, div-add-mod' (length b) w, p.whole, ap (λ n. n * w) one_less.1, suc-mul one_less.0 w)

  -- The bytes after the first cell are packed.
  pub IsPacked-drop : IsPacked f w (drop w b)
  IsPacked-drop = record {
    whole = ap (λ n. n % w) one_less.2 ∙ mul-mod_left one_less.0 w;
    valued = λ i l. rest_some f w b one_less.0 valued_first i (rw count-drop at l);
    small = AreBytes-drop w b p.small;
  }

  -- The values are that of the first cell, followed by those of the bytes after it.
  pub values_of-first : (x : T) → f (take w b) ≡ Some x → values_of f w b ≡ x ∷ values_of f w (drop w b)
  unfolding values_of
  values_of-first x e =
      ap (values_from f w b) one_less.1 ∙ ap (λ o. option_to_list o ++ values_from f w (drop w b) one_less.0) e
      ∙ ap (λ n. x ∷ values_from f w (drop w b) n) (sym count-drop)

  -- The first cell is a value.
  pub first_value : IsSome (f (take w b))
  first_value = first_some f w b one_less.0 valued_first

-- Empty bytes have no values.
pub values_of-nil : {T : Type 0} (f : List ℕ → Option T) (w : ℕ) (b : List ℕ) → length b ≡ 0 → values_of f w b ≡ []
unfolding values_of
values_of-nil f w b e = ap (λ n. values_from f w b (n / w)) e ∙ ap (values_from f w b) (zero-div w)
