-- The ranges of a set are filled one after another.
use Rattle.std.proofs.Common.{◌≡◌, ◌∙◌, ℕ, ◌+◌, ◌-◌, ◌*◌, ◌/◌, ◌<◌, ◌≤◌, List, [], ◌∷◌, length, drop, get_or, min, refl, ap, sym, add-zero, arith, zero, suc, Bool, true, false, inl, inr}
use Rattle.std.specs.Prelude.{◌⊎◌, nat_lt, nat_le, ◌&&◌, ◌||◌}
use Rattle.std.specs.List.{All}
use Rattle.std.specs.declared.ops.RangeInclusive.{RangeInclusive}
use Rattle.std.proofs.lemmas.Bool.{cases_lt, lt-ltb, le-ltb, le-leb, lt-leb}
use Rattle.std.proofs.lemmas.List.{drop_all, drop_more}
use Rattle.icu_zerovec.specs.CodePoints.{code_point_limit}
use Rattle.icu_invlist.specs.InversionList.{AreApart, IsOfCodePoints, IsValid, StartsBehind, between, holds, in_ranges, ranges_of}
use Rattle.icu_frozen_sets.specs.FrozenWords.{IsFrozenOf, bit_in, offset_words, place_in}
use Rattle.icu_frozen_sets.specs.Inside.Filling.{AreTables, HasOffset, IsFilledBelow, IsFilling, IsFrozen, bit_among, filled}
use Rattle.icu_frozen_sets.proofs.BitLemmas.{or_false}
use Rattle.icu_frozen_sets.proofs.FillingLemmas.{below_later}

-- The first of the ranges, if there is one, starts at n or above.
abbrev pub StartsFrom : ℕ → List (RangeInclusive ℕ) → Type 0
StartsFrom n [] = Unit {0}
StartsFrom n (r ∷ rs) = n ≤ r.start

-- All code points that are filled are below the first of the ranges, if there is one.
abbrev pub IsFilledBelowFirst : List ℕ → List ℕ → ℕ → List (RangeInclusive ℕ) → Type 0
IsFilledBelowFirst t block at [] = Unit {0}
IsFilledBelowFirst t block at (r ∷ rs) = IsFilledBelow t block at r.start

-- p is above all boundaries but the end of the code space.
abbrev pub IsAbove : ℕ → List ℕ → Type 0
IsAbove p set = (i : ℕ) → i < length set → (get_or set i 0 < p) ⊎ (get_or set i 0 ≡ code_point_limit)

-- Boundaries ascend.
rises : (xs : List ℕ) (i n : ℕ) → IsValid xs → i + n < length xs → get_or xs i 0 ≤ get_or xs (i + n) 0
rises xs i zero v l = rw add-zero (omega arith)
rises xs i (suc n) v l =
    let before = rises xs i n v (omega arith) in
    let step = v.ascending (i + n) (omega arith) in
    let e : i + suc n ≡ i + n + 1 = omega arith in rw e (omega arith)

pub below_last : (xs : List ℕ) (k i last : ℕ) → IsValid xs → last ≡ get_or xs k 0 → k < length xs → i ≤ k → get_or xs i 0 ≤ last
below_last xs k i last v e h l =
    let same : i + (k - i) ≡ k = omega (arith, l) in
    let up = rw same at (rises xs i (k - i) v (omega (arith, same, h))) in
    omega (arith, e, up)

-- The block of each boundary has an offset, and not many more blocks have.
pub record AreEnough (set t : List ℕ) : Type 0 where
  pub own : (i : ℕ) → i < length set → HasOffset t (get_or set i 0 / 1024)
  pub short : (p : ℕ) → IsAbove p set → offset_words t ≤ p / 1024 + 2

pub enough_first : (set t : List ℕ) (last : ℕ)
    → ((i : ℕ) → i < length set → (get_or set i 0 ≤ last) ⊎ (get_or set i 0 ≡ code_point_limit))
    → ((p : ℕ) → IsAbove p set → last ≤ p) → ((p : ℕ) → p ≤ last → HasOffset t (p / 1024)) → offset_words t ≤ last / 1024 + 2
    → AreEnough set t
enough_first set t last there least own short = record {
  own = λ i l. elim (there i l) [
    | inl below ↦ own (get_or set i 0) below
    | inr end ↦ λ h. absurd (omega (arith, end, h))
  ];
  short = λ p above. (let l = least p above in omega (arith, l, short));
}

pub enough_kept : (set t new : List ℕ) → offset_words new ≡ offset_words t → AreEnough set t → AreEnough set new
enough_kept set t new same e = record {
  own = λ i l h. (let o = e.own i l h in omega (arith, o, same));
  short = λ p above. (let s = e.short p above in omega (arith, s, same));
}

-- Each code point in the set is filled, or in one of the ranges that are left.
pub record Freezes (set : List ℕ) (left : List (RangeInclusive ℕ)) (t block : List ℕ) (at : ℕ) : Type 0 where
  pub filling : IsFilling t at
  pub enough : AreEnough set t
  pub apart : AreApart left
  pub within : All IsOfCodePoints left
  pub below : IsFilledBelowFirst t block at left
  pub held : (c : ℕ) → c < code_point_limit → holds set c ≡ (filled t block at c || in_ranges left c)

starts_from : (n : ℕ) (rs : List (RangeInclusive ℕ)) → StartsBehind n rs → StartsFrom n rs
starts_from n [] h = tt
starts_from n (r ∷ rs) h = omega arith

starts_lower : (n m : ℕ) (rs : List (RangeInclusive ℕ)) → m ≤ n → StartsFrom n rs → StartsFrom m rs
starts_lower n m [] l h = tt
starts_lower n m (r ∷ rs) l h = omega arith

or_assoc : (a b c : Bool) → (a || (b || c)) ≡ ((a || b) || c)
or_assoc true b c = refl
or_assoc false b c = refl

through : (c end : ℕ) → nat_lt c (end + 1) ≡ nat_le c end
through c end = elim (cases_lt end c) [
  | inl l ↦ le-ltb c (end + 1) (omega arith) ∙ sym (lt-leb c end l)
  | inr l ↦ lt-ltb c (end + 1) (omega arith) ∙ sym (le-leb c end l)
]

below : (c end last : ℕ) → c < 128 → last ≡ min (end + 1) 128 → nat_lt c last ≡ nat_le c end
below c end last h e = elim (cases_lt end c) [
  | inl l ↦ le-ltb c last (omega arith) ∙ sym (lt-leb c end l)
  | inr l ↦ lt-ltb c last (omega arith) ∙ sym (le-leb c end l)
]

below_first : (t block : List ℕ) (at : ℕ) (left : List (RangeInclusive ℕ)) → IsFilledBelow t block at 0
    → IsFilledBelowFirst t block at left
below_first t block at [] b = tt
below_first t block at (r ∷ rs) b = below_later t block at 0 r.start b (omega arith)

below_rest : (t block : List ℕ) (at last : ℕ) (left : List (RangeInclusive ℕ)) → IsFilledBelow t block at (last + 1)
    → StartsBehind (last + 1) left → IsFilledBelowFirst t block at left
below_rest t block at last [] b h = tt
below_rest t block at last (r ∷ rs) b h = below_later t block at (last + 1) r.start b (omega arith)

pub freezes_none : (set : List ℕ) (left : List (RangeInclusive ℕ)) (t block : List ℕ) (at : ℕ) → IsFilling t at → AreEnough set t
    → IsFilledBelow t block at 0 → AreApart left → All IsOfCodePoints left → ((c : ℕ) → in_ranges left c ≡ holds set c)
    → Freezes set left t block at
freezes_none set left t block at f enough below apart within held = record {
  filling = f;
  enough = enough;
  apart = apart;
  within = within;
  below = below_first t block at left below;
  held = λ c h. sym (rw (below.none c (omega arith) h) (held c));
}

module _ (set : List ℕ) (left rest : List (RangeInclusive ℕ)) (r : RangeInclusive ℕ) (step : left ≡ r ∷ rest) (t block : List ℕ)
    (at : ℕ) (f : Freezes set left t block at) where
  pub range_above : IsFilledBelow t block at r.start
  range_above = let P : List (RangeInclusive ℕ) → Type 0 = λ rs. IsFilledBelowFirst t block at rs in rw step at f.below

  here : AreApart (r ∷ rest)
  here = rw step at f.apart

  inside : All IsOfCodePoints (r ∷ rest)
  inside = rw step at f.within

  pub range_within : r.end + 1 ≤ code_point_limit
  range_within = let w = inside 0 r (omega arith) in omega arith

  pub freezes_more : (t1 block1 : List ℕ) (new start end : ℕ) → start ≡ r.start → end ≡ r.end + 1
      → IsFilling t1 new → offset_words t1 ≡ offset_words t → IsFilledBelow t1 block1 new end
      → ((c : ℕ) → c < code_point_limit → filled t1 block1 new c ≡ (filled t block at c || between start end c))
      → Freezes set rest t1 block1 new
  freezes_more t1 block1 new start end s e filling same below bits = record {
    filling = filling;
    enough = enough_kept set t t1 same f.enough;
    apart = here.1;
    within = λ k d h. inside (suc k) d (omega arith);
    below = below_rest t1 block1 new r.end rest (below_later t1 block1 new end (r.end + 1) below (omega (arith, e))) here.0;
    held = λ c h. f.held c h ∙ (ap (λ (rs : List (RangeInclusive ℕ)). filled t block at c || in_ranges rs c) step
        ∙ (or_assoc (filled t block at c) (nat_le r.start c && nat_le c r.end) (in_ranges rest c)
        ∙ ap (λ (b : Bool). b || in_ranges rest c)
        (sym (bits c h ∙ (ap (λ (n : ℕ). filled t block at c || between n end c) s
        ∙ ap (λ (x : Bool). filled t block at c || (nat_le r.start c && x))
        (ap (λ (n : ℕ). nat_lt c n) e ∙ through c r.end))))));
  }

-- All ranges are filled.
module _ (set : List ℕ) (left : List (RangeInclusive ℕ)) (t block : List ℕ) (at : ℕ) (new : List ℕ) (f : Freezes set left t block at)
    (none : left ≡ []) (tables : AreTables new) (same : offset_words new ≡ offset_words t)
    (bits : (c : ℕ) → c < code_point_limit → bit_in new c ≡ filled t block at c) where
  all_bits : (c : ℕ) → c < code_point_limit → bit_in new c ≡ holds set c
  all_bits c h = bits c h ∙ sym (f.held c h
      ∙ (ap (λ (rs : List (RangeInclusive ℕ)). filled t block at c || in_ranges rs c) none ∙ or_false (filled t block at c)))

  pub frozen_all : IsValid set → IsFrozenOf set new
  frozen_all v = record {
    valid = v;
    some = tables.some;
    few = tables.few;
    placed = tables.placed;
    offsets = (let l = tables.least in omega (arith, l));
    short = (enough_kept set t new same f.enough).short;
    most = tables.most;
    bits = all_bits;
  }

-- The words, with the bits that are repeated.
pub frozen_owned : (set words : List ℕ) → IsFrozenOf set words → (ascii : List Bool)
    → ((c : ℕ) → c < 128 → get_or ascii c false ≡ holds set c) → (two_bytes : List ℕ)
    → ((c : ℕ) → c < 2048 → bit_among two_bytes c ≡ bit_in words c) → (bmp : List ℕ)
    → ((b : ℕ) → b < 64 → get_or bmp b 0 ≡ place_in words b) → (last : ℕ) → last ≡ offset_words words - 1
    → IsFrozen set ascii two_bytes bmp words last
frozen_owned set words frozen ascii first two_bytes alike bmp offsets last end = record {
  frozen = frozen;
  end = end;
  first = first;
  short = λ c h. alike c h ∙ frozen.bits c (omega arith);
  offsets = offsets;
}

-- The range of the two boundaries from index 2 * i on is the next of those that are left.
pub next_range : (xs : List ℕ) (i : ℕ) → 2 * i + 1 < length xs → ranges_of (drop (2 * i) xs)
    ≡ (record { start = get_or xs (2 * i) 0; end = get_or xs (2 * i + 1) 0 - 1; exhausted = false }) ∷ ranges_of (drop (2 * (i + 1)) xs)
next_range xs i l =
    let more : 2 * (i + 1) ≡ 2 * i + 1 + 1 = omega arith in
    ap ranges_of (drop_more xs (2 * i) 0 (omega arith)
    ∙ ap (λ (ys : List ℕ). get_or xs (2 * i) 0 ∷ ys) (drop_more xs (2 * i + 1) 0 l))
    ∙ ap (λ (k : ℕ). (record { start = get_or xs (2 * i) 0; end = get_or xs (2 * i + 1) 0 - 1; exhausted = false }) ∷ ranges_of (drop k xs))
    (sym more)

pub no_range_left : (xs : List ℕ) (i : ℕ) → length xs ≤ 2 * i → ranges_of (drop (2 * i) xs) ≡ []
no_range_left xs i l = ap ranges_of (drop_all (2 * i) xs l)

-- ---- ASCII
-- The ranges from n on have no number below n.
pub none_below : (n : ℕ) (rs : List (RangeInclusive ℕ)) (c : ℕ) → c < n → StartsFrom n rs → AreApart rs → All IsOfCodePoints rs
    → in_ranges rs c ≡ false
none_below n [] c h from apart within = refl
none_below n (r ∷ rs) c h from apart within =
    let w = within 0 r (omega arith) in
    rw (lt-leb r.start c (omega arith))
    (none_below n rs c h (starts_lower (r.end + 1) n rs (omega arith) (starts_from (r.end + 1) rs apart.0)) apart.1
    (λ k d h. within (suc k) d (omega arith)))

-- Each ASCII character in the set is marked, or in one of the ranges that are left.
pub record Marks (ends : List ℕ) (left : List (RangeInclusive ℕ)) (ascii : List Bool) : Type 0 where
  pub apart : AreApart left
  pub within : All IsOfCodePoints left
  pub held : (c : ℕ) → c < 128 → holds ends c ≡ (get_or ascii c false || in_ranges left c)

pub marks_none : (ends : List ℕ) (left : List (RangeInclusive ℕ)) (ascii : List Bool) → ((c : ℕ) → c < 128 → get_or ascii c false ≡ false)
    → AreApart left → All IsOfCodePoints left → ((c : ℕ) → in_ranges left c ≡ holds ends c) → Marks ends left ascii
marks_none ends left ascii none apart within held = record {
  apart = apart;
  within = within;
  held = λ c h. sym (rw (none c h) (held c));
}

pub marks_order : (ends : List ℕ) (left rest : List (RangeInclusive ℕ)) (r : RangeInclusive ℕ) (ascii : List Bool) → left ≡ r ∷ rest
    → Marks ends left ascii → r.start ≤ r.end
marks_order ends left rest r ascii step m =
    let within : All IsOfCodePoints (r ∷ rest) = rw step at m.within in
    let w = within 0 r (omega arith) in
    omega arith

pub marks_more : (ends : List ℕ) (left rest : List (RangeInclusive ℕ)) (r : RangeInclusive ℕ) (ascii new : List Bool) (start end : ℕ)
    → left ≡ r ∷ rest → start ≡ r.start → end ≡ min (r.end + 1) 128 → Marks ends left ascii
    → ((c : ℕ) → c < 128 → get_or new c false ≡ (get_or ascii c false || between start end c)) → Marks ends rest new
marks_more ends left rest r ascii new start end step s e m bits =
    let apart : AreApart (r ∷ rest) = rw step at m.apart in
    let within : All IsOfCodePoints (r ∷ rest) = rw step at m.within in
    record {
      apart = apart.1;
      within = λ k d h. within (suc k) d (omega arith);
      held = λ c h. m.held c h ∙ (ap (λ (rs : List (RangeInclusive ℕ)). get_or ascii c false || in_ranges rs c) step
          ∙ (or_assoc (get_or ascii c false) (nat_le r.start c && nat_le c r.end) (in_ranges rest c)
          ∙ ap (λ (b : Bool). b || in_ranges rest c)
          (sym (bits c h ∙ (ap (λ (n : ℕ). get_or ascii c false || between n end c) s
          ∙ ap (λ (x : Bool). get_or ascii c false || (nat_le r.start c && x)) (below c r.end end h e))))));
    }

marks_all : (ends : List ℕ) (left : List (RangeInclusive ℕ)) (ascii : List Bool) → Marks ends left ascii → StartsFrom 128 left
    → (c : ℕ) → c < 128 → get_or ascii c false ≡ holds ends c
marks_all ends left ascii m from c h = sym (m.held c h
    ∙ (ap (λ (b : Bool). get_or ascii c false || b) (none_below 128 left c h from m.apart m.within) ∙ or_false _))

pub marks_past : (ends : List ℕ) (left rest : List (RangeInclusive ℕ)) (r : RangeInclusive ℕ) (ascii : List Bool) → left ≡ r ∷ rest
    → 128 ≤ r.start → Marks ends left ascii → (c : ℕ) → c < 128 → get_or ascii c false ≡ holds ends c
marks_past ends left rest r ascii step past m = marks_all ends left ascii m (rw step past)
