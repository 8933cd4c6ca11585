-- Setting blocks of the words of a frozen set.
use Rattle.std.proofs.Common.{◌≡◌, ◌∙◌, ℕ, ◌+◌, ◌-◌, ◌*◌, ◌/◌, ◌%◌, ◌^◌, ◌<◌, ◌≤◌, List, ◌++◌, length, take, drop, get_or, set, replicate, min, refl, ap, sym, arith, Bool, true, false, cond, inl, inr}
use Rattle.std.specs.Int.{bit_at}
use Rattle.std.specs.Prelude.{nat_eq, ◌||◌}
use Rattle.std.proofs.lemmas.Bool.{cases_eq, cases_lt, cond-false, cond-true}
use Rattle.std.proofs.lemmas.Grind.{get_or-set_at}
use Rattle.std.proofs.lemmas.List.{length-append, length-drop, length-replicate, length-set, length-take-le, get_or_append_left, get_or-append_right, get_or-drop, get_or-set_other, get_or-take, take_all}
use Rattle.std.proofs.lemmas.Nat.Bits.{bit_at_ones, bit_at-zero}
use Rattle.icu_invlist.specs.InversionList.{between}
use Rattle.icu_frozen_sets.specs.FrozenWords.{bit_in, offset_at, offset_words, place_in}
use Rattle.icu_frozen_sets.specs.Inside.Filling.{AreTables, HasOffset, IsFilling, SetsBlock}
use Rattle.icu_frozen_sets.proofs.BitLemmas.{between_after, between_before, between_in, between_more, or_false, or_true}
use Rattle.icu_frozen_sets.proofs.PlaceLemmas.{place_inside, place_of_first, same_place}

-- ---- the bits of equal words
pub bit_of_uniform : (value : Bool) (word k : ℕ) → word ≡ cond value (2 ^ 64 - 1) 0 → k < 64 → nat_eq (bit_at word k) 1 ≡ value
bit_of_uniform true word k e h = rw (e, bit_at_ones 64 k h) refl
bit_of_uniform false word k e h = rw (e, bit_at-zero k) refl

-- The bit of c by the offset of its block.
pub bit_by_place : (t : List ℕ) (c p : ℕ) → place_in t (c / 1024) ≡ p
    → bit_in t c ≡ nat_eq (bit_at (get_or t (p + c / 64 % 16) 0) (c % 64)) 1
bit_by_place t c p e = ap (λ (n : ℕ). nat_eq (bit_at (get_or t (n + c / 64 % 16) 0) (c % 64)) 1) e

-- An empty block has no bit, and a full block has all.
pub empty_block : (t : List ℕ) (c : ℕ) → AreTables t → place_in t (c / 1024) ≡ offset_words t + 16 → bit_in t c ≡ false
empty_block t c a e = bit_by_place t c (offset_words t + 16) e
    ∙ bit_of_uniform false _ (c % 64) (a.none (c / 64 % 16) (omega arith)) (omega arith)

pub full_block : (t : List ℕ) (c : ℕ) → AreTables t → place_in t (c / 1024) ≡ offset_words t + 32 → bit_in t c ≡ true
full_block t c a e = bit_by_place t c (offset_words t + 32) e
    ∙ bit_of_uniform true _ (c % 64) (a.all (c / 64 % 16) (omega arith)) (omega arith)

-- ---- a block is set
-- Up to sixteen words are appended, and the offset of block `at` is written.
module _ (t mid new : List ℕ) (at place : ℕ) (a : AreTables t) (some : 0 < at) (there : at < 1088) (own : HasOffset t at)
    (longer : length t ≤ length mid) (few : length mid ≤ length t + 16) (most : length mid ≤ offset_words t + 32 + 16 * 1088)
    (front : (k : ℕ) → k < length t → get_or mid k 0 ≡ get_or t k 0) (put : new ≡ set mid at place)
    (after : offset_words t ≤ place) (fits : place + 16 ≤ length mid) where
  -- Its position is among the offsets.
  inside : at < offset_words t
  inside = let o = own there in omega (arith, o, there)

  len : length new ≡ length mid
  len = ap (λ (l : List ℕ). length l) put ∙ length-set mid at place

  here : offset_at new at ≡ place
  here =
      let m = a.least in
      let f = a.few in
      ap (λ (w : ℕ). w % 2 ^ 32) (ap (λ (l : List ℕ). get_or l at 0) put
      ∙ get_or-set_at mid at at place 0 refl (omega (arith, inside, m, longer)))
      ∙ omega (arith, fits, most, f)

  kept : (k : ℕ) → (k ≡ at → ⊥) → k < length t → get_or new k 0 ≡ get_or t k 0
  kept k n l = ap (λ (l : List ℕ). get_or l k 0) put ∙ (get_or-set_other mid at k place 0 n ∙ front k l)

  as_many : offset_words new ≡ offset_words t
  as_many = ap (λ (w : ℕ). w % 2 ^ 32) (kept 0 (λ e. omega (arith, e, some)) (let m = a.least in omega (arith, m)))

  same_word : (k : ℕ) → offset_words t ≤ k → k < length t → get_or new k 0 ≡ get_or t k 0
  same_word k l h = kept k (λ e. omega (arith, e, inside, l)) h

  old_place : (b : ℕ) → (b ≡ at → ⊥) → b < 1088 → place_in new b ≡ place_in t b
  old_place b n l =
      let o = own there in
      let s = a.some in
      let m = a.least in
      same_place t new b as_many (ap (λ (w : ℕ). w % 2 ^ 32)
      (kept (min b (offset_words t - 1)) (λ e. n (omega (arith, e, o, l, there))) (omega (arith, m, s))))

  new_place : place_in new at ≡ place
  new_place = place_inside new at (let e = as_many in let i = inside in omega (arith, e, i)) ∙ here

  set_above : (b : ℕ) → b < 1088 → offset_words new ≤ place_in new b
  set_above b l = elim (cases_eq b at) [
    | inl q ↦ (let e : place_in new b ≡ place = ap (λ (n : ℕ). place_in new n) q ∙ new_place in omega (arith, e, as_many, after))
    | inr n ↦ (let e = old_place b n l in let p = a.above b l in omega (arith, e, p, as_many))
  ]

  set_placed : (b : ℕ) → b < 1088 → place_in new b + 16 ≤ length new
  set_placed b l = elim (cases_eq b at) [
    | inl q ↦ (let e : place_in new b ≡ place = ap (λ (n : ℕ). place_in new n) q ∙ new_place in omega (arith, e, len, fits))
    | inr n ↦ (let e = old_place b n l in let p = a.placed b l in omega (arith, e, p, len, longer))
  ]

  pub sets_block : (bits : ℕ → Bool)
      → ((c : ℕ) → c / 1024 ≡ at → nat_eq (bit_at (get_or mid (place + c / 64 % 16) 0) (c % 64)) 1 ≡ bits c)
      → SetsBlock t new at bits
  sets_block bits written =
      let s = a.some in
      let m = a.least in
      let f = a.few in record {
        tables = record {
          some = omega (arith, as_many, s);
          few = omega (arith, as_many, f);
          least = omega (arith, as_many, m, len, longer);
          most = omega (arith, as_many, len, most);
          above = set_above;
          placed = set_placed;
          none = λ k h. ap (λ (n : ℕ). get_or new (n + 16 + k) 0) as_many
              ∙ (same_word (offset_words t + 16 + k) (omega arith) (omega (arith, m, h)) ∙ a.none k h);
          all = λ k h. ap (λ (n : ℕ). get_or new (n + 32 + k) 0) as_many
              ∙ (same_word (offset_words t + 32 + k) (omega arith) (omega (arith, m, h)) ∙ a.all k h);
        };
        offsets = as_many;
        few = omega (arith, len, few, some);
        others = old_place;
        kept = λ c n h.
            let p = a.placed (c / 1024) (omega arith) in
            let q = a.above (c / 1024) (omega arith) in
            bit_by_place new c (place_in t (c / 1024)) (old_place (c / 1024) n (omega arith))
            ∙ ap (λ (w : ℕ). nat_eq (bit_at w (c % 64)) 1)
            (same_word (place_in t (c / 1024) + c / 64 % 16) (omega (arith, q)) (omega (arith, p)));
        set = λ c q. bit_by_place new c place (ap (λ (n : ℕ). place_in new n) q ∙ new_place)
            ∙ (ap (λ (w : ℕ). nat_eq (bit_at w (c % 64)) 1) (ap (λ (l : List ℕ). get_or l (place + c / 64 % 16) 0) put
            ∙ get_or-set_other mid at (place + c / 64 % 16) place 0 (λ e. omega (arith, e, inside, after))) ∙ written c q);
      }

-- A block is made full.
pub sets_full : (t new : List ℕ) (at : ℕ) → IsFilling t at → 0 < at → at < 1088 → new ≡ set t at (offset_words t + 32)
    → SetsBlock t new at (λ c. true)
sets_full t new at f some there put =
    let a = f.tables in
    let m = a.least in
    sets_block t t new at (offset_words t + 32) a some there f.own (omega arith) (omega arith) a.most (λ k h. refl) put
    (omega arith) (omega (arith, m)) (λ c. true)
    (λ c q. bit_of_uniform true _ (c % 64) (a.all (c / 64 % 16) (omega arith)) (omega arith))

-- A block gets sixteen words of its own, which are appended as zeros and then written.
pub sets_own : (t longer mid new : List ℕ) (bits : ℕ → Bool) (at place n len : ℕ) → IsFilling t at → 0 < at → at < 1088
    → length t ≡ len → place ≡ len → n ≡ place + 16 → longer ≡ take n t ++ replicate (n - len) 0 → length mid ≡ length longer
    → ((k : ℕ) → k < place → get_or mid k 0 ≡ get_or longer k 0)
    → ((c : ℕ) → nat_eq (bit_at (get_or mid (place + c / 64 % 16) 0) (c % 64)) 1 ≡ bits c)
    → new ≡ set mid at place → SetsBlock t new at bits
sets_own t longer mid new bits at place n len f some there count is size grown as_long kept written put =
    let a = f.tables in
    let m = a.least in
    let r = f.few in
    let zeros : List ℕ = replicate (n - len) 0 in
    let more : longer ≡ t ++ zeros = grown ∙ ap (λ (l : List ℕ). l ++ zeros) (take_all n t (omega (arith, count, is, size))) in
    let long : length mid ≡ length t + 16 = as_long ∙ (ap (λ (l : List ℕ). length l) more
    ∙ (length-append t zeros ∙ (let z = length-replicate {A = ℕ} (n - len) 0 in omega (arith, z, count, is, size)))) in
    sets_block t mid new at place a some there f.own (omega (arith, long)) (omega (arith, long)) (omega (arith, long, r, there, some))
    (λ k h. kept k (omega (arith, h, count, is)) ∙ (ap (λ (l : List ℕ). get_or l k 0) more ∙ get_or_append_left t zeros 0 k h)) put
    (omega (arith, count, is, m)) (omega (arith, long, count, is)) bits (λ c q. written c)

-- A block of equal bits.
pub uniform_block : (t new : List ℕ) (bits : ℕ → Bool) (at : ℕ) (value : Bool) → SetsBlock t new at (λ c. value)
    → ((c : ℕ) → bits c ≡ value) → SetsBlock t new at bits
uniform_block t new bits at value s all = record {
  tables = s.tables;
  offsets = s.offsets;
  few = s.few;
  others = s.others;
  kept = s.kept;
  set = λ c q. s.set c q ∙ sym (all c);
}

-- A block that is empty stays so.
pub sets_empty : (t : List ℕ) (at : ℕ) → IsFilling t at → 0 < at → at < 1088 → SetsBlock t t at (λ c. false)
sets_empty t at f some there = record {
  tables = f.tables;
  offsets = refl;
  few = omega arith;
  others = λ b n l. refl;
  kept = λ c n h. refl;
  set = λ c q. empty_block t c f.tables (ap (λ (n : ℕ). place_in t n) q ∙ f.empty at some (omega arith) there);
}

-- Sixteen words among others are replaced.
module _ (t out : List ℕ) (at n : ℕ) (there : at + 16 ≤ length t) (len : length out ≡ 16) (size : n ≡ 16) where
  abbrev back : List ℕ
  back = drop n (drop at t)

  abbrev pub replaced : List ℕ
  replaced = take at t ++ (out ++ back)

  front_long : length (take at t) ≡ at
  front_long = length-take-le at t (omega (arith, there))

  pub replaced_long : length replaced ≡ length t
  replaced_long =
      let front = front_long in
      let past = length-drop at t in
      let last = length-drop n (drop at t) in
      let rest = length-append out back in
      length-append (take at t) (out ++ back) ∙ omega (arith, front, past, last, rest, len, there, size)

  pub replaced_before : (k : ℕ) → k < at → get_or replaced k 0 ≡ get_or t k 0
  replaced_before k h =
      let front = front_long in
      get_or_append_left (take at t) (out ++ back) 0 k (omega (arith, front, h)) ∙ get_or-take at t k 0 h

  behind : (k : ℕ) → get_or replaced (at + k) 0 ≡ get_or (out ++ back) k 0
  behind k = get_or-append_right (take at t) (out ++ back) at (at + k) 0 front_long (omega arith)
      ∙ ap (λ (i : ℕ). get_or (out ++ back) i 0) (omega arith)

  pub replaced_in : (k : ℕ) → k < 16 → get_or replaced (at + k) 0 ≡ get_or out k 0
  replaced_in k h = behind k ∙ get_or_append_left out back 0 k (omega (arith, len, h))

  pub replaced_after : (k : ℕ) → at + 16 ≤ k → get_or replaced k 0 ≡ get_or t k 0
  replaced_after k h =
      let far : at + (k - at) ≡ k = omega (arith, h) in
      ap (λ (i : ℕ). get_or replaced i 0) (sym far) ∙ (behind (k - at)
      ∙ (get_or-append_right out back 16 (k - at) 0 len (omega (arith, h))
      ∙ (get_or-drop n (drop at t) (k - at - 16) 0
      ∙ (get_or-drop at t (n + (k - at - 16)) 0 ∙ ap (λ (i : ℕ). get_or t i 0) (omega (arith, h, size))))))

-- The words of the block of U+0000 are written.
module _ (t new : List ℕ) (bits : ℕ → Bool) (f : IsFilling t 0) (len : length new ≡ length t)
    (written : (c : ℕ) → nat_eq (bit_at (get_or new (offset_words t + c / 64 % 16) 0) (c % 64)) 1 ≡ bits c)
    (before : (k : ℕ) → k < offset_words t → get_or new k 0 ≡ get_or t k 0)
    (after : (k : ℕ) → offset_words t + 16 ≤ k → get_or new k 0 ≡ get_or t k 0) where
  first_as_many : offset_words new ≡ offset_words t
  first_as_many = let s = f.tables.some in ap (λ (w : ℕ). w % 2 ^ 32) (before 0 s)

  first_place : (b : ℕ) → place_in new b ≡ place_in t b
  first_place b =
      let s = f.tables.some in
      let k : ℕ = min b (offset_words t - 1) in
      same_place t new b first_as_many (ap (λ (w : ℕ). w % 2 ^ 32) (before k (omega (arith, s))))

  pub sets_first : SetsBlock t new 0 bits
  sets_first =
      let a = f.tables in
      let s = a.some in
      let w = a.few in
      let l = a.least in
      let m = a.most in record {
        tables = record {
          some = omega (arith, first_as_many, s);
          few = omega (arith, first_as_many, w);
          least = omega (arith, first_as_many, l, len);
          most = omega (arith, first_as_many, m, len);
          above = λ b h. (let e = first_place b in let p = a.above b h in omega (arith, e, p, first_as_many));
          placed = λ b h. (let e = first_place b in let p = a.placed b h in omega (arith, e, p, len));
          none = λ k h. ap (λ (n : ℕ). get_or new (n + 16 + k) 0) first_as_many ∙ (after (offset_words t + 16 + k) (omega arith) ∙ a.none k h);
          all = λ k h. ap (λ (n : ℕ). get_or new (n + 32 + k) 0) first_as_many ∙ (after (offset_words t + 32 + k) (omega arith) ∙ a.all k h);
        };
        offsets = first_as_many;
        few = omega (arith, len);
        others = λ b n h. first_place b;
        kept = λ c n h.
            let e = f.empty (c / 1024) (omega (arith, n)) (omega arith) (omega arith) in
            bit_by_place new c (offset_words t + 16) (first_place (c / 1024) ∙ e)
            ∙ (ap (λ (x : ℕ). nat_eq (bit_at x (c % 64)) 1) (after (offset_words t + 16 + c / 64 % 16) (omega arith))
            ∙ sym (bit_by_place t c (offset_words t + 16) e));
        set = λ c q. bit_by_place new c (offset_words t) (first_place (c / 1024) ∙ (ap (λ (b : ℕ). place_in t b) q ∙ place_of_first t))
            ∙ written c;
      }

-- No word of a run is written.
pub none_more : (from word : ℕ) (words : List ℕ) (k : ℕ) → get_or words k 0 ≡ cond (between from from k) word (get_or words k 0)
none_more from word words k = elim (cases_lt k from) [
  | inl h ↦ sym (rw (between_before from from k h) refl)
  | inr h ↦ sym (rw (between_after from from k h) refl)
]

-- One more word of a run is written.
pub one_more : (from next word : ℕ) (first words : List ℕ) → from ≤ next → next < length words
    → ((k : ℕ) → get_or words k 0 ≡ cond (between from next k) word (get_or first k 0))
    → (k : ℕ) → get_or (set words next word) k 0 ≡ cond (between from (next + 1) k) word (get_or first k 0)
one_more from next word first words l there before k = elim (cases_eq k next) [
  | inl q ↦ get_or-set_at words next k word 0 q there
      ∙ sym (rw (between_in from (next + 1) k (omega (arith, l, q)) (omega (arith, q))) refl)
  | inr n ↦ get_or-set_other words next k word 0 n
      ∙ (before k ∙ ap (λ (b : Bool). cond b word (get_or first k 0)) (between_more from next k n))
]

-- The blocks from `from` to before `to` are made full.
module _ (t new : List ℕ) (from to : ℕ) (a : AreTables t) (some : 0 < from) (order : from ≤ to) (there : to ≤ 1088)
    (first : HasOffset t (from - 1)) (last : HasOffset t to) (len : length new ≡ length t)
    (full : (k : ℕ) → get_or new k 0 ≡ cond (between from (min to (offset_words t)) k) (offset_words t + 32) (get_or t k 0)) where
  -- The position of a block is in the run if the block is.
  position_in : (b : ℕ) → from ≤ b → b < to
      → (from ≤ min b (offset_words t - 1)) × (min b (offset_words t - 1) < min to (offset_words t))
  position_in b l h =
      let s = a.some in
      let i = inside_first in
      (omega (arith, l, h, i, there), omega (arith, l, h, s))
    where
      inside_first : min (from + 1) 1088 ≤ offset_words t
      inside_first = let i = first (omega (arith, some, order, there)) in omega (arith, i, some)

  position_after : (b : ℕ) → to ≤ b → b < 1088 → min to (offset_words t) ≤ min b (offset_words t - 1)
  position_after b l h = let o = last (omega (arith, l, h)) in omega (arith, l, h, o)

  run_as_many : offset_words new ≡ offset_words t
  run_as_many = ap (λ (w : ℕ). w % 2 ^ 32) (full 0 ∙ cond-false _ (offset_words t + 32) (get_or t 0 0)
      (between_before from (min to (offset_words t)) 0 some))

  inside_run : (b : ℕ) → from ≤ b → b < to → place_in new b ≡ offset_words t + 32
  inside_run b l h =
      let k : ℕ = min b (offset_words t - 1) in
      let p = position_in b l h in
      let f = a.few in
      ap (λ (n : ℕ). offset_at new (min b (n - 1))) run_as_many
      ∙ (ap (λ (w : ℕ). w % 2 ^ 32) (full k ∙ cond-true _ (offset_words t + 32) (get_or t k 0)
      (between_in from (min to (offset_words t)) k p.0 p.1)) ∙ omega (arith, f))

  pub before_run : (b : ℕ) → b < from → place_in new b ≡ place_in t b
  before_run b l =
      let k : ℕ = min b (offset_words t - 1) in
      same_place t new b run_as_many
      (ap (λ (w : ℕ). w % 2 ^ 32) (full k ∙ cond-false _ (offset_words t + 32) (get_or t k 0)
      (between_before from (min to (offset_words t)) k (omega (arith, l)))))

  pub after_run : (b : ℕ) → to ≤ b → b < 1088 → place_in new b ≡ place_in t b
  after_run b l h =
      let k : ℕ = min b (offset_words t - 1) in
      same_place t new b run_as_many
      (ap (λ (w : ℕ). w % 2 ^ 32) (full k ∙ cond-false _ (offset_words t + 32) (get_or t k 0)
      (between_after from (min to (offset_words t)) k (position_after b l h))))

  kept_word : (k : ℕ) → offset_words t ≤ k → get_or new k 0 ≡ get_or t k 0
  kept_word k l = full k ∙ cond-false _ (offset_words t + 32) (get_or t k 0)
      (between_after from (min to (offset_words t)) k (omega (arith, l)))

  run_above : (b : ℕ) → b < 1088 → offset_words new ≤ place_in new b
  run_above b h = let p = a.above b h in
      elim (cases_lt b from) [
        | inl l ↦ (let e = before_run b l in omega (arith, e, p, run_as_many))
        | inr l ↦ elim (cases_lt b to) [
          | inl k ↦ (let e = inside_run b l k in omega (arith, e, run_as_many))
          | inr k ↦ (let e = after_run b k h in omega (arith, e, p, run_as_many))
        ]
      ]

  run_placed : (b : ℕ) → b < 1088 → place_in new b + 16 ≤ length new
  run_placed b h = let p = a.placed b h in
      elim (cases_lt b from) [
        | inl l ↦ (let e = before_run b l in omega (arith, e, p, len))
        | inr l ↦ elim (cases_lt b to) [
          | inl k ↦ (let e = inside_run b l k in let m = a.least in omega (arith, e, m, len))
          | inr k ↦ (let e = after_run b k h in omega (arith, e, p, len))
        ]
      ]

  pub run_offsets : offset_words new ≡ offset_words t
  run_offsets = run_as_many

  pub run_tables : AreTables new
  run_tables =
      let s = a.some in
      let w = a.few in
      let l = a.least in
      let m = a.most in record {
        some = omega (arith, run_as_many, s);
        few = omega (arith, run_as_many, w);
        least = omega (arith, run_as_many, l, len);
        most = omega (arith, run_as_many, m, len);
        above = run_above;
        placed = run_placed;
        none = λ k h. ap (λ (n : ℕ). get_or new (n + 16 + k) 0) run_as_many ∙ (kept_word (offset_words t + 16 + k) (omega arith) ∙ a.none k h);
        all = λ k h. ap (λ (n : ℕ). get_or new (n + 32 + k) 0) run_as_many ∙ (kept_word (offset_words t + 32 + k) (omega arith) ∙ a.all k h);
      }

  kept_bit : (c : ℕ) → c < 1088 * 1024 → place_in new (c / 1024) ≡ place_in t (c / 1024) → between from to (c / 1024) ≡ false
      → bit_in new c ≡ (bit_in t c || between from to (c / 1024))
  kept_bit c h same n =
      let p = a.above (c / 1024) (omega arith) in
      bit_by_place new c (place_in t (c / 1024)) same
      ∙ (ap (λ (w : ℕ). nat_eq (bit_at w (c % 64)) 1) (kept_word (place_in t (c / 1024) + c / 64 % 16) (omega (arith, p)))
      ∙ sym (rw n (or_false _)))

  pub run_bits : (c : ℕ) → c < 1088 * 1024 → bit_in new c ≡ (bit_in t c || between from to (c / 1024))
  run_bits c h = elim (cases_lt (c / 1024) from) [
    | inl l ↦ kept_bit c h (before_run (c / 1024) l) (between_before from to (c / 1024) l)
    | inr l ↦ elim (cases_lt (c / 1024) to) [
      | inl k ↦ full_block new c run_tables (inside_run (c / 1024) l k ∙ (let e = run_as_many in omega (arith, e)))
          ∙ sym (rw (between_in from to (c / 1024) l k) (or_true _))
      | inr k ↦ kept_bit c h (after_run (c / 1024) k (omega (arith, h))) (between_after from to (c / 1024) k)
    ]
  ]

-- What is known of the words after the offsets of a run of blocks are written.
pub record FillsRun (t new : List ℕ) (from to : ℕ) : Type 0 where
  pub tables : AreTables new
  pub offsets : offset_words new ≡ offset_words t
  pub after : (b : ℕ) → to ≤ b → b < 1088 → place_in new b ≡ place_in t b
  pub bits : (c : ℕ) → c < 1088 * 1024 → bit_in new c ≡ (bit_in t c || between from to (c / 1024))

pub fills_run : (t had new : List ℕ) (from to last n : ℕ) → AreTables t → 0 < from → from ≤ to → to ≤ 1088 → HasOffset t (from - 1)
    → HasOffset t to → n ≡ offset_words t → last ≡ min to n → had ≡ t → length new ≡ length had
    → ((k : ℕ) → get_or new k 0 ≡ cond (between from last k) (n + 32) (get_or had k 0)) → FillsRun t new from to
fills_run t had new from to last n a some order there before after count end same long full =
    let len : length new ≡ length t = long ∙ ap (λ (l : List ℕ). length l) same in
    let end_is : last ≡ min to (offset_words t) = end ∙ ap (λ (m : ℕ). min to m) count in
    let run : (k : ℕ) → get_or new k 0 ≡ cond (between from (min to (offset_words t)) k) (offset_words t + 32) (get_or t k 0) = λ k.
    full k ∙ (ap (λ (m : ℕ). cond (between from m k) (n + 32) (get_or had k 0)) end_is
    ∙ (ap (λ (m : ℕ). cond (between from (min to (offset_words t)) k) (m + 32) (get_or had k 0)) count
    ∙ ap (λ (l : List ℕ). cond (between from (min to (offset_words t)) k) (offset_words t + 32) (get_or l k 0)) same)) in record {
      tables = run_tables t new from to a some order there before after len run;
      offsets = run_offsets t new from to a some order there before after len run;
      after = after_run t new from to a some order there before after len run;
      bits = run_bits t new from to a some order there before after len run;
    }
