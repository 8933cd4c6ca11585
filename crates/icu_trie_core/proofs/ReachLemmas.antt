-- How far a value extends, block by block.
use Rattle.std.proofs.Common.{◌≡◌, inl, inr, ℕ, ◌+◌, ◌-◌, ◌<◌, ◌≤◌, Option, Some, None, ◌∙◌, min, arith}
use Rattle.std.proofs.lemmas.Bool.{cases_lt}
use Rattle.icu_trie_core.specs.Inside.Walk.{Holds, EndsAt, BreaksOff, Reaches}

-- The range start..base is empty.
pub Holds-nothing : {A : Type 0} (f : ℕ → Option A) (value : A) {start base : ℕ} → base ≤ start → Holds f start base value
Holds-nothing f value le = λ u a b. absurd (omega (arith, le, a, b))

-- A block of len positions at base, in which f equals g. The value reached the block and continues
-- at position `from` of it.
module _ {A : Type 0} {f g : ℕ → Option A} {start base len from : ℕ} {value : A} (before : Holds f start base value)
    (agree : (i : ℕ) → i < len → f (base + i) ≡ g i) (from_is : from ≡ start - base) where
  -- The value continues up to position k of the block.
  Holds-in_block : (k : ℕ) → k ≤ len → Holds g from k value → Holds f start (base + k) value
  Holds-in_block k most inside u a b = elim (cases_lt u base) [
    | inl p ↦ before u a p
    | inr p ↦
        let i : u ≡ base + (u - base) = omega (arith, p) in
        let lt : u - base < k = omega (arith, p, b) in
        rw i (agree (u - base) (omega (arith, lt, most)) ∙ inside (u - base) (omega (arith, a, from_is)) lt)
  ]

  -- The value continues over the whole block.
  pub Holds-over_block : (next reach : ℕ) → EndsAt g from len value reach → len ≤ reach → next ≤ base + len → Holds f start next value
  Holds-over_block next reach e whole fits u a b =
      Holds-in_block len (omega arith) (λ i c d. e.equal i c (omega (arith, whole, d))) u a (omega (arith, b, fits))

  -- The value ends in the block, or at the limit if the block ends there.
  pub EndsAt-by_block : (limit reach : ℕ) → base + len ≤ limit → (len ≤ reach → limit ≤ base + len) → EndsAt g from len value reach
      → EndsAt f start limit value (base + reach)
  EndsAt-by_block limit reach fits last e =
      let b = e.begun in
      let w = e.within in
      record {
        begun = omega (arith, b, from_is);
        within = omega (arith, fits, w);
        equal = Holds-in_block reach w e.equal;
        differs = λ early. elim (cases_lt reach len) [
          | inl lt ↦ rw (agree reach lt) (e.differs lt)
          | inr whole ↦ let at_limit = last whole in absurd (omega (arith, at_limit, whole, early))
        ];
      }

  -- The value ends in the block.
  pub EndsAt-in_block : (limit reach : ℕ) → base + len ≤ limit → reach < len → EndsAt g from len value reach
      → EndsAt f start limit value (base + reach)
  EndsAt-in_block limit reach fits lt e = EndsAt-by_block limit reach fits (λ no. absurd (omega (arith, no, lt))) e

  -- The run breaks off in the block.
  pub BreaksOff-in_block : (limit : ℕ) → base + len ≤ limit → BreaksOff g from len value → BreaksOff f start limit value
  BreaksOff-in_block limit fits e =
      let b = e.begun in
      let w = e.within in
      record {
        place = base + e.place;
        begun = omega (arith, b, from_is);
        within = omega (arith, fits, w);
        equal = Holds-in_block e.place (omega (arith, w)) e.equal;
        missing = agree e.place w ∙ e.missing;
      }

-- A block of len positions at base, in which f equals g. The value reached it.
module _ {A : Type 0} {f g : ℕ → Option A} {start base limit len : ℕ} {value : A} (came : Holds f start (min base limit) value)
    (agree : (i : ℕ) → i < len → f (base + i) ≡ g i) (begun : start ≤ base) (fits : base + len ≤ limit) where
  reached : Holds f start base value
  reached u a b = came u a (omega (arith, b, fits))

  -- The value ends in the block.
  pub EndsAt-in_step : (reach : ℕ) → reach < len → EndsAt g 0 len value reach → EndsAt f start limit value (base + reach)
  EndsAt-in_step reach early run = EndsAt-in_block reached agree (omega (arith, begun)) limit reach fits early run

  -- The run breaks off in the block.
  pub BreaksOff-in_step : BreaksOff g 0 len value → BreaksOff f start limit value
  BreaksOff-in_step run = BreaksOff-in_block reached agree (omega (arith, begun)) limit fits run

  -- The value continues over the block.
  pub Holds-over_step : Holds g 0 len value → (next : ℕ) → next ≤ base + len → Holds f start next value
  Holds-over_step holds next most u a b =
      Holds-in_block reached agree (omega (arith, begun)) len (omega arith) holds u a (omega (arith, b, most))

-- The value reached a position at which nothing is seen.
pub BreaksOff-at : {A : Type 0} {f : ℕ → Option A} {start base limit : ℕ} {value : A} → Holds f start (min base limit) value → start ≤ base
    → base < limit → f base ≡ None → BreaksOff f start limit value
BreaksOff-at {A} {f} {start} {base} came begun here none = record {
  place = base;
  begun = begun;
  within = here;
  equal = λ u a b. came u a (omega (arith, b, here));
  missing = none;
}

-- If the value extends from start to mid, its end seen from mid is its end seen from start.
pub Reaches-after : {A : Type 0} (f : ℕ → Option A) (start mid limit : ℕ) (value : A) (r : Option ℕ) → Holds f start mid value → start ≤ mid
    → Reaches f mid limit value r → Reaches f start limit value r
Reaches-after f start mid limit value None before le e =
    let b = e.begun in
    record {
      place = e.place;
      begun = omega (arith, b, le);
      within = e.within;
      equal = λ u a d. elim (cases_lt u mid) [ inl p ↦ before u a p | inr p ↦ e.equal u p d ];
      missing = e.missing;
    }
Reaches-after f start mid limit value (Some end) before le e =
    let b = e.begun in
    record {
      begun = omega (arith, b, le);
      within = e.within;
      equal = λ u a d. elim (cases_lt u mid) [ inl p ↦ before u a p | inr p ↦ e.equal u p d ];
      differs = e.differs;
    }
