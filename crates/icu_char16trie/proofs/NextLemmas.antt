-- How the next node is found.
use Rattle.icu_zerovec.specs.Slice.{slice_values}
use Rattle.std.proofs.Common.{◌≡◌, ℕ, ◌+◌, ◌-◌, ◌/◌, ◌%◌, ◌<◌, ◌≤◌, List, [], ◌∷◌, ◌++◌, Option, Some, None, Bool, true, false, refl, sym, ap, subst, ◌∙◌, arith, length, take, slice_get, reverse, inl, inr}
use Rattle.std.proofs.lemmas.Bool.{lt-ltb, le-ltb}
use Rattle.std.proofs.lemmas.Option.{none-some, slice_get-get_or}
use Rattle.std.specs.Prelude.{◌⊎◌, MatchOption, is_some}
use Rattle.std.specs.Str.{IsCharBoundary}
use Rattle.icu_char16trie.specs.Grammar.{Holds, final, plain, valued, Matches}
use Rattle.icu_char16trie.specs.Numbers.{node_end, end_by}
use Rattle.icu_char16trie.specs.UnitMap.{UnitMap, under}
use Rattle.icu_char16trie.specs.UnitPlaces.{Stands, value_by}
use Rattle.icu_char16trie.specs.Pending.{ArmsHold, PartsGive, NodeGives, IsPending, IsOver, weight, work_left}
use Rattle.icu_char16trie.specs.Inside.Cuts.{AreCuts, IsCut}
use Rattle.icu_char16trie.specs.Inside.Walking.{own}
use Rattle.icu_char16trie.specs.Inside.Opening.{bytes_of, IsFrom, IsPast, Opens, GoesToNode, Keeps}
use Rattle.icu_char16trie.specs.declared.pending.BranchPart.{BranchPart}
use Rattle.icu_char16trie.specs.declared.pending.Pending.{Pending}
use Rattle.icu_char16trie.specs.declared.place.Place.TheVariants.{Node}
use Rattle.icu_char16trie.proofs.NodeLemmas.{holds_below, holds_within}
use Rattle.icu_char16trie.proofs.OpeningLemmas.{one_pushed, arms_long, from_later}
use Rattle.icu_char16trie.proofs.WorkLemmas.{work_push}

-- What the lead unit says about a node's entries: its own, and those of the match node.
pub record ByLead (units : List ℕ) (p lead : ℕ) (entries : UnitMap) : Type 0 where
  pub rest : UnitMap
  pub is : entries ≡ own (value_by units (p + 1) lead) ++ rest
  pub last : 0x8000 ≤ lead → rest ≡ []
  pub node : lead < 0x8000 → Matches units (node_end (p + 1) lead) (lead % 64) rest

plain_end : (p lead : ℕ) → lead < 0x40 → node_end p lead ≡ p
unfolding end_by
plain_end p lead h = rw (lt-ltb (lead / 64 - 1) 0x100 (omega arith)) refl

holds_by : (units : List ℕ) {p : ℕ} {m : UnitMap} → Holds units p m → (lead : ℕ) → slice_get units p ≡ Some lead → ByLead units p lead m
holds_by units (final p lead' n m g big s e) lead h =
    let same : lead' ≡ lead = cc in
    let big' : 0x8000 ≤ lead = omega arith in
    record {
      rest = [];
      is = rw (le-ltb lead 0x40 (omega arith), le-ltb lead 0x8000 big', ← same, s) e;
      last = λ _. refl;
      node = λ small. absurd (omega arith);
    }
holds_by units (plain p lead' m g small node) lead h =
    let same : lead' ≡ lead = cc in
    let small' : lead < 0x40 = omega arith in
    let low : lead % 64 ≡ lead = omega arith in
    record {
      rest = m;
      is = rw (lt-ltb lead 0x40 small') refl;
      last = λ big. absurd (omega arith);
      node = λ _. rw (plain_end (p + 1) lead small', low, ← same) node;
    }
holds_by units (valued p lead' n m rest g big small s node e) lead h =
    let same : lead' ≡ lead = cc in
    record {
      rest = rest;
      is = rw (le-ltb lead 0x40 (omega arith), lt-ltb lead 0x8000 (omega arith), ← same, s) e;
      last = λ big'. absurd (omega arith);
      node = λ _. rw (← same) node;
    }

pub stands_by : (units : List ℕ) (p lead : ℕ) (entries : UnitMap) → Stands units (Node p) entries → slice_get units p ≡ Some lead
    → ByLead units p lead entries
stands_by units p lead entries (inl h) g = holds_by units h lead g
stands_by units p lead entries (inr h) g = absurd (none-some _ (sym h.0 ∙ g))

pub stands_absent : (units : List ℕ) (p : ℕ) (entries : UnitMap) → Stands units (Node p) entries → slice_get units p ≡ None → entries ≡ []
stands_absent units p entries (inl h) g = absurd (holds_within units h g)
stands_absent units p entries (inr h) g = h.1

-- Strictly less work is left, and so not more.
pub work_by : {A : Type 0} (new old : ℕ) (item : Option A) → new < old → MatchOption item (new ≤ old) (λ x. new < old)
work_by new old None h = omega (arith, h)
work_by new old (Some x) h = h

-- ---- a node is left

-- `new` is `old` without its node.
pub record IsWithout (old new : Pending) : Type 0 where
  pub units : new.units ≡ old.units
  pub spelling : new.spelling ≡ old.spelling
  pub parts : new.parts.items ≡ old.parts.items
  pub node : new.node ≡ None

pub without_cuts : (old new : Pending) → IsWithout old new → IsCut old → IsCut new
without_cuts old new w c = rw (w.spelling, w.parts) c

-- The node that is at k or later is this one.
pub from_here : (s : Pending) (k p : ℕ) → s.node ≡ Some p → IsFrom k s → (k ≤ p) × (p < length (slice_values s.units))
from_here s k p n f = let same : f.0 ≡ p = cc (n, f.1) in (omega (arith, f.2), omega (arith, f.3))

pub from_none : (s : Pending) (k : ℕ) → s.node ≡ None → IsFrom k s → ⊥
from_none s k n f = none-some _ (sym n ∙ f.1)

pub from_gone : (s : Pending) (k p : ℕ) → s.node ≡ Some p → slice_get (slice_values s.units) p ≡ None → IsFrom k s → ⊥
from_gone s k p n g f = none-some _ (sym g ∙ slice_get-get_or (slice_values s.units) p 0 (from_here s k p n f).1)

pub not_both : ◌≡◌ {A = Bool} false true → ⊥
not_both h = cc

-- ---- the next node

-- The next part is taken off, and the text is cut back to its mark.
pub record TakesPart (old : Pending) (part : BranchPart) (mid : Pending) : Type 0 where
  pub none : old.node ≡ None
  pub units : mid.units ≡ old.units
  pub node : mid.node ≡ old.node
  pub parts : old.parts.items ≡ mid.parts.items ++ part ∷ []
  pub text : bytes_of mid.spelling ≡ take part.mark.len (bytes_of old.spelling)
  pub held : mid.spelling.held ≡ part.mark.held

pub part_cut : (old : Pending) (rest : List BranchPart) (part : BranchPart) → old.parts.items ≡ rest ++ part ∷ [] → IsCut old
    → IsCharBoundary (bytes_of old.spelling) part.mark.len × AreCuts (take part.mark.len (bytes_of old.spelling)) (reverse rest)
part_cut old rest part e c = rw (one_pushed rest old.parts.items part e) at c

taken_work : (old mid : Pending) (part : BranchPart) → TakesPart old part mid
    → work_left old ≡ weight (length (slice_values old.units)) part.place + work_left mid
taken_work old mid part t = rw (t.units, t.node, t.parts, t.none)
    (omega (arith, work_push (length (slice_values old.units)) mid.parts.items part))

part_work : (old mid new : Pending) (part : BranchPart) → TakesPart old part mid
    → Opens mid part.place (ArmsHold (slice_values mid.units) part.place part.count) new → work_left new < work_left old
part_work old mid new part t o =
    let less : work_left new < weight (length (slice_values old.units)) part.place + work_left mid =
    subst (λ z. work_left new < weight (length (slice_values z)) part.place + work_left mid) t.units o.work in
    omega (arith, taken_work old mid part t, less)

pub part_keeps : (old mid new : Pending) (part : BranchPart) → TakesPart old part mid
    → Opens mid part.place (ArmsHold (slice_values mid.units) part.place part.count) new → IsCut old → Keeps old new
part_keeps old mid new part t o c = record {
  units = o.units ∙ t.units;
  entries = λ m h.
      let no_first : h.first ≡ [] = rw t.none at h.node in
      let p = rw (one_pushed mid.parts.items old.parts.items part t.parts) at h.parts in
      let is : m ≡ under p.0 p.1 ++ p.2 = h.is ∙ ap (λ z. z ++ h.others) no_first ∙ p.6 in
      rw is (o.entries p.0 p.1 p.2 (rw t.units p.3) (rw (t.text, t.held) p.4) (rw (t.units, t.text) p.7));
  cuts = o.cuts (rw t.text (part_cut old mid.parts.items part t.parts c).1);
  work = omega (arith, part_work old mid new part t o);
}

-- A part leads to a node.
pub part_leads : (old mid new : Pending) (part : BranchPart) → TakesPart old part mid
    → Opens mid part.place (ArmsHold (slice_values mid.units) part.place part.count) new → GoesToNode old new
part_leads old mid new part t o m h k past =
    let p = rw (one_pushed mid.parts.items old.parts.items part t.parts) at h.parts in
    by past (o.leads p.1 (rw t.units p.3))
  where
    by : IsPast k old → IsFrom (part.place + 1) new → (k ≡ 0) ⊎ IsFrom k new
    by (inl e) f = inl e
    by (inr (inl e)) f = inr (from_later (part.place + 1) k new (omega (arith, e.0)) f)
    by (inr (inr g)) f = absurd (from_none old k t.none g)

pub is_nothing : (o : Option ℕ) → is_some o ≡ false → o ≡ None
is_nothing None h = refl
is_nothing (Some x) h = absurd (not_both (sym h))

-- ---- nothing is left

pub over_gives : (s : Pending) (m : UnitMap) → IsOver s → IsPending s m → m ≡ []
over_gives s m o h =
    let no_first : h.first ≡ [] = rw o.0 at h.node in
    let no_others : h.others ≡ [] = rw o.1 at h.parts in
    h.is ∙ ap (λ z. z ++ h.others) no_first ∙ no_others

-- ---- a trie has no more nodes on one path than units

-- A part needs at least two units.
parts_short : (units text : List ℕ) (parts : List BranchPart) (m : UnitMap) → length units < 2 → PartsGive units text parts m → m ≡ []
parts_short units text [] m few p = p
parts_short units text (part ∷ parts) m few p = absurd (omega (arith, few, arms_long units part.place part.count p.1 p.3))

first_short : (units : List ℕ) (node : Option ℕ) (key : List ℕ) (m : UnitMap) → NodeGives units node key m
    → (node ≡ None) ⊎ (length units ≡ 0) → m ≡ []
first_short units None key m h short = h
first_short units (Some p) key m h (inl e) = absurd (none-some _ (sym e))
first_short units (Some p) key m (entries, inl node, is) (inr e) = absurd (omega (arith, e, holds_below units node))
first_short units (Some p) key m (entries, inr gone, is) (inr e) = is ∙ ap (under key) gone.1

short_gives : (s : Pending) (m : UnitMap) → IsPending s m → length (slice_values s.units) < 2
    → (s.node ≡ None) ⊎ (length (slice_values s.units) ≡ 0) → m ≡ []
short_gives s m h few short =
    h.is ∙ ap (λ z. z ++ h.others) (first_short (slice_values s.units) s.node h.key h.first h.node short)
    ∙ parts_short (slice_values s.units) (bytes_of s.spelling) (reverse s.parts.items) h.others few h.parts

-- Once as many nodes were opened as there are units, nothing is left.
pub past_gives : (s : Pending) (m : UnitMap) (k : ℕ) → length (slice_values s.units) ≤ k → IsPending s m → IsPast k s → m ≡ []
past_gives s m k all h (inl e) = short_gives s m h (omega (arith, e, all)) (inr (omega (arith, e, all)))
past_gives s m k all h (inr (inl e)) = short_gives s m h (omega (arith, e.0, all)) (inl e.1)
past_gives s m k all h (inr (inr f)) = absurd (omega (arith, f.2, f.3, all))
