-- How a walk moves from one entry to the next.
use Rattle.icu_zerovec.specs.Slice.{slice_values}
use Rattle.std.proofs.Common.{◌≡◌, ℕ, ℤ, ◌+◌, ◌-◌, ◌/◌, ◌%◌, ◌<◌, ◌≤◌, List, [], ◌∷◌, ◌++◌, Option, Some, None, Ok, Bool, true, false, refl, sym, ap, subst, ◌∙◌, arith, length, slice_get, append-nil, reverse, string_bytes, encode_utf8, inl, inr, String, Global}
use Rattle.std.specs.Prelude.{◌⊎◌, IfSome, nat_le, nat_lt}
use Rattle.std.proofs.lemmas.Bool.{le-ltb}
use Rattle.std.proofs.lemmas.Bool.Decides.{nat_tests}
use Rattle.std.proofs.lemmas.List.Sums.{sum_by-append}
use Rattle.std.proofs.lemmas.Option.{none-some, slice_get_within}
use Rattle.icu_char16trie.specs.Grammar.{Matches}
use Rattle.icu_char16trie.specs.Numbers.{node_end, end_by}
use Rattle.icu_char16trie.specs.UnitMap.{UnitMap, under}
use Rattle.icu_char16trie.specs.UnitPlaces.{Stands, value_by}
use Rattle.icu_char16trie.specs.Pending.{Spells, PartsGive, IsPending, IsOver, IsNodeValue, parts_work, weight, work_left}
use Rattle.icu_char16trie.specs.Walk.{FrontGives, GivesFrom, WalkGives, IsWalked, IsValueOfNode, Gives, Reaches, front_work, walk_text, walk_work, work_from}
use Rattle.icu_char16trie.specs.Inside.Opening.{bytes_of, GoesToNode, IsFrom, IsPast, Keeps}
use Rattle.icu_char16trie.specs.Inside.Walking.{IsNearFront, below, own, EndsKey, FindsEntry, IsOpened, IsPastFront, OpensFront, ReadsNode, TellsNode}
use Rattle.icu_char16trie.specs.declared.front.Front.{Front}
use Rattle.icu_char16trie.specs.declared.front.Front.TheVariants.{At, Match}
use Rattle.icu_char16trie.specs.declared.pending.BranchPart.{BranchPart}
use Rattle.icu_char16trie.specs.declared.pending.Pending.{Pending}
use Rattle.icu_char16trie.specs.declared.place.Place.{Place}
use Rattle.icu_char16trie.specs.declared.place.Place.TheVariants.{Nowhere, Node, Run}
use Rattle.icu_char16trie.specs.declared.spelling.LeadSurrogate.{LeadSurrogate}
use Rattle.icu_char16trie.specs.declared.walk.Walk.{Walk}
use Rattle.icu_char16trie.proofs.NextLemmas.{IsWithout, from_gone, from_here, not_both, over_gives, past_gives, stands_absent, stands_by, without_cuts, work_by}
use Rattle.icu_char16trie.proofs.NodeLemmas.{under_nil}
use Rattle.icu_char16trie.proofs.SpellingLemmas.{spelled_none, spelled_held, spells_nothing}
use Rattle.icu_char16trie.proofs.WorkLemmas.{weight_one, weight_some}

-- ---- a node is read

-- The node has no lead unit.
pub nothing_read : (old new : Pending) → IsWithout old new → ((m : UnitMap) (h : IsPending old m) → h.first ≡ [])
    → ((k : ℕ) → IsFrom k old → ⊥) → work_from new (At Nowhere) ≤ work_left old → ReadsNode old (At Nowhere) None new
nothing_read old new w none never less = record {
  units = w.units;
  entries = λ m h. record {
    key = h.key;
    first = [];
    others = h.others;
    spelled = rw w.spelling h.spelled;
    next = refl;
    parts = rw (w.units, w.spelling, w.parts) h.parts;
    is = h.is ∙ ap (λ z. z ++ h.others) (none m h);
  };
  some_value = tt;
  leads = λ _ k at. (first_one k at, refl);
  cuts = without_cuts old new w;
  near = tt;
  work = less;
}
  where
    first_one : (k : ℕ) → (k ≡ 0) ⊎ IsFrom k old → k + 1 ≡ 1
    first_one k (inl e) = omega (arith, e)
    first_one k (inr f) = absurd (never k f)

less_nowhere : (old new : Pending) (p : ℕ) → IsWithout old new → old.node ≡ Some p → work_from new (At Nowhere) < work_left old
less_nowhere old new p w n = rw (w.units, w.parts, n) (omega (arith, weight_some (length (slice_values old.units)) p))

pub absent_read : (old new : Pending) (p : ℕ) → IsWithout old new → old.node ≡ Some p → slice_get (slice_values old.units) p ≡ None
    → ReadsNode old (At Nowhere) None new
absent_read old new p w n g =
    nothing_read old new w
    (λ m h. let at = rw n at h.node in at.2 ∙ ap (under h.key) (stands_absent (slice_values old.units) p at.0 at.1 g))
    (λ k. from_gone old k p n g) (omega (arith, less_nowhere old new p w n))

below_gives : (units : List ℕ) (p lead : ℕ) (rest : UnitMap) → (0x8000 ≤ lead → rest ≡ [])
    → (lead < 0x8000 → Matches units (node_end p lead) (lead % 64) rest) → FrontGives units (below p lead) rest
below_gives units p lead rest last match = by (nat_le 0x8000 lead) refl
  where
    by : (b : Bool) → nat_le 0x8000 lead ≡ b → FrontGives units (below p lead) rest
    by true e = rw e (last (grind (arith, nat_tests)))
    by false e = rw e (match (grind (arith, nat_tests)))

-- A node without a value leads to a later match node.
below_past : (units : List ℕ) (p lead k : ℕ) → value_by units (p + 1) lead ≡ None → k ≤ p → p < node_end (p + 1) lead
    → IsPastFront (k + 1) (below (p + 1) lead)
below_past units p lead k none from behind = by (nat_le 0x8000 lead) refl
  where
    by : (b : Bool) → nat_le 0x8000 lead ≡ b → IsPastFront (k + 1) (below (p + 1) lead)
    by true e =
        let big : 0x8000 ≤ lead = grind (arith, nat_tests) in
        absurd (none-some _ (rw (le-ltb lead 0x40 (omega (arith, big)), le-ltb lead 0x8000 big) at (sym none)))
    by false e = rw e (omega (arith, from, behind))

from_le : (s : Pending) (k p : ℕ) → s.node ≡ Some p → (k ≡ 0) ⊎ IsFrom k s → k ≤ p
from_le s k p n (inl e) = omega (arith, e)
from_le s k p n (inr f) = (from_here s k p n f).0

below_work : (len p q lead : ℕ) → p < len → p < node_end q lead → front_work len (below q lead) < weight len p
below_work len p q lead within behind = by (nat_le 0x8000 lead) refl
  where
    by : (b : Bool) → nat_le 0x8000 lead ≡ b → front_work len (below q lead) < weight len p
    by true e = rw e (weight_some len p)
    by false e = rw e (weight_one len p (node_end q lead) within behind)

-- The units of a value come after its lead.
pub node_behind : (p lead : ℕ) → p < node_end (p + 1) lead
unfolding end_by
node_behind p lead = by (nat_lt (lead / 64 - 1) 0x100) (nat_lt (lead / 64 - 1) 0x1fe) refl refl
  where
    by : (a b : Bool) → nat_lt (lead / 64 - 1) 0x100 ≡ a → nat_lt (lead / 64 - 1) 0x1fe ≡ b → p < node_end (p + 1) lead
    by true b e f = rw e (omega arith)
    by false true e f = rw (e, f) (omega arith)
    by false false e f = rw (e, f) (omega arith)

-- What reading a node with or without a value returns.
node_tells : (value : Option ℤ) (key : List ℕ) (rest others m : UnitMap) (front : Front) (new : Pending)
    → m ≡ under key (own value ++ rest) ++ others
    → Spells (bytes_of new.spelling) new.spelling.held key → FrontGives (slice_values new.units) front rest
    → PartsGive (slice_values new.units) (bytes_of new.spelling) (reverse new.parts.items) others
    → TellsNode m value front new
node_tells None key rest others m front new e s f p =
    record { key = key; first = rest; others = others; spelled = s; next = f; parts = p; is = e }
node_tells (Some v) key rest others m front new e s f p = (
  key,
  under key rest ++ others,
  e ∙ ap (λ z. (z, v) ∷ (under key rest ++ others)) (append-nil key),
  s,
  record { key = key; first = rest; others = others; spelled = s; next = f; parts = p; is = refl },
)

node_has : (units : List ℕ) (p lead : ℕ) (value : Option ℤ) → slice_get units p ≡ Some lead → value ≡ value_by units (p + 1) lead
    → IfSome value (IsNodeValue units)
node_has units p lead None g e = tt
node_has units p lead (Some v) g e = (p, rw g (sym e))

pub lead_read : (old new : Pending) (p lead : ℕ) (front : Front) (value : Option ℤ) → IsWithout old new → old.node ≡ Some p
    → slice_get (slice_values old.units) p ≡ Some lead
    → front ≡ below (p + 1) lead → IsNearFront front → value ≡ value_by (slice_values old.units) (p + 1) lead → p < node_end (p + 1) lead
    → ReadsNode old front value new
lead_read old new p lead front value w n g at near is behind = record {
  units = w.units;
  entries = λ m h.
      let here = rw n at h.node in
      let b = stands_by (slice_values old.units) p lead here.0 here.1 g in
      let whole : m ≡ under h.key (own value ++ b.rest) ++ h.others =
      h.is ∙ ap (λ z. z ++ h.others) (here.2 ∙ ap (under h.key) (b.is ∙ ap (λ z. own z ++ b.rest) (sym is))) in
      let next : FrontGives (slice_values old.units) front b.rest =
      rw at (below_gives (slice_values old.units) (p + 1) lead b.rest b.last b.node) in
      node_tells value h.key b.rest h.others m front new whole (rw w.spelling h.spelled) (rw w.units next)
      (rw (w.units, w.spelling, w.parts) h.parts);
  some_value = node_has (slice_values old.units) p lead value g is;
  cuts = without_cuts old new w;
  leads = λ none k from. rw at (below_past (slice_values old.units) p lead k (sym is ∙ none) (from_le old k p n from) behind);
  near = near;
  work =
      let less = below_work (length (slice_values old.units)) p (p + 1) lead (slice_get_within (slice_values old.units) p lead g) behind in
      work_by (work_from new front) (work_left old) value (rw (w.units, w.parts, n, at) (omega (arith, less)));
}

-- ---- the text of a key

pub plain_ends : (s : Walk) → s.pending.spelling.held ≡ None → EndsKey s s
plain_ends s h = record {
  pending = refl;
  front = refl;
  value = refl;
  text = λ key sp. rw h (spelled_none (bytes_of s.pending.spelling) key (rw h at sp));
}

pub held_ends : (old new : Walk) (lead : LeadSurrogate) → new.pending ≡ old.pending → new.front ≡ old.front → new.value ≡ old.value
    → old.pending.spelling.held ≡ Some lead
    → string_bytes new.ended ≡ bytes_of old.pending.spelling ++ encode_utf8 0xFFFD → EndsKey old new
held_ends old new lead p f v h e = record {
  pending = p;
  front = f;
  value = v;
  text = λ key sp. rw (p, h) (e ∙ spelled_held (bytes_of old.pending.spelling) key lead (rw h at sp));
}

-- ---- from one entry to the next

-- A node without a value is read, and what is below it is opened.
pub more_opened : (first : Walk) (old mid read new : Pending) (front : Front) → IsOpened first old → Keeps old mid
    → ReadsNode mid front None read → OpensFront read front new → (IsWalked first → ⊥) → IsOpened first new
more_opened first old mid read new front i k r o more = record {
  units = o.units ∙ r.units ∙ k.units ∙ i.units;
  entries = λ m g. o.entries m (r.entries m (k.entries m (i.entries m g)));
  cuts = o.cuts (r.cuts k.cuts);
  work = omega (arith, o.work, r.work, k.work, i.work);
  over = λ d. absurd (more d);
}

pub more_passed : (first : Walk) (old mid read new : Pending) (front : Front) (k : ℕ) → IsOpened first old → Keeps old mid
    → GoesToNode old mid → ReadsNode mid front None read → OpensFront read front new → ((m : UnitMap) → WalkGives first m → IsPast k old)
    → (m : UnitMap) → WalkGives first m → IsPast (k + 1) new
more_passed first old mid read new front k i keeps goes r o past m g =
    let here = i.entries m g in
    o.leads m (r.entries m (keeps.entries m here)) (k + 1) (r.leads refl k (goes m here k (past m g)))

-- A node with a value is reached.
pub entry_found : (first new : Walk) (old mid : Pending) (v : ℤ) (told : Walk) → IsOpened first old → Keeps old mid
    → ReadsNode mid told.front (Some v) told.pending → told.value ≡ v → EndsKey told new → FindsEntry first true new
entry_found first new old mid v told i k r tv e = record {
  units = ap (λ z. z.units) e.pending ∙ r.units ∙ k.units ∙ i.units;
  entries = λ m g.
      let t = r.entries m (k.entries m (i.entries m g)) in
      let is : m ≡ (t.0, new.value) ∷ t.1 = t.2 ∙ ap (λ z. (t.0, z) ∷ t.1) (sym (e.value ∙ tv)) in
      (t.0, t.1, is, e.text t.0 t.3, rw (e.pending, e.front) t.4);
  value = λ _. rw (e.pending, e.value, tv) (subst (λ z. IsNodeValue (slice_values z) v) (sym r.units) r.some_value);
  sound = λ _. rw (e.pending, e.front) (r.cuts k.cuts, r.near);
  work = λ _. rw (e.pending, e.front) (omega (arith, r.work, k.work, i.work));
}

pub none_found : (first new : Walk) (old : Pending) → IsOpened first old → Keeps old new.pending → IsOver new.pending
    → FindsEntry first false new
none_found first new old i k o = record {
  units = k.units ∙ i.units;
  entries = λ m g. over_gives new.pending m o (k.entries m (i.entries m g));
  value = λ e. absurd (not_both e);
  sound = λ e. absurd (not_both e);
  work = λ e. absurd (not_both e);
}

-- As many nodes were opened as there are units.
pub no_more_found : (first new : Walk) (k : ℕ) → IsOpened first new.pending → length (slice_values new.pending.units) ≤ k
    → ((m : UnitMap) → WalkGives first m → IsPast k new.pending) → FindsEntry first false new
no_more_found first new k i all past = record {
  units = i.units;
  entries = λ m g. past_gives new.pending m k all (i.entries m g) (past m g);
  value = λ e. absurd (not_both e);
  sound = λ e. absurd (not_both e);
  work = λ e. absurd (not_both e);
}

-- What is at the position is still to come, under the empty key.
pub place_gives : (s : Pending) (place : Place) (m : UnitMap) → bytes_of s.spelling ≡ [] → s.spelling.held ≡ None → s.parts.items ≡ []
    → Stands (slice_values s.units) place m → GivesFrom s (At place) m
place_gives s place m t h p stood = record {
  key = [];
  first = m;
  others = [];
  spelled = rw (t, h) spells_nothing;
  next = stood;
  parts = rw p refl;
  is = sym (append-nil (under [] m) ∙ under_nil m);
}

-- ---- entries with texts of their own

pub item_gives : (old new : Walk) (text : String Global) → slice_values new.pending.units ≡ slice_values old.pending.units
    → (IsWalked old → ⊥) → ((m : UnitMap) → WalkGives old m → Reaches m new) → IsValueOfNode new → string_bytes text ≡ walk_text new
    → Gives old (Some (Ok (text, new.value))) new
item_gives old new text u more reaches value is = record {
  entries = λ m g. rw is (reaches m g);
  done = λ d. absurd (more d);
  ended = λ e. absurd (not_both e);
  value = rw u at value;
  units = u;
}

pub none_gives : (old new : Walk) → slice_values new.pending.units ≡ slice_values old.pending.units
    → ((m : UnitMap) → WalkGives old m → m ≡ []) → IsWalked new → Gives old None new
none_gives old new u none w = record { entries = none; done = λ d. refl; ended = w; value = tt; units = u }

parts_some : (len : ℕ) (parts : List BranchPart) → (parts ≡ [] → ⊥) → 0 < parts_work len parts
unfolding parts_work
parts_some len [] more = absurd (more refl)
parts_some len (part ∷ parts) more =
    omega (arith, weight_some len part.place, sum_by-append (λ (t : BranchPart). weight len t.place) (part ∷ []) parts)

parts_none : (len : ℕ) (parts : List BranchPart) → parts ≡ [] → parts_work len parts ≡ 0
unfolding parts_work
parts_none len parts e = ap (parts_work len) e

some_work : (len : ℕ) (front : Front) (parts : List BranchPart) → ((front ≡ At Nowhere) × (parts ≡ []) → ⊥)
    → 0 < front_work len front + parts_work len parts
some_work len (At Nowhere) parts more = omega (arith, parts_some len parts (λ e. more (refl, e)))
some_work len (At (Node p)) parts more = omega (arith, weight_some len p)
some_work len (At (Run p left)) parts more = omega (arith, weight_some len p)
some_work len (Match p low) parts more = omega (arith, weight_some len p)

-- An empty rest is less work than a non-empty one.
pub walked_work : (old new : Walk) → IsWalked new → (IsWalked old → ⊥) → walk_work new < walk_work old
walked_work old new w more =
    let none : parts_work (length (slice_values new.pending.units)) new.pending.parts.items ≡ 0 =
    parts_none (length (slice_values new.pending.units)) new.pending.parts.items w.1 in
    rw w.0 (omega (arith, none, some_work (length (slice_values old.pending.units)) old.front old.pending.parts.items more))
