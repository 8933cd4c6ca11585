-- How nodes and parts of branches are opened.
use Rattle.icu_zerovec.specs.Slice.{slice_values}
use Rattle.std.proofs.Common.{◌≡◌, ℕ, ℤ, ◌+◌, ◌-◌, ◌/◌, ◌%◌, ◌<◌, ◌≤◌, List, [], ◌∷◌, ◌++◌, Some, None, refl, sym, ap, subst, ◌∙◌, arith, length, take, slice_get, append_assoc, append-nil, reverse, inl, length-append, true, nat_eq}
use Rattle.std.proofs.lemmas.Bool.{eq-eqb}
use Rattle.std.proofs.lemmas.List.{take_all, take-append-le, reverse-append}
use Rattle.std.proofs.lemmas.Option.{none-some, slice_get_within}
use Rattle.std.proofs.lemmas.Str.{IsUtf8-take, IsUtf8-string_bytes, IsCharBoundary-end, IsCharBoundary-from_take}
use Rattle.std.specs.Str.{IsUtf8}
use Rattle.icu_char16trie.specs.Grammar.{Part, last, entry, split, Children, Holds, Matches}
use Rattle.icu_char16trie.specs.Numbers.{entry_child, short_end, lower_part, delta_end}
use Rattle.icu_char16trie.specs.UnitMap.{under}
use Rattle.icu_char16trie.specs.UnitPlaces.{Stands}
use Rattle.icu_char16trie.specs.Pending.{Spells, ArmsHold, PartsGive, IsPending, weight, work_left}
use Rattle.icu_char16trie.specs.Inside.Cuts.{AreCuts, IsCut}
use Rattle.icu_char16trie.specs.Inside.Opening.{bytes_of, SpellsOn, PutsOff, IsFrom, Opens}
use Rattle.icu_char16trie.specs.declared.pending.BranchPart.{BranchPart}
use Rattle.icu_char16trie.specs.declared.pending.Pending.{Pending}
use Rattle.icu_char16trie.specs.declared.place.Place.TheVariants.{Node}
use Rattle.icu_char16trie.proofs.EntryLemmas.{under_append, under_under, children_split, children_cons, children_nil}
use Rattle.icu_char16trie.proofs.NodeLemmas.{holds_below, matches_branch}
use Rattle.icu_char16trie.proofs.PartLemmas.{last_is, entry_found, split_found, part_begins, part_goes_on}
use Rattle.icu_char16trie.proofs.SpellingLemmas.{spells_on}
use Rattle.icu_char16trie.proofs.WorkLemmas.{weight_some, weight_one, weight_two, weight_le, work_push}

pub one_pushed : (old new : List BranchPart) (a : BranchPart) → new ≡ old ++ a ∷ [] → reverse new ≡ a ∷ reverse old
one_pushed old new a e = rw (e, reverse-append old (a ∷ [])) refl

-- ---- the text grows

parts_longer : (units text tail : List ℕ) (parts : List BranchPart) (m : List (List ℕ × ℤ)) → PartsGive units text parts m
    → PartsGive units (text ++ tail) parts m
parts_longer units text tail [] m p = p
parts_longer units text tail (part ∷ parts) m p =
    let same : take part.mark.len (text ++ tail) ≡ take part.mark.len text = take-append-le part.mark.len text tail p.5 in
    (p.0, p.1, p.2, p.3, rw same p.4, omega (arith, length-append text tail, p.5), p.6, rw same p.7)

cuts_longer : (text tail : List ℕ) (parts : List BranchPart) → IsUtf8 text → IsUtf8 (text ++ tail) → AreCuts text parts
    → AreCuts (text ++ tail) parts
cuts_longer text tail [] u u' c = tt
cuts_longer text tail (part ∷ parts) u u' c =
    let same : take part.mark.len (text ++ tail) ≡ take part.mark.len text = take-append-le part.mark.len text tail c.0.0 in
    let front : IsUtf8 (take part.mark.len (text ++ tail)) = rw same (IsUtf8-take text part.mark.len u c.0) in
    (IsCharBoundary-from_take (text ++ tail) part.mark.len u' (omega (arith, length-append text tail, c.0.0)) front, rw same c.1)

-- A node at k or later is at any earlier index or later.
pub from_later : (k j : ℕ) (s : Pending) → j ≤ k → IsFrom k s → IsFrom j s
from_later k j s h f = (f.0, f.1, omega (arith, h, f.2), f.3)

-- The key grows by a run of units, and the node after it becomes the current one.
pub record GoesTo (old : Pending) (run : List ℕ) (q : ℕ) (new : Pending) : Type 0 where
  pub units : new.units ≡ old.units
  pub spelling : SpellsOn old.spelling run new.spelling
  pub node : new.node ≡ Some q
  pub parts : new.parts.items ≡ old.parts.items

gone_entries : (old new : Pending) (run : List ℕ) (q : ℕ) → GoesTo old run q new → (key : List ℕ) (entries others : List (List ℕ × ℤ))
    → Stands (slice_values old.units) (Node q) entries
    → Spells (bytes_of old.spelling) old.spelling.held key
    → PartsGive (slice_values old.units) (bytes_of old.spelling) (reverse old.parts.items) others
    → IsPending new (under key (under run entries) ++ others)
gone_entries old new run q g key entries others h s p = record {
  key = key ++ run;
  first = under (key ++ run) entries;
  others = others;
  spelled = spells_on old.spelling new.spelling run key g.spelling s;
  node = rw (g.units, g.node) (entries, h, refl);
  parts = rw (g.units, g.spelling.grows, g.parts)
      (parts_longer (slice_values old.units) (bytes_of old.spelling) g.spelling.tail (reverse old.parts.items) others p);
  is = ap (λ z. z ++ others) (under_under key run entries);
}

gone_cuts : (old new : Pending) (run : List ℕ) (q : ℕ) → GoesTo old run q new → IsCut old → IsCut new
gone_cuts old new run q g c =
    let whole : IsUtf8 (bytes_of old.spelling ++ g.spelling.tail) = rw g.spelling.grows at (IsUtf8-string_bytes new.spelling.text) in
    rw (g.spelling.grows, g.parts) (cuts_longer (bytes_of old.spelling) g.spelling.tail (reverse old.parts.items)
    (IsUtf8-string_bytes old.spelling.text) whole c)

gone_work : (old new : Pending) (run : List ℕ) (p q : ℕ) → GoesTo old run q new → p < length (slice_values old.units) → p < q
    → work_left new < weight (length (slice_values old.units)) p + work_left old
gone_work old new run p q g h i = rw (g.units, g.node, g.parts) (omega (arith, weight_one (length (slice_values old.units)) p q h i))

gone_leads : (old new : Pending) (run : List ℕ) (p q : ℕ) (entries : List (List ℕ × ℤ)) → GoesTo old run q new → p < q
    → Holds (slice_values old.units) q entries → IsFrom (p + 1) new
gone_leads old new run p q entries g i h = (q, g.node, omega (arith, i), rw g.units (holds_below (slice_values old.units) h))

pub gone_opens : (old new : Pending) (run : List ℕ) (p q : ℕ) (Stood : List (List ℕ × ℤ) → Type 0) → GoesTo old run q new
    → p < length (slice_values old.units) → p < q
    → ((first : List (List ℕ × ℤ)) → Stood first
    → (entries : List (List ℕ × ℤ)) × Holds (slice_values old.units) q entries × (first ≡ under run entries))
    → Opens old p Stood new
gone_opens old new run p q Stood g h i is = record {
  units = g.units;
  entries = λ key first others stood s pg.
      let e = is first stood in rw e.2 (gone_entries old new run q g key e.0 others (inl e.1) s pg);
  leads = λ first stood. let e = is first stood in gone_leads old new run p q e.0 g i e.1;
  cuts = gone_cuts old new run q g;
  work = gone_work old new run p q g h i;
}

-- ---- missing units, and weaker assumptions

pub nothing_opens : (old : Pending) (p : ℕ) (Stood : List (List ℕ × ℤ) → Type 0) → ((first : List (List ℕ × ℤ)) → Stood first → ⊥)
    → Opens old p Stood old
nothing_opens old p Stood never = record {
  units = refl;
  entries = λ key first others stood s pg. absurd (never first stood);
  leads = λ first stood. absurd (never first stood);
  cuts = λ c. c;
  work = omega (arith, weight_some (length (slice_values old.units)) p);
}

pub later_opens : (old new : Pending) (p q : ℕ) (Stood Stood' : List (List ℕ × ℤ) → Type 0) → Opens old q Stood' new → p ≤ q
    → ((first : List (List ℕ × ℤ)) → Stood first → Stood' first) → Opens old p Stood new
later_opens old new p q Stood Stood' o h is = record {
  units = o.units;
  entries = λ key first others stood. o.entries key first others (is first stood);
  leads = λ first stood. from_later (q + 1) (p + 1) new (omega (arith, h)) (o.leads first (is first stood));
  cuts = o.cuts;
  work = omega (arith, o.work, weight_le (length (slice_values old.units)) p q h);
}

-- A part whose units are cut off represents no entries.
pub arms_here : (units : List ℕ) (p n : ℕ) → slice_get units p ≡ None → (m : List (List ℕ × ℤ)) → ArmsHold units p n m → ⊥
arms_here units p n g m (arms, part, c) = part_begins units part g

pub arms_next : (units : List ℕ) (p n : ℕ) → 1 < n → slice_get units (p + 1) ≡ None → (m : List (List ℕ × ℤ)) → ArmsHold units p n m → ⊥
arms_next units p n many g m (arms, part, c) = part_goes_on units part many g

pub arms_child : (units : List ℕ) (p n u v : ℕ) → 1 < n → n ≤ 5 → slice_get units p ≡ Some u → slice_get units (p + 1) ≡ Some v
    → entry_child units (p + 2) v ≡ None
    → (m : List (List ℕ × ℤ)) → ArmsHold units p n m → ⊥
arms_child units p n u v many few hu hv none m (arms, part, c) = none-some _ (sym none ∙ (entry_found units part many few u v hu hv).at)

pub arms_low : (units : List ℕ) (p n s d : ℕ) → 5 < n → slice_get units p ≡ Some s → slice_get units (p + 1) ≡ Some d
    → lower_part units (p + 2) d ≡ None
    → (m : List (List ℕ × ℤ)) → ArmsHold units p n m → ⊥
arms_low units p n s d many hs hd none m (arms, part, c) = none-some _ (sym none ∙ (split_found units part many s d hs hd).at)

-- ---- a postponed part

off_parts : (old mid : Pending) (p n : ℕ) → PutsOff old p n mid → (key : List ℕ) (first others : List (List ℕ × ℤ))
    → ArmsHold (slice_values old.units) p n first
    → Spells (bytes_of old.spelling) old.spelling.held key
    → PartsGive (slice_values old.units) (bytes_of old.spelling) (reverse old.parts.items) others
    → PartsGive (slice_values mid.units) (bytes_of mid.spelling) (reverse mid.parts.items) (under key first ++ others)
off_parts old mid p n o key first others h s pg =
    let whole : take o.part.mark.len (bytes_of old.spelling) ≡ bytes_of old.spelling =
    take_all o.part.mark.len (bytes_of old.spelling) (omega (arith, o.len)) in
    rw (o.units, o.spelling, one_pushed old.parts.items mid.parts.items o.part o.parts)
    (key, first, others, rw (o.place, o.count) h, rw (whole, o.held) s, omega (arith, o.len), refl, rw whole pg)

off_cuts : (old mid : Pending) (p n : ℕ) → PutsOff old p n mid → IsCut old → IsCut mid
off_cuts old mid p n o c =
    let whole : take o.part.mark.len (bytes_of old.spelling) ≡ bytes_of old.spelling =
    take_all o.part.mark.len (bytes_of old.spelling) (omega (arith, o.len)) in
    rw (o.spelling, one_pushed old.parts.items mid.parts.items o.part o.parts)
    (rw o.len (IsCharBoundary-end (bytes_of old.spelling)), rw whole c)

off_work : (old mid : Pending) (p n : ℕ) → PutsOff old p n mid → work_left mid ≡ work_left old + weight (length (slice_values old.units)) p
off_work old mid p n o =
    rw (o.units, o.node, o.parts)
    (omega (
      arith,
      work_push (length (slice_values old.units)) old.parts.items o.part,
      ap (weight (length (slice_values old.units))) o.place,
    ))

-- A part of more than five entries.
pub split_opens : (old mid new : Pending) (p n s d low high : ℕ) → 5 < n → slice_get (slice_values old.units) p ≡ Some s
    → slice_get (slice_values old.units) (p + 1) ≡ Some d
    → lower_part (slice_values old.units) (p + 2) d ≡ Some low → high ≡ delta_end (p + 2) d → p < low → p < high
    → PutsOff old high (n - n / 2) mid → Opens mid low (ArmsHold (slice_values mid.units) low (n / 2)) new
    → Opens old p (ArmsHold (slice_values old.units) p n) new
split_opens old mid new p n s d low high many hs hd hl at lower upper off o = record {
  units = o.units ∙ off.units;
  entries = λ key first others stood sp pg.
      let t = split_found (slice_values old.units) stood.1 many s d hs hd in
      let c = children_split (slice_values old.units) stood.2 t.lower t.upper t.is in
      let same : t.low ≡ low = cc (t.at, hl) in
      let below : ArmsHold (slice_values mid.units) low (n / 2) c.low = rw (off.units, ← same) (t.lower, t.below, c.below) in
      let above : ArmsHold (slice_values old.units) high (n - n / 2) c.high = rw at (t.upper, t.above, c.above) in
      let parts = off_parts old mid high (n - n / 2) off key c.high others above sp pg in
      let whole : under key first ++ others ≡ under key c.low ++ (under key c.high ++ others) =
      ap (λ z. under key z ++ others) c.is ∙ ap (λ z. z ++ others) (under_append key c.low c.high)
      ∙ append_assoc (under key c.low) (under key c.high) others in
      rw whole (o.entries key c.low (under key c.high ++ others) below (rw off.spelling sp) parts);
  leads = λ first stood.
      let t = split_found (slice_values old.units) stood.1 many s d hs hd in
      let c = children_split (slice_values old.units) stood.2 t.lower t.upper t.is in
      let same : t.low ≡ low = cc (t.at, hl) in
      let below : ArmsHold (slice_values mid.units) low (n / 2) c.low = rw (off.units, ← same) (t.lower, t.below, c.below) in
      from_later (low + 1) (p + 1) new (omega (arith, lower)) (o.leads c.low below);
  cuts = λ c. o.cuts (off_cuts old mid high (n - n / 2) off c);
  work =
      let within : p < length (slice_values old.units) = slice_get_within (slice_values old.units) p s hs in
      let two = weight_two (length (slice_values old.units)) p high low within upper lower in
      let more : work_left new < weight (length (slice_values old.units)) low + work_left mid =
      subst (λ z. work_left new < weight (length (slice_values z)) low + work_left mid) off.units o.work in
      omega (arith, two, more, off_work old mid high (n - n / 2) off);
}

-- The first of more than one entry in a row.
pub row_opens : (old mid new : Pending) (p n u v child rest : ℕ) → 1 < n → n ≤ 5 → slice_get (slice_values old.units) p ≡ Some u
    → slice_get (slice_values old.units) (p + 1) ≡ Some v
    → entry_child (slice_values old.units) (p + 2) v ≡ Some child → rest ≡ short_end (p + 2) (v % 0x8000) → p < child → p < rest
    → PutsOff old rest (n - 1) mid → GoesTo mid (u ∷ []) child new → Opens old p (ArmsHold (slice_values old.units) p n) new
row_opens old mid new p n u v child rest many few hu hv hc at here behind off g = record {
  units = g.units ∙ off.units;
  entries = λ key first others stood sp pg.
      let t = entry_found (slice_values old.units) stood.1 many few u v hu hv in
      let c = children_cons (slice_values old.units) stood.2 u t.child t.rest t.is in
      let same : t.child ≡ child = cc (t.at, hc) in
      let node : Stands (slice_values mid.units) (Node child) c.first = rw (off.units, ← same) (inl c.node) in
      let after : ArmsHold (slice_values old.units) rest (n - 1) c.others = rw at (t.rest, t.others, c.children) in
      let parts = off_parts old mid rest (n - 1) off key c.others others after sp pg in
      let whole : under key first ++ others ≡ under key (under (u ∷ []) c.first) ++ (under key c.others ++ others) =
      ap (λ z. under key z ++ others) c.is ∙ ap (λ z. z ++ others) (under_append key (under (u ∷ []) c.first) c.others)
      ∙ append_assoc (under key (under (u ∷ []) c.first)) (under key c.others) others in
      rw whole (gone_entries mid new (u ∷ []) child g key c.first (under key c.others ++ others) node (rw off.spelling sp) parts);
  leads = λ first stood.
      let t = entry_found (slice_values old.units) stood.1 many few u v hu hv in
      let c = children_cons (slice_values old.units) stood.2 u t.child t.rest t.is in
      let same : t.child ≡ child = cc (t.at, hc) in
      gone_leads mid new (u ∷ []) p child c.first g here (rw (off.units, ← same) c.node);
  cuts = λ c. gone_cuts mid new (u ∷ []) child g (off_cuts old mid rest (n - 1) off c);
  work =
      let within : p < length (slice_values old.units) = slice_get_within (slice_values old.units) p u hu in
      let two = weight_two (length (slice_values old.units)) p rest child within behind here in
      let pushed = work_push (length (slice_values old.units)) old.parts.items off.part in
      let same = ap (weight (length (slice_values old.units))) off.place in
      rw (g.units, g.node, g.parts, off.units, off.parts) (omega (arith, two, pushed, same));
}

-- The last entry.
pub last_stands : (units : List ℕ) (p n u : ℕ) (first : List (List ℕ × ℤ)) → n ≤ 1 → slice_get units p ≡ Some u → ArmsHold units p n first
    → (entries : List (List ℕ × ℤ)) × Holds units (p + 1) entries × (first ≡ under (u ∷ []) entries)
last_stands units p n u first few hu (arms, part, children) =
    let c = children_cons units children u (p + 1) [] (last_is units part few u hu) in
    let none_left : c.others ≡ [] = children_nil units c.children refl in
    (c.first, c.node, c.is ∙ ap (λ z. under (u ∷ []) c.first ++ z) none_left ∙ append-nil (under (u ∷ []) c.first))

-- ---- match nodes

-- A branch whose length is missing represents no entries.
pub length_gone : (units : List ℕ) (p low : ℕ) → low ≤ 0 → slice_get units p ≡ None → (m : List (List ℕ × ℤ)) → Matches units p low m → ⊥
length_gone units p low zero' g m h =
    let b = matches_branch units h (omega arith) in
    let is_zero : nat_eq low 0 ≡ true = eq-eqb low 0 (omega arith) in
    let at : slice_get units p ≡ Some b.n = rw is_zero at b.len in
    none-some b.n (sym g ∙ at)

part_long : (units : List ℕ) {p n : ℕ} {arms : List (ℕ × ℕ)} {m : List (List ℕ × ℤ)} → Part units p n arms
    → Children units arms m → 2 ≤ length units
part_long units (last p n u arms e g a) c = omega (arith, holds_below units (children_cons units c u (p + 1) [] a).node)
part_long units (entry p n u v child rest arms many few g g' h r a) c = omega (arith, slice_get_within units (p + 1) v g')
part_long units (split p n s d low lower upper arms many g g' h l r b f a) c = omega (arith, slice_get_within units (p + 1) d g')

-- A part needs at least two units.
pub arms_long : (units : List ℕ) (p n : ℕ) (m : List (List ℕ × ℤ)) → ArmsHold units p n m → 2 ≤ length units
arms_long units p n m (arms, part, c) = part_long units part c
