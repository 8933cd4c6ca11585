-- The value that all entries of a node have, given those of the nodes that it leads to.
use Rattle.std.proofs.Common.{◌≡◌, ℕ, ℤ, pos, ◌+◌, ◌-◌, ◌<◌, ◌≤◌, ◌≢◌, ◌↔◌, Bool, false, List, [], ◌∷◌, ◌++◌, Option, Some, None, length, get_or, take, drop, refl, sym, ap, subst, ◌∙◌, arith, inl, inr}
use Rattle.std.proofs.lemmas.Option.{same_Some, slice_get_past}
use Rattle.std.proofs.lemmas.List.{get_or_past}
use Rattle.std.proofs.lemmas.Bool.{false≢true}
use Rattle.icu_char16trie.specs.Grammar.{Arms, Holds, final, plain, valued, Matches, run, branch, Children, none, more}
use Rattle.icu_char16trie.specs.UnitMap.{UnitMap, under, value_of, same_key}
use Rattle.icu_char16trie.specs.OneValue.{AllHaveValue, HaveOneValue, StandsForOneValue}
use Rattle.icu_char16trie.specs.UnitPlaces.{Stands, InRun, value_at}
use Rattle.icu_char16trie.specs.declared.place.Place.{Place}
use Rattle.icu_char16trie.specs.declared.place.Place.TheVariants.{Nowhere, Node, Run}
use Rattle.icu_char16trie.specs.Inside.Soundness.{HasMap, AllHold, AllWantedHold, IsWanted, RestsOnWanted, places_of}
use Rattle.icu_char16trie.specs.Inside.Counts.{MatchKids, after_run, of_arms, NodeKids, no_kids, of_plain, of_valued, NodeLeadsTo}
use Rattle.icu_char16trie.specs.Inside.Values.{HasValue, Agrees, IsOnlyWanted, RestsOnOne, IsNodeAhead}
use Rattle.icu_char16trie.proofs.NodeLemmas.{holds_has, holds_within, HasEntry}
use Rattle.icu_char16trie.proofs.PlaceLemmas.{value_holds}
use Rattle.icu_char16trie.proofs.OneMap.{holds_one, part_one}
use Rattle.icu_char16trie.proofs.SoundnessLemmas.{want_made, back_places, forth_places, back_unwanted, forth_unwanted}

-- ---- entries

values_append : (m n : UnitMap) (v : ℤ) → AllHaveValue m v → AllHaveValue n v → AllHaveValue (m ++ n) v
values_append [] n v a b = b
values_append (e ∷ m) n v a b = (a.0, values_append m n v a.1 b)

values_lower : (m n : UnitMap) (v : ℤ) → AllHaveValue (m ++ n) v → AllHaveValue m v
values_lower [] n v a = tt
values_lower (e ∷ m) n v a = (a.0, values_lower m n v a.1)

values_upper : (m n : UnitMap) (v : ℤ) → AllHaveValue (m ++ n) v → AllHaveValue n v
values_upper [] n v a = a
values_upper (e ∷ m) n v a = values_upper m n v a.1

under_values : (front : List ℕ) (m : UnitMap) (v : ℤ) → AllHaveValue m v → AllHaveValue (under front m) v
under_values front [] v a = tt
under_values front (e ∷ m) v a = (a.0, under_values front m v a.1)

values_under : (front : List ℕ) (m : UnitMap) (v : ℤ) → AllHaveValue (under front m) v → AllHaveValue m v
values_under front [] v a = tt
values_under front (e ∷ m) v a = (a.0, values_under front m v a.1)

own_agrees : (m : UnitMap) (v : ℤ) → AllHaveValue m v → Agrees (value_of m []) v
unfolding value_of same_key
own_agrees [] v a = tt
own_agrees (([], x) ∷ m) v a = a.0
own_agrees ((u ∷ key, x) ∷ m) v a = own_agrees m v a.1

-- ---- the entries of a node

children_gives : (units : List ℕ) (v : ℤ) {arms : Arms} {m : UnitMap} → Children units arms m → AllHaveValue m v
    → AllHold (HasValue units v) (places_of arms)
children_gives units v (none arms m a e) h = rw a tt
children_gives units v (more u q rest arms m others all a node c e) h =
    let h' : AllHaveValue (under (u ∷ []) m ++ others) v = rw e at h in
    rw a (
      (m, node, values_under (u ∷ []) m v (values_lower (under (u ∷ []) m) others v h')),
      children_gives units v c (values_upper (under (u ∷ []) m) others v h'),
    )

-- The map of a node is unique.
of_node : (units : List ℕ) (v : ℤ) {q : ℕ} {m : UnitMap} → Holds units q m → HasValue units v q → AllHaveValue m v
of_node units v node h = subst (λ z. AllHaveValue z v) (holds_one units h.1 node) h.2

children_makes : (units : List ℕ) (v : ℤ) {arms : Arms} {m : UnitMap} → Children units arms m → AllHold (HasValue units v) (places_of arms)
    → AllHaveValue m v
children_makes units v (none arms m a e) h = rw e tt
children_makes units v (more u q rest arms m others all a node c e) h =
    let h' : AllHold (HasValue units v) (q ∷ places_of rest) = rw a at h in
    rw e (values_append (under (u ∷ []) m) others v (under_values (u ∷ []) m v (of_node units v node h'.0)) (children_makes units v c h'.1))

matches_gives : (units : List ℕ) (v : ℤ) {p low : ℕ} {m : UnitMap} {kids : List ℕ} → Matches units p low m → MatchKids units p low kids
    → AllHaveValue m v → AllHold (HasValue units v) kids
matches_gives units v (run p low m rest big small within h e) (after_run _ _ kids _ k) all =
    rw k ((rest, h, values_under _ rest v (rw e at all)), tt)
matches_gives units v (run p low m rest big small within h e) (of_arms _ _ n arms kids small' len part k) all = absurd (omega arith)
matches_gives units v (branch p low n arms m small len some part up c) (after_run _ _ kids big k) all = absurd (omega arith)
matches_gives units v (branch p low n arms m small len some part up c) (of_arms _ _ n' arms' kids small' len' part' k) all =
    let same : n' ≡ n = same_Some n' n (sym len' ∙ len) in
    let arms_same : arms' ≡ arms = part_one units (rw same at part') part in
    let is : kids ≡ places_of arms = k ∙ ap places_of arms_same in
    rw is (children_gives units v c all)

matches_makes : (units : List ℕ) (v : ℤ) {p low : ℕ} {m : UnitMap} {kids : List ℕ} → Matches units p low m → MatchKids units p low kids
    → AllHold (HasValue units v) kids → AllHaveValue m v
matches_makes units v (run p low m rest big small within h e) (after_run _ _ kids _ k) all =
    let all' : AllHold (HasValue units v) ((p + (low - 0x2f)) ∷ []) = rw k at all in
    rw e (under_values _ rest v (of_node units v h all'.0))
matches_makes units v (run p low m rest big small within h e) (of_arms _ _ n arms kids small' len part k) all = absurd (omega arith)
matches_makes units v (branch p low n arms m small len some part up c) (after_run _ _ kids big k) all = absurd (omega arith)
matches_makes units v (branch p low n arms m small len some part up c) (of_arms _ _ n' arms' kids small' len' part' k) all =
    let same : n' ≡ n = same_Some n' n (sym len' ∙ len) in
    let arms_same : arms' ≡ arms = part_one units (rw same at part') part in
    let is : kids ≡ places_of arms = k ∙ ap places_of arms_same in
    children_makes units v c (rw is at all)

node_gives : (units : List ℕ) (v : ℤ) {p own : ℕ} {m : UnitMap} {kids : List ℕ} → Holds units p m → NodeKids units p own kids
    → AllHaveValue m v → AllHold (HasValue units v) kids
node_gives units v (final p lead n m g big s e) (no_kids _ lead' own kids g' big' one k) all = rw k tt
node_gives units v (final p lead n m g big s e) (of_plain _ lead' own kids g' small' one k) all =
    let same : lead' ≡ lead = cc in absurd (omega arith)
node_gives units v (final p lead n m g big s e) (of_valued _ lead' own kids g' big' small' one k) all =
    let same : lead' ≡ lead = cc in absurd (omega arith)
node_gives units v (plain p lead m g small h) (no_kids _ lead' own kids g' big' one k) all = rw k tt
node_gives units v (plain p lead m g small h) (of_plain _ lead' own kids g' small' zero' k) all =
    let same : lead' ≡ lead = cc in matches_gives units v h (rw same at k) all
node_gives units v (plain p lead m g small h) (of_valued _ lead' own kids g' big' small' one k) all =
    let same : lead' ≡ lead = cc in absurd (omega arith)
node_gives units v (valued p lead n m rest g big small s h e) (no_kids _ lead' own kids g' big' one k) all = rw k tt
node_gives units v (valued p lead n m rest g big small s h e) (of_plain _ lead' own kids g' small' zero' k) all =
    let same : lead' ≡ lead = cc in absurd (omega arith)
node_gives units v (valued p lead n m rest g big small s h e) (of_valued _ lead' own kids g' big' small' one k) all =
    let same : lead' ≡ lead = cc in
    let all' : AllHaveValue (([], _) ∷ rest) v = rw e at all in
    matches_gives units v h (rw same at k) all'.1

node_makes : (units : List ℕ) (v : ℤ) {p own : ℕ} {m : UnitMap} {kids : List ℕ} → Holds units p m → NodeKids units p own kids
    → Agrees (value_of m []) v → AllHold (HasValue units v) kids → AllHaveValue m v
unfolding value_of same_key
node_makes units v (final p lead n m g big s e) (no_kids _ lead' own kids g' big' one k) fits all = rw e (rw e at fits, tt)
node_makes units v (final p lead n m g big s e) (of_plain _ lead' own kids g' small' one k) fits all =
    let same : lead' ≡ lead = cc in absurd (omega arith)
node_makes units v (final p lead n m g big s e) (of_valued _ lead' own kids g' big' small' one k) fits all =
    let same : lead' ≡ lead = cc in absurd (omega arith)
node_makes units v (plain p lead m g small h) (no_kids _ lead' own kids g' big' one k) fits all =
    let same : lead' ≡ lead = cc in absurd (omega arith)
node_makes units v (plain p lead m g small h) (of_plain _ lead' own kids g' small' zero' k) fits all =
    let same : lead' ≡ lead = cc in matches_makes units v h (rw same at k) all
node_makes units v (plain p lead m g small h) (of_valued _ lead' own kids g' big' small' one k) fits all =
    let same : lead' ≡ lead = cc in absurd (omega arith)
node_makes units v (valued p lead n m rest g big small s h e) (no_kids _ lead' own kids g' big' one k) fits all =
    let same : lead' ≡ lead = cc in absurd (omega arith)
node_makes units v (valued p lead n m rest g big small s h e) (of_plain _ lead' own kids g' small' zero' k) fits all =
    let same : lead' ≡ lead = cc in absurd (omega arith)
node_makes units v (valued p lead n m rest g big small s h e) (of_valued _ lead' own kids g' big' small' one k) fits all =
    let same : lead' ≡ lead = cc in rw e (rw e at fits, matches_makes units v h (rw same at k) all)

-- ---- one node after another

maps_of : (units : List ℕ) (v : ℤ) (places : List ℕ) → AllHold (HasValue units v) places → AllHold (HasMap units) places
maps_of units v [] h = tt
maps_of units v (q ∷ places) h = ((h.0.0, h.0.1), maps_of units v places h.1)

-- What a node's own value says, if all its entries have the value v.
node_is : (units : List ℕ) (v : ℤ) (p : ℕ) → HasValue units v p → Agrees (value_at units (Node p)) v
node_is units v p h = rw (value_holds units h.1) (own_agrees h.0 v h.2)

node_made : (units : List ℕ) (v : ℤ) (p : ℕ) (old new : List Bool)
    → (r : RestsOnWanted units p (HasMap units p) (NodeLeadsTo units p) old new)
    → Agrees (value_at units (Node p)) v → AllHold (HasValue units v) r.places → HasValue units v p
node_made units v p old new r fits all =
    let m = r.makes (maps_of units v r.places all) in
    (m.0, m.1, node_makes units v m.1 r.leads.1 (rw (value_holds units m.1) at fits) all)

pub without_value : (units : List ℕ) (p : ℕ) (found : Option ℤ) (old new : List Bool) → value_at units (Node p) ≡ None
    → RestsOnWanted units p (HasMap units p) (NodeLeadsTo units p) old new → RestsOnOne units p found found old new
without_value units p found old new own r = record {
  places = r.places;
  ahead = r.ahead;
  wanted = r.wanted;
  makes = λ v a all. (a, node_made units v p old new r (rw own tt) all);
  gives = λ v a h. (a, node_gives units v h.1 r.leads.1 h.2);
}

pub with_value : (units : List ℕ) (p : ℕ) (x : ℤ) (found : Option ℤ) (old new : List Bool) → value_at units (Node p) ≡ Some x
    → Agrees found x
    → RestsOnWanted units p (HasMap units p) (NodeLeadsTo units p) old new → RestsOnOne units p found (Some x) old new
with_value units p x found old new own before r = record {
  places = r.places;
  ahead = r.ahead;
  wanted = r.wanted;
  makes = λ v a all. (subst (Agrees found) a before, node_made units v p old new r (rw own a) all);
  gives = λ v a h. (rw own at (node_is units v p h), node_gives units v h.1 r.leads.1 h.2);
}

pub another_value : (units : List ℕ) (p : ℕ) (x : ℤ) (found : Option ℤ) → value_at units (Node p) ≡ Some x → (Agrees found x → ⊥)
    → (v : ℤ) → Agrees found v → HasValue units v p → ⊥
another_value units p x found own other v a h =
    let same : x ≡ v = rw own at (node_is units v p h) in other (subst (Agrees found) (sym same) a)

pub no_node : (units : List ℕ) (p : ℕ) (found : Option ℤ) → (HasMap units p → ⊥) → (v : ℤ) → Agrees found v → HasValue units v p → ⊥
no_node units p found never v a h = never (h.0, h.1)

-- ---- all of them

-- The entries of the root have the value v exactly if the value found so far and the marked nodes
-- that are left have it.
abbrev pub RootRests : List ℕ → ℕ → Option ℤ → List Bool → ℕ → Type 0
RootRests units root found wanted p =
    (v : ℤ) → (Agrees found v × AllWantedHold (HasValue units v) wanted p) ↔ HasValue units v root

pub root_begins : (units : List ℕ) (root : ℕ) (wanted : List Bool) → IsOnlyWanted wanted root → RootRests units root None wanted root
root_begins units root wanted only v = (
  λ h. h.1 root (omega arith) only.0,
  λ h. (tt, λ q le w. subst (HasValue units v) (sym (only.1 q w)) h),
)

pub root_next : (units : List ℕ) (root p : ℕ) (found one : Option ℤ) (old new : List Bool) → length units ≡ length old → IsWanted old p
    → RestsOnOne units p found one old new → RootRests units root found old p → RootRests units root one new (p + 1)
root_next units root p found one old new len here r rests v = (
  λ h.
      let all : AllHold (HasValue units v) r.places =
      want_made (HasValue units v) r.places old p (length units) len r.ahead (rw r.wanted at h.1) in
      let m = r.makes v h.0 all in
      (rests v).0 (m.0, back_places (HasValue units v) r.places p (length units) old new len r.ahead r.wanted (λ _. m.1) h.1),
  λ h.
      let k = (rests v).1 h in
      let g = r.gives v k.0 (k.1 p (omega arith) here) in
      (g.0, forth_places (HasValue units v) r.places p old new r.wanted g.1 k.1),
)

pub root_skips : (units : List ℕ) (root p : ℕ) (found : Option ℤ) (wanted : List Bool) → get_or wanted p false ≡ false
    → RootRests units root found wanted p → RootRests units root found wanted (p + 1)
root_skips units root p found wanted never rests v = (
  λ h. (rests v).0 (h.0, back_unwanted (HasValue units v) p wanted never h.1),
  λ h. let k = (rests v).1 h in (k.0, forth_unwanted (HasValue units v) p wanted k.1),
)

none_past : (P : ℕ → Type 0) (wanted : List Bool) (p : ℕ) → length wanted ≤ p → AllWantedHold P wanted p
none_past P wanted p past q le w = absurd (false≢true (sym (get_or_past wanted q false (omega arith)) ∙ w))

two_values : (m : UnitMap) → HasEntry m → AllHaveValue m (pos 0) → AllHaveValue m (pos 1) → ⊥
two_values m e a b =
    let a' : AllHaveValue (e.0 ∷ e.1) (pos 0) = rw e.2 at a in
    let b' : AllHaveValue (e.0 ∷ e.1) (pos 1) = rw e.2 at b in
    let zero_one : pos 0 ≡ pos 1 = sym a'.0 ∙ b'.0 in
    cc

not_every_value : (units : List ℕ) (p : ℕ) → ((v : ℤ) → HasValue units v p) → ⊥
not_every_value units p every =
    let h = every (pos 0) in
    two_values h.0 (holds_has units h.1) h.2 (of_node units (pos 1) h.1 (every (pos 1)))

pub root_ends : (units : List ℕ) (root : ℕ) (found : Option ℤ) (wanted : List Bool) (p : ℕ) → length wanted ≤ p
    → RootRests units root found wanted p → (v : ℤ) → (found ≡ Some v) ↔ HasValue units v root
root_ends units root None wanted p past rests v = (
  λ e. cc,
  λ h. absurd (not_every_value units root (λ w. (rests w).0 (tt, none_past (HasValue units w) wanted p past))),
)
root_ends units root (Some x) wanted p past rests v = (
  λ e. (rests v).0 (same_Some x v e, none_past (HasValue units v) wanted p past),
  λ h. ap Some ((rests v).1 h).0,
)

pub no_root_value : (units : List ℕ) (root p : ℕ) (found : Option ℤ) (wanted : List Bool) → IsWanted wanted p
    → ((v : ℤ) → Agrees found v → HasValue units v p → ⊥) → RootRests units root found wanted p
    → (v : ℤ) → (◌≡◌ {A = Option ℤ} None (Some v)) ↔ HasValue units v root
no_root_value units root p found wanted here never rests v = (
  λ e. cc,
  λ h. let k = (rests v).1 h in absurd (never v k.0 (k.1 p (omega arith) here)),
)

-- ---- from a position on

has_not : (m : UnitMap) → HasEntry m → m ≢ []
has_not m h e = let not : ◌≡◌ {A = UnitMap} [] (h.0 ∷ h.1) = sym e ∙ h.2 in cc

under_not : (front : List ℕ) (m : UnitMap) → HasEntry m → under front m ≢ []
under_not front m h e =
    let not : ◌≡◌ {A = UnitMap} [] ((front ++ h.0.0, h.0.1) ∷ under front h.1) = sym e ∙ ap (under front) h.2 in cc

holds_before : (units : List ℕ) (p : ℕ) {m : UnitMap} → Holds units p m → length units ≤ p → ⊥
holds_before units p h past = holds_within units h (slice_get_past units p past)

pub node_is_ahead : (units : List ℕ) (p : ℕ) → p < length units → IsNodeAhead units (Node p) p
node_is_ahead units p within = record {
  within = within;
  same = λ v. (
    λ h. elim h.1 [
      | inl holds ↦ (h.0, holds, h.2.1)
      | inr absent ↦ absurd (h.2.0 absent.1)
    ],
    λ h. (h.0, inl h.1, (has_not h.0 (holds_has units h.1), h.2)),
  );
}

pub node_past : (units : List ℕ) (p : ℕ) → length units ≤ p → (v : ℤ) → StandsForOneValue units (Node p) v → ⊥
node_past units p past v h = elim h.1 [
  | inl holds ↦ holds_before units p holds past
  | inr absent ↦ h.2.0 absent.1
]

pub run_is_ahead : (units : List ℕ) (p left q : ℕ) → q ≡ p + (left + 1) → q < length units → IsNodeAhead units (Run p left) q
run_is_ahead units p left q e within = record {
  within = within;
  same = λ v. (
    λ h.
        let front : List ℕ = take (left + 1) (drop p units) in
        let r : InRun units p (left + 1) h.0 = h.1 in
        (r.rest, rw e r.node, values_under front r.rest v (rw r.keys at h.2.1)),
    λ h.
        let front : List ℕ = take (left + 1) (drop p units) in (
          under front h.0,
          record { rest = h.0; within = omega (arith, e); node = rw e at h.1; keys = refl },
          (under_not front h.0 (holds_has units h.1), under_values front h.0 v h.2),
        ),
  );
}

pub run_past : (units : List ℕ) (p left q : ℕ) → q ≡ p + (left + 1) → length units ≤ q
    → (v : ℤ) → StandsForOneValue units (Run p left) v → ⊥
run_past units p left q e past v h =
    let r : InRun units p (left + 1) h.0 = h.1 in holds_before units (p + (left + 1)) r.node (omega (arith, e))

-- ---- the map of a position

pub stands_one : (units : List ℕ) (place : Place) (m m' : UnitMap) → Stands units place m → Stands units place m' → m ≡ m'
stands_one units Nowhere m m' h h' = h ∙ sym h'
stands_one units (Node p) m m' (inl h) (inl h') = holds_one units h h'
stands_one units (Node p) m m' (inl h) (inr h') = absurd (holds_within units h h'.0)
stands_one units (Node p) m m' (inr h) (inl h') = absurd (holds_within units h' h.0)
stands_one units (Node p) m m' (inr h) (inr h') = h.1 ∙ sym h'.1
stands_one units (Run p left) m m' h h' =
    h.keys ∙ ap (under (take (left + 1) (drop p units))) (holds_one units h.node h'.node) ∙ sym h'.keys

pub value_after : (units : List ℕ) (place : Place) (m : UnitMap) (told : Option ℤ) (v : ℤ)
    → ((told ≡ Some v) ↔ StandsForOneValue units place v) → Stands units place m → (told ≡ Some v) ↔ HaveOneValue m v
value_after units place m told v exact h = (
  λ e. let k = exact.0 e in subst (λ z. HaveOneValue z v) (stands_one units place k.0 m k.1 h) k.2,
  λ one. exact.1 (m, h, one),
)
