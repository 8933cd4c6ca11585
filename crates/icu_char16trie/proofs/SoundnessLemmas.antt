-- Which nodes of units have to be present.
use Rattle.std.proofs.Common.{◌≡◌, ℕ, zero, suc, ◌+◌, ◌-◌, ◌/◌, ◌%◌, ◌<◌, ◌≤◌, Bool, true, false, nat_eq, List, [], ◌∷◌, ◌++◌, Option, Some, None, length, get_or, set, slice_get, take, drop, refl, sym, ap, subst, ◌∙◌, arith, ◌⊎◌, inl, inr, length-set}
use Rattle.std.specs.Int.{cast_signed, w32}
use Rattle.std.specs.Option.{is_some}
use Rattle.std.specs.Prelude.{MatchOption}
use Rattle.std.proofs.lemmas.Option.{same_Some, slice_get_past}
use Rattle.std.proofs.lemmas.Bool.{eq-eqb, eqb-false, eqb-true, false≢true, ne_eqb}
use Rattle.icu_char16trie.specs.Numbers.{entry_child, short_end, lower_part, delta_end, short_number, node_number, node_end}
use Rattle.icu_char16trie.specs.Grammar.{Arms, Part, last, entry, split, UnitsBelow, UnitsFrom, IsAscending, branch_len, branch_start, final, plain, valued, run, branch, Children, none, more}
use Rattle.icu_char16trie.specs.UnitMap.{UnitMap, under}
use Rattle.icu_char16trie.specs.Inside.Soundness.{HasMap, HasMatch, AllHold, AllHaveMaps, AllBetween, places_of, IsWanted, want_all, AllWantedHold, AllWantedHave, PartWalked, IsNoPart, RestsOnWanted}
use Rattle.icu_char16trie.specs.Inside.Counts.{MatchKids, after_run, of_arms, no_kids, of_plain, of_valued, NodeLeadsTo, AllWanted, LeadsToWanted, IsClosed}
use Rattle.icu_char16trie.proofs.PartLemmas.{last_is, entry_found, split_found}
use Rattle.icu_char16trie.proofs.NodeLemmas.{matches_run, matches_branch, holds_plain, holds_valued, holds_within}
use Rattle.icu_char16trie.proofs.OneMap.{any_from, from_more, part_one}

-- ---- arms

units_below_more : (s t : ℕ) (arms : Arms) → s ≤ t → UnitsBelow s arms → UnitsBelow t arms
units_below_more s t [] h b = tt
units_below_more s t (a ∷ arms) h b = (omega (arith, b.0), units_below_more s t arms h b.1)

below_append : (s : ℕ) (lower upper : Arms) → UnitsBelow s lower → UnitsBelow s upper → UnitsBelow s (lower ++ upper)
below_append s [] upper b c = c
below_append s (a ∷ lower) upper b c = (b.0, below_append s lower upper b.1 c)

below_front : (s : ℕ) (lower upper : Arms) → UnitsBelow s (lower ++ upper) → UnitsBelow s upper
below_front s [] upper b = b
below_front s (a ∷ lower) upper b = below_front s lower upper b.1

from_append : (s : ℕ) (lower upper : Arms) → UnitsFrom s lower → UnitsFrom s upper → UnitsFrom s (lower ++ upper)
from_append s [] upper f g = g
from_append s (a ∷ lower) upper f g = (f.0, from_append s lower upper f.1 g)

from_lower : (s : ℕ) (lower upper : Arms) → UnitsFrom s (lower ++ upper) → UnitsFrom s lower
from_lower s [] upper f = tt
from_lower s (a ∷ lower) upper f = (f.0, from_lower s lower upper f.1)

ascending_append : (s : ℕ) (lower upper : Arms) → IsAscending lower → IsAscending upper → UnitsBelow s lower → UnitsFrom s upper
    → IsAscending (lower ++ upper)
ascending_append s [] upper a b c d = b
ascending_append s (x ∷ lower) upper a b c d =
    (from_append (x.0 + 1) lower upper a.0 (from_more (x.0 + 1) s upper (omega (arith, c.0)) d), ascending_append s lower upper a.1 b c.1 d)

ascending_lower : (lower upper : Arms) → IsAscending (lower ++ upper) → IsAscending lower
ascending_lower [] upper a = tt
ascending_lower (x ∷ lower) upper a = (from_lower (x.0 + 1) lower upper a.0, ascending_lower lower upper a.1)

ascending_upper : (lower upper : Arms) → IsAscending (lower ++ upper) → IsAscending upper
ascending_upper [] upper a = a
ascending_upper (x ∷ lower) upper a = ascending_upper lower upper a.1

pub places_append : (lower upper : Arms) → places_of (lower ++ upper) ≡ places_of lower ++ places_of upper
places_append [] upper = refl
places_append (a ∷ lower) upper = ap (λ z. a.1 ∷ z) (places_append lower upper)

-- ---- indices

have_lower : (units places others : List ℕ) → AllHaveMaps units (places ++ others) → AllHaveMaps units places
have_lower units [] others h = tt
have_lower units (q ∷ places) others h = (h.0, have_lower units places others h.1)

have_upper : (units places others : List ℕ) → AllHaveMaps units (places ++ others) → AllHaveMaps units others
have_upper units [] others h = h
have_upper units (q ∷ places) others h = have_upper units places others h.1

between_append : (p n : ℕ) (places others : List ℕ) → AllBetween p n places → AllBetween p n others → AllBetween p n (places ++ others)
between_append p n [] others b c = c
between_append p n (q ∷ places) others b c = (b.0, b.1, between_append p n places others b.2 c)

between_more : (p p' n : ℕ) (places : List ℕ) → p ≤ p' → AllBetween p' n places → AllBetween p n places
between_more p p' n [] h b = tt
between_more p p' n (q ∷ places) h b = (omega (arith, b.0), b.1, between_more p p' n places h b.2)

want_append : (places others : List ℕ) (wanted : List Bool) → want_all (places ++ others) wanted ≡ want_all others (want_all places wanted)
want_append [] others wanted = refl
want_append (q ∷ places) others wanted = want_append places others (set wanted q true)

set_wants : (wanted : List Bool) (p q : ℕ) → IsWanted wanted q → IsWanted (set wanted p true) q
set_wants [] p q h = cc
set_wants (x ∷ wanted) zero zero h = refl
set_wants (x ∷ wanted) zero (suc q) h = h
set_wants (x ∷ wanted) (suc p) zero h = h
set_wants (x ∷ wanted) (suc p) (suc q) h = set_wants wanted p q h

set_here : (wanted : List Bool) (p : ℕ) → p < length wanted → IsWanted (set wanted p true) p
set_here [] p h = absurd (omega arith)
set_here (x ∷ wanted) zero h = refl
set_here (x ∷ wanted) (suc p) h = set_here wanted p (omega arith)

set_only : (wanted : List Bool) (p q : ℕ) → IsWanted (set wanted p true) q → (q ≡ p) ⊎ IsWanted wanted q
set_only [] p q h = inr h
set_only (x ∷ wanted) zero zero h = inl refl
set_only (x ∷ wanted) zero (suc q) h = inr h
set_only (x ∷ wanted) (suc p) zero h = inr h
set_only (x ∷ wanted) (suc p) (suc q) h = elim (set_only wanted p q h) [ inl e ↦ inl (ap suc e) | inr w ↦ inr w ]

want_keeps : (places : List ℕ) (wanted : List Bool) (q : ℕ) → IsWanted wanted q → IsWanted (want_all places wanted) q
want_keeps [] wanted q h = h
want_keeps (p ∷ places) wanted q h = want_keeps places (set wanted p true) q (set_wants wanted p q h)

-- What holds at all marked indices holds at the ones that were marked last.
pub want_made : (P : ℕ → Type 0) (places : List ℕ) (wanted : List Bool) (p n : ℕ) → n ≡ length wanted → AllBetween p n places
    → AllWantedHold P (want_all places wanted) (p + 1) → AllHold P places
want_made P [] wanted p n e b all = tt
want_made P (q ∷ places) wanted p n e b all = (
  all q (omega (arith, b.0)) (want_keeps places (set wanted q true) q (set_here wanted q (omega (arith, b.1)))),
  want_made P places (set wanted q true) p n (e ∙ sym (length-set wanted q true)) b.2 all,
)

want_only : (P : ℕ → Type 0) (places : List ℕ) (wanted : List Bool) (q : ℕ) → AllHold P places → (IsWanted wanted q → P q)
    → IsWanted (want_all places wanted) q → P q
want_only P [] wanted q have other h = other h
want_only P (p ∷ places) wanted q have other h =
    want_only P places (set wanted p true) q have.1
    (λ w. elim (set_only wanted p q w) [ inl e ↦ subst P (sym e) have.0 | inr k ↦ other k ]) h

-- ---- nodes and branches

children_have : (units : List ℕ) {arms : Arms} {m : UnitMap} → Children units arms m → AllHaveMaps units (places_of arms)
children_have units (none arms m a e) = rw a tt
children_have units (more u q rest arms m others all a node c e) = rw a ((m, node), children_have units c)

have_children : (units : List ℕ) (arms : Arms) → AllHaveMaps units (places_of arms) → (m : UnitMap) × Children units arms m
have_children units [] h = ([], none [] [] refl refl)
have_children units (a ∷ arms) h =
    let r = have_children units arms h.1 in
    (under (a.0 ∷ []) h.0.0 ++ r.0, more a.0 a.1 arms (a ∷ arms) h.0.0 r.0 (under (a.0 ∷ []) h.0.0 ++ r.0) refl h.0.1 r.1 refl)

nothing_past : (units : List ℕ) (q : ℕ) → length units ≤ q → HasMap units q → ⊥
nothing_past units q h has = holds_within units has.1 (slice_get_past units q h)

-- Maps both cases of a result.
pub on_both : {X A A' : Type 0} {B B' : X → Type 0} (r : Option X) → (A → A') → ((x : X) → B x → B' x) → MatchOption r A B
    → MatchOption r A' B'
on_both None f g h = f h
on_both (Some x) f g h = g x h

pub when_some : (A B : Type 0) (r : Option (Unit {0})) → is_some r ≡ true → MatchOption r A (λ _. B) → B
when_some A B None e h = cc
when_some A B (Some x) e h = h

-- ---- a part that is visited

pub last_walked : (units : List ℕ) (p n u from : ℕ) (old : List Bool) → n ≡ 1 → slice_get units p ≡ Some u → from ≤ u → p + 1 < length units
    → PartWalked units p n from (u + 1) old (set old (p + 1) true)
last_walked units p n u from old one g le within = record {
  arms = (u, p + 1) ∷ [];
  part = last p n u ((u, p + 1) ∷ []) one g refl;
  ascending = (tt, tt);
  above = (le, tt);
  below = (omega arith, tt);
  least = λ s b. omega (arith, b.0);
  some = omega arith;
  ahead = (omega arith, within, tt);
  wanted = refl;
}

pub entry_walked : (units : List ℕ) (p n u v child q from next : ℕ) (old new : List Bool) → 1 < n → n ≤ 5 → slice_get units p ≡ Some u
    → slice_get units (p + 1) ≡ Some v
    → entry_child units (p + 2) v ≡ Some child → q ≡ short_end (p + 2) (v % 0x8000) → from ≤ u → p < child → child < length units → p ≤ q
    → PartWalked units q (n - 1) (u + 1) next (set old child true) new
    → PartWalked units p n from next old new
entry_walked units p n u v child q from next old new many few g g' c e le after within on w = record {
  arms = (u, child) ∷ w.arms;
  part = entry p n u v child w.arms ((u, child) ∷ w.arms) many few g g' c (rw e at w.part) refl;
  ascending = (w.above, w.ascending);
  above = (le, from_more from (u + 1) w.arms (omega arith) w.above);
  below = (omega (arith, w.some), w.below);
  least = λ s b. w.least s b.1;
  some = omega (arith, w.some);
  ahead = (after, within, between_more p q (length units) (places_of w.arms) on w.ahead);
  wanted = w.wanted;
}

pub split_walked : (units : List ℕ) (p n s d low high from mid next : ℕ) (old between new : List Bool) → 5 < n
    → slice_get units p ≡ Some s → slice_get units (p + 1) ≡ Some d
    → lower_part units (p + 2) d ≡ Some low → high ≡ delta_end (p + 2) d → p ≤ low → p ≤ high → mid ≤ s
    → PartWalked units low (n / 2) from mid old between
    → PartWalked units high (n - n / 2) s next between new
    → PartWalked units p n from next old new
split_walked units p n s d low high from mid next old between new many g g' c e on on' le l w = record {
  arms = l.arms ++ w.arms;
  part = split p n s d low l.arms w.arms (l.arms ++ w.arms) many g g' c l.part (rw e at w.part)
      (units_below_more mid s l.arms le l.below) w.above refl;
  ascending = ascending_append s l.arms w.arms l.ascending w.ascending (units_below_more mid s l.arms le l.below) w.above;
  above = from_append from l.arms w.arms l.above (from_more from s w.arms (omega (arith, l.some)) w.above);
  below = below_append next l.arms w.arms (units_below_more mid next l.arms (omega (arith, w.some)) l.below) w.below;
  least = λ t b. w.least t (below_front t l.arms w.arms b);
  some = omega (arith, l.some, w.some);
  ahead = rw (places_append l.arms w.arms)
      (between_append p (length units) (places_of l.arms) (places_of w.arms)
      (between_more p low (length units) (places_of l.arms) on l.ahead)
      (between_more p high (length units) (places_of w.arms) on' w.ahead));
  wanted = rw (places_append l.arms w.arms, want_append (places_of l.arms) (places_of w.arms) old) (rw l.wanted at w.wanted);
}

-- ---- a part that is rejected

pub no_last_child : (units : List ℕ) (p n u from : ℕ) → n ≤ 1 → slice_get units p ≡ Some u → length units ≤ p + 1 → IsNoPart units p n from
no_last_child units p n u from few g past arms part up f have =
    let is = last_is units part few u g in
    let h : AllHaveMaps units (places_of ((u, p + 1) ∷ [])) = rw is at have in
    nothing_past units (p + 1) past h.0

pub no_child : (units : List ℕ) (p n u v child from : ℕ) → 1 < n → n ≤ 5 → slice_get units p ≡ Some u → slice_get units (p + 1) ≡ Some v
    → entry_child units (p + 2) v ≡ Some child → length units ≤ child → IsNoPart units p n from
no_child units p n u v child from many few g g' c past arms part up f have =
    let e = entry_found units part many few u v g g' in
    let same : e.child ≡ child = same_Some e.child child (sym e.at ∙ c) in
    let h : AllHaveMaps units (places_of ((u, e.child) ∷ e.rest)) = rw e.is at have in
    nothing_past units e.child (omega (arith, same)) h.0

pub no_rest : (units : List ℕ) (p n u v q from : ℕ) → 1 < n → n ≤ 5 → slice_get units p ≡ Some u → slice_get units (p + 1) ≡ Some v
    → q ≡ short_end (p + 2) (v % 0x8000) → IsNoPart units q (n - 1) (u + 1) → IsNoPart units p n from
no_rest units p n u v q from many few g g' at never arms part up f have =
    let e = entry_found units part many few u v g g' in
    let up' : IsAscending ((u, e.child) ∷ e.rest) = rw e.is at up in
    let h : AllHaveMaps units (places_of ((u, e.child) ∷ e.rest)) = rw e.is at have in
    never e.rest (rw at e.others) up'.1 up'.0 h.1

pub no_lower : (units : List ℕ) (p n s d low from : ℕ) → 5 < n → slice_get units p ≡ Some s → slice_get units (p + 1) ≡ Some d
    → lower_part units (p + 2) d ≡ Some low
    → IsNoPart units low (n / 2) from → IsNoPart units p n from
no_lower units p n s d low from many g g' c never arms part up f have =
    let e = split_found units part many s d g g' in
    let same : e.low ≡ low = same_Some e.low low (sym e.at ∙ c) in
    let up' : IsAscending (e.lower ++ e.upper) = rw e.is at up in
    let f' : UnitsFrom from (e.lower ++ e.upper) = rw e.is at f in
    let h : AllHaveMaps units (places_of e.lower ++ places_of e.upper) = rw (e.is, places_append e.lower e.upper) at have in
    never e.lower (rw same at e.below) (ascending_lower e.lower e.upper up') (from_lower from e.lower e.upper f')
    (have_lower units (places_of e.lower) (places_of e.upper) h)

pub no_upper : (units : List ℕ) (p n s d high from : ℕ) → 5 < n → slice_get units p ≡ Some s → slice_get units (p + 1) ≡ Some d
    → high ≡ delta_end (p + 2) d
    → IsNoPart units high (n - n / 2) s → IsNoPart units p n from
no_upper units p n s d high from many g g' at never arms part up f have =
    let e = split_found units part many s d g g' in
    let up' : IsAscending (e.lower ++ e.upper) = rw e.is at up in
    let h : AllHaveMaps units (places_of e.lower ++ places_of e.upper) = rw (e.is, places_append e.lower e.upper) at have in
    never e.upper (rw at e.above) (ascending_upper e.lower e.upper up') e.right_of_split
    (have_upper units (places_of e.lower) (places_of e.upper) h)

-- A unit of the lower part is not below the split unit.
pub no_side : (units : List ℕ) (p n s d low from mid : ℕ) (old new : List Bool) → 5 < n → slice_get units p ≡ Some s
    → slice_get units (p + 1) ≡ Some d
    → lower_part units (p + 2) d ≡ Some low → PartWalked units low (n / 2) from mid old new → s < mid → IsNoPart units p n from
no_side units p n s d low from mid old new many g g' c w lt arms part up f have =
    let e = split_found units part many s d g g' in
    let same : e.low ≡ low = same_Some e.low low (sym e.at ∙ c) in
    let arms_same : e.lower ≡ w.arms = part_one units (rw same at e.below) w.part in
    let b : UnitsBelow s w.arms = rw arms_same at e.left_of_split in
    omega (arith, w.least s b)

-- ---- a match node and a node

pub run_rests : (units : List ℕ) (p low q : ℕ) (old : List Bool) → 0x30 ≤ low → low < 0x40 → q ≡ p + (low - 0x2f) → q < length units
    → RestsOnWanted units p (HasMatch units p low) (MatchKids units p low) old (set old q true)
run_rests units p low q old big small e within = record {
  places = q ∷ [];
  leads = after_run p low (q ∷ []) big (ap (λ z. z ∷ []) e);
  ahead = (omega (arith, e), within, tt);
  wanted = refl;
  makes = λ h. (under (take (low - 0x2f) (drop p units)) h.0.0, run p low _ h.0.0 big small (omega (arith, e)) (rw e at h.0.1) refl);
  gives = λ h. let r = matches_run units h.1 big in ((r.rest, rw e r.node), tt);
}

pub no_run : (units : List ℕ) (p low q : ℕ) → 0x30 ≤ low → q ≡ p + (low - 0x2f) → length units ≤ q → HasMatch units p low → ⊥
no_run units p low q big e past h =
    let r = matches_run units h.1 big in nothing_past units q past (r.rest, rw e r.node)

pub branch_rests : (units : List ℕ) (p low n start next : ℕ) (old new : List Bool) → low < 0x30 → branch_len units p low ≡ Some n → 1 ≤ n
    → start ≡ branch_start p low → p ≤ start
    → PartWalked units start (n + 1) 0 next old new → RestsOnWanted units p (HasMatch units p low) (MatchKids units p low) old new
branch_rests units p low n start next old new small len some e on w = record {
  places = places_of w.arms;
  leads = of_arms p low n w.arms (places_of w.arms) small len (rw e at w.part) refl;
  ahead = between_more p start (length units) (places_of w.arms) on w.ahead;
  wanted = w.wanted;
  makes = λ h. let c = have_children units w.arms h in (c.0, branch p low n w.arms c.0 small len some (rw e at w.part) w.ascending c.1);
  gives = λ h.
      let b = matches_branch units h.1 small in
      let same : b.n ≡ n = same_Some b.n n (sym b.len ∙ len) in
      let part : Part units start (n + 1) b.arms = rw (e, ← same) b.part in
      let arms_same : b.arms ≡ w.arms = part_one units part w.part in
      rw (← arms_same) (children_have units b.children);
}

pub no_branch : (units : List ℕ) (p low n start : ℕ) → low < 0x30 → branch_len units p low ≡ Some n → start ≡ branch_start p low
    → IsNoPart units start (n + 1) 0 → HasMatch units p low → ⊥
no_branch units p low n start small len e never h =
    let b = matches_branch units h.1 small in
    let same : b.n ≡ n = same_Some b.n n (sym b.len ∙ len) in
    let part : Part units start (n + 1) b.arms = rw (e, ← same) b.part in
    never b.arms part b.ascending (any_from b.arms) (children_have units b.children)

pub short_len : (units : List ℕ) (p low : ℕ) → 0 < low → branch_len units p low ≡ Some low
short_len units p low some = let other : nat_eq low 0 ≡ false = ne_eqb low 0 (λ e. omega arith) in rw other refl

pub short_start : (p low : ℕ) → 0 < low → p ≡ branch_start p low
short_start p low some = let other : nat_eq low 0 ≡ false = ne_eqb low 0 (λ e. omega arith) in rw other refl

pub long_len : (units : List ℕ) (p low : ℕ) (n : Option ℕ) → low ≤ 0 → slice_get units p ≡ n → branch_len units p low ≡ n
long_len units p low n zero' g = let same : nat_eq low 0 ≡ true = eq-eqb low 0 (omega arith) in rw same g

pub long_start : (p low : ℕ) → low ≤ 0 → p + 1 ≡ branch_start p low
long_start p low zero' = let same : nat_eq low 0 ≡ true = eq-eqb low 0 (omega arith) in rw same refl

pub final_rests : (units : List ℕ) (p lead n : ℕ) (old : List Bool) → slice_get units p ≡ Some lead → 0x8000 ≤ lead
    → short_number units (p + 1) (lead - 0x8000) ≡ Some n
    → RestsOnWanted units p (HasMap units p) (NodeLeadsTo units p) old old
final_rests units p lead n old g big s = record {
  places = [];
  leads = (1, no_kids p lead 1 [] g big refl refl);
  ahead = tt;
  wanted = refl;
  makes = λ h. (([], cast_signed w32 n) ∷ [], final p lead n _ g big s refl);
  gives = λ h. tt;
}

pub plain_rests : (units : List ℕ) (p lead : ℕ) (old new : List Bool) → slice_get units p ≡ Some lead → lead < 0x40
    → RestsOnWanted units (p + 1) (HasMatch units (p + 1) lead) (MatchKids units (p + 1) lead) old new
    → RestsOnWanted units p (HasMap units p) (NodeLeadsTo units p) old new
plain_rests units p lead old new g small r = record {
  places = r.places;
  leads = (0, of_plain p lead 0 r.places g small refl r.leads);
  ahead = between_more p (p + 1) (length units) r.places (omega arith) r.ahead;
  wanted = r.wanted;
  makes = λ h. let m = r.makes h in (m.0, plain p lead m.0 g small m.1);
  gives = λ h. r.gives (h.0, holds_plain units h.1 lead g small);
}

pub no_plain : (units : List ℕ) (p lead : ℕ) → slice_get units p ≡ Some lead → lead < 0x40 → (HasMatch units (p + 1) lead → ⊥)
    → HasMap units p → ⊥
no_plain units p lead g small never h = never (h.0, holds_plain units h.1 lead g small)

pub valued_rests : (units : List ℕ) (p lead n q : ℕ) (old new : List Bool) → slice_get units p ≡ Some lead → 0x40 ≤ lead → lead < 0x8000
    → node_number units (p + 1) lead ≡ Some n
    → q ≡ node_end (p + 1) lead → p ≤ q → RestsOnWanted units q (HasMatch units q (lead % 64)) (MatchKids units q (lead % 64)) old new
    → RestsOnWanted units p (HasMap units p) (NodeLeadsTo units p) old new
valued_rests units p lead n q old new g big small s e on r = record {
  places = r.places;
  leads = (1, of_valued p lead 1 r.places g big small refl (rw e at r.leads));
  ahead = between_more p q (length units) r.places on r.ahead;
  wanted = r.wanted;
  makes = λ h. let m = r.makes h in (([], cast_signed w32 n) ∷ m.0, valued p lead n _ m.0 g big small s (rw e at m.1) refl);
  gives = λ h. let v = holds_valued units h.1 lead g big small in r.gives (v.rest, rw e v.node);
}

pub no_valued : (units : List ℕ) (p lead q : ℕ) → slice_get units p ≡ Some lead → 0x40 ≤ lead → lead < 0x8000 → q ≡ node_end (p + 1) lead
    → (HasMatch units q (lead % 64) → ⊥) → HasMap units p → ⊥
no_valued units p lead q g big small e never h = let v = holds_valued units h.1 lead g big small in never (v.rest, rw e v.node)

-- ---- all indices

-- If P holds at p whenever it holds at the indices marked there, and it holds at all indices marked
-- from p + 1 on, then it holds at all indices marked from p on.
pub back_places : (P : ℕ → Type 0) (places : List ℕ) (p n : ℕ) (old new : List Bool) → n ≡ length old → AllBetween p n places
    → new ≡ want_all places old → (AllHold P places → P p) → AllWantedHold P new (p + 1) → AllWantedHold P old p
back_places P places p n old new len ahead e makes all q le w = by (nat_eq q p) refl
  where
    by : (b : Bool) → nat_eq q p ≡ b → P q
    by true same = subst P (sym (eqb-true q p same)) (makes (want_made P places old p n len ahead (rw e at all)))
    by false other = all q (omega (arith, eqb-false q p other)) (rw e (want_keeps places old q w))

pub forth_places : (P : ℕ → Type 0) (places : List ℕ) (p : ℕ) (old new : List Bool) → new ≡ want_all places old → AllHold P places
    → AllWantedHold P old p → AllWantedHold P new (p + 1)
forth_places P places p old new e have all q le w = want_only P places old q have (all q (omega arith)) (rw e at w)

pub back_sound : (units : List ℕ) (p : ℕ) (old new : List Bool) → length units ≡ length old
    → RestsOnWanted units p (HasMap units p) (NodeLeadsTo units p) old new
    → AllWantedHave units new (p + 1) → AllWantedHave units old p
back_sound units p old new len r = back_places (HasMap units) r.places p (length units) old new len r.ahead r.wanted r.makes

pub forth_sound : (units : List ℕ) (p : ℕ) (old new : List Bool) → IsWanted old p
    → RestsOnWanted units p (HasMap units p) (NodeLeadsTo units p) old new
    → AllWantedHave units old p → AllWantedHave units new (p + 1)
forth_sound units p old new here r all =
    forth_places (HasMap units) r.places p old new r.wanted (r.gives (all p (omega arith) here)) all

-- A marked index differs from one that is not marked.
other_place : (wanted : List Bool) (p q : ℕ) → get_or wanted p false ≡ false → IsWanted wanted q → q ≡ p → ⊥
other_place wanted p q never w e = let w' : get_or wanted p false ≡ true = rw e at w in false≢true (sym never ∙ w')

pub back_unwanted : (P : ℕ → Type 0) (p : ℕ) (wanted : List Bool) → get_or wanted p false ≡ false → AllWantedHold P wanted (p + 1)
    → AllWantedHold P wanted p
back_unwanted P p wanted never all q le w = all q (omega (arith, other_place wanted p q never w)) w

pub forth_unwanted : (P : ℕ → Type 0) (p : ℕ) (wanted : List Bool) → AllWantedHold P wanted p → AllWantedHold P wanted (p + 1)
forth_unwanted P p wanted all q le w = all q (omega arith) w

-- ---- the nodes that a node leads to are marked

want_back : (places : List ℕ) (wanted : List Bool) (q p n : ℕ) → q ≤ p → AllBetween p n places → IsWanted (want_all places wanted) q
    → IsWanted wanted q
want_back [] wanted q p n le b w = w
want_back (r ∷ places) wanted q p n le b w =
    elim (set_only wanted r q (want_back places (set wanted r true) q p n le b.2 w)) [ inl e ↦ absurd (omega (arith, b.0, e)) | inr k ↦ k ]

all_wanted : (places : List ℕ) (wanted : List Bool) (p n : ℕ) → n ≡ length wanted → AllBetween p n places
    → AllWanted (want_all places wanted) places
all_wanted [] wanted p n e b = tt
all_wanted (q ∷ places) wanted p n e b = (
  want_keeps places (set wanted q true) q (set_here wanted q (omega (arith, b.1))),
  all_wanted places (set wanted q true) p n (e ∙ sym (length-set wanted q true)) b.2,
)

keeps_all : (kids places : List ℕ) (wanted : List Bool) → AllWanted wanted kids → AllWanted (want_all places wanted) kids
keeps_all [] places wanted a = tt
keeps_all (q ∷ kids) places wanted a = (want_keeps places wanted q a.0, keeps_all kids places wanted a.1)

pub closed_next : (units : List ℕ) (p : ℕ) (old new : List Bool) → length units ≡ length old
    → RestsOnWanted units p (HasMap units p) (NodeLeadsTo units p) old new
    → IsClosed units old p → IsClosed units new (p + 1)
closed_next units p old new len r closed q lt w = by (nat_eq q p) refl
  where
    by : (b : Bool) → nat_eq q p ≡ b → LeadsToWanted units new q
    by true e = subst (LeadsToWanted units new) (sym (eqb-true q p e)) (record {
      own = r.leads.0;
      kids = r.places;
      node = r.leads.1;
      ahead = r.ahead;
      all = rw r.wanted (all_wanted r.places old p (length units) len r.ahead);
    })
    by false e =
        let w' : IsWanted old q = want_back r.places old q p (length units) (omega arith) r.ahead (rw r.wanted at w) in
        let l = closed q (omega (arith, eqb-false q p e)) w' in
        record { own = l.own; kids = l.kids; node = l.node; ahead = l.ahead; all = rw r.wanted (keeps_all l.kids r.places old l.all) }

pub closed_unwanted : (units : List ℕ) (p : ℕ) (wanted : List Bool) → get_or wanted p false ≡ false → IsClosed units wanted p
    → IsClosed units wanted (p + 1)
closed_unwanted units p wanted never closed q lt w = closed q (omega (arith, other_place wanted p q never w)) w

pub kept_wanted : (units : List ℕ) (p : ℕ) (old new : List Bool) → RestsOnWanted units p (HasMap units p) (NodeLeadsTo units p) old new
    → (q : ℕ) → IsWanted old q → IsWanted new q
kept_wanted units p old new r q w = rw r.wanted (want_keeps r.places old q w)
