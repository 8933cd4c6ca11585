-- The units that can come next are the first units of the keys.
use Rattle.std.proofs.Common.{◌≡◌, ℕ, ℤ, ◌+◌, ◌-◌, ◌/◌, ◌<◌, ◌≤◌, true, false, nat_eq, List, [], ◌∷◌, ◌++◌, Option, Some, None, refl, sym, ap, subst, ◌∙◌, arith, slice_get, drop, take, append_assoc, append-nil, get_or}
use Rattle.std.proofs.lemmas.Bool.{ne_eqb, eq-eqb}
use Rattle.std.proofs.lemmas.Option.{none-some, same_Some, slice_get-get_or}
use Rattle.icu_char16trie.specs.Grammar.{Part, last, entry, split, Matches, Children, none, more, UnitsFrom, IsAscending}
use Rattle.icu_char16trie.specs.UnitMap.{UnitMap, under}
use Rattle.icu_char16trie.specs.UnitPlaces.{InRun, Stands}
use Rattle.icu_char16trie.specs.NextUnits.{first_units, without_first, unit_list, RowUnits, PartUnits, MatchUnits, NodeUnits, GoesOnWith}
use Rattle.icu_char16trie.specs.NextUnits as says
use Rattle.icu_char16trie.specs.Numbers.{delta_end, lower_part}
use Rattle.icu_char16trie.specs.Inside.Adding.{Adds}
use Rattle.icu_char16trie.specs.Inside.Walking.{own}
use Rattle.icu_char16trie.specs.declared.place.Place.{Place}
use Rattle.icu_char16trie.specs.declared.place.Place.TheVariants.{Nowhere, Node, Run}
use Rattle.icu_char16trie.proofs.NextLemmas.{stands_absent, stands_by}
use Rattle.icu_char16trie.proofs.NodeLemmas.{HasEntry, holds_has, matches_branch, matches_run, run_keys, under_has}
use Rattle.icu_char16trie.proofs.OpeningLemmas.{length_gone}
use Rattle.icu_char16trie.proofs.PartLemmas.{entry_found, last_is, part_begins, part_goes_on}

-- The units of arms.
abbrev arm_units : List (ℕ × ℕ) → List ℕ
arm_units [] = []
arm_units (a ∷ arms) = a.0 ∷ arm_units arms

arms_joined : (lower upper : List (ℕ × ℕ)) → arm_units (lower ++ upper) ≡ arm_units lower ++ arm_units upper
arms_joined [] upper = refl
arms_joined (a ∷ lower) upper = ap (λ z. a.0 ∷ z) (arms_joined lower upper)

row_says : (units : List ℕ) {p n : ℕ} {us : List ℕ} → RowUnits units p n us → {arms : List (ℕ × ℕ)} → Part units p n arms → n ≤ 5
    → us ≡ arm_units arms
row_says units (says.gone p n us few g e) part le = absurd (part_begins units part g)
row_says units (says.last p n u us few g e) part le = e ∙ sym (ap arm_units (last_is units part few u g))
row_says units (says.cut p n us many g e) part le = absurd (part_goes_on units part many g)
row_says units (says.more p n u v rest us many g g' r e) part le =
    let f = entry_found units part many le u v g g' in
    e ∙ ap (λ z. u ∷ z) (row_says units r f.others (omega (arith, le))) ∙ sym (ap arm_units f.is)

record IsBig (units : List ℕ) (p n d : ℕ) (arms : List (ℕ × ℕ)) : Type 0 where
  low : ℕ
  lower : List (ℕ × ℕ)
  upper : List (ℕ × ℕ)
  at : lower_part units (p + 2) d ≡ Some low
  is : arms ≡ lower ++ upper
  below : Part units low (n / 2) lower
  above : Part units (delta_end (p + 2) d) (n - n / 2) upper

-- A part of more than five entries.
big_part : (units : List ℕ) {p n : ℕ} {arms : List (ℕ × ℕ)} → Part units p n arms → 5 < n → (d : ℕ) → slice_get units (p + 1) ≡ Some d
    → IsBig units p n d arms
big_part units (last p n u arms e g a) many d h = absurd (omega (arith, e, many))
big_part units (entry p n u v child rest arms m few g g' c r a) many d h = absurd (omega (arith, few, many))
big_part units (split p n s d' low lower upper arms m g g' c l r b f a) many d h =
    let same : d' ≡ d = cc in
    record { low = low; lower = lower; upper = upper; at = rw (← same) c; is = a; below = l; above = rw (← same) r }

part_says : (units : List ℕ) {p n : ℕ} {us : List ℕ} → PartUnits units p n us → {arms : List (ℕ × ℕ)} → Part units p n arms
    → us ≡ arm_units arms
part_says units (says.row p n us few r) part = row_says units r part few
part_says units (says.no_split p n us many g e) part = absurd (part_goes_on units part (omega (arith, many)) g)
part_says units (says.no_lower p n d us many g none' r) part =
    let b = big_part units part many d g in absurd (none-some _ (sym none' ∙ b.at))
part_says units (says.both p n d low lower upper us many g c l r e) part =
    let b = big_part units part many d g in
    let here : b.low ≡ low = same_Some b.low low (sym b.at ∙ c) in
    let below : lower ≡ arm_units b.lower = part_says units l (rw here at b.below) in
    let above : upper ≡ arm_units b.upper = part_says units r b.above in
    e ∙ ap (λ z. z ++ upper) below ∙ ap (λ z. arm_units b.lower ++ z) above ∙ sym (ap arm_units b.is ∙ arms_joined b.lower b.upper)

-- ---- the first units of keys

first_again : (u : ℕ) (us : List ℕ) → without_first u (u ∷ us) ≡ us
first_again u us = rw (eq-eqb u u refl) refl

first_under : (u : ℕ) (m others : UnitMap) (us : List ℕ) → first_units others ≡ us → without_first u us ≡ us → HasEntry m
    → first_units (under (u ∷ []) m ++ others) ≡ u ∷ us
unfolding first_units
first_under u [] others us e w h = absurd cc
first_under u (x ∷ []) others us e w h = ap (λ z. u ∷ without_first u z) e ∙ ap (λ z. u ∷ z) w
first_under u (x ∷ y ∷ m) others us e w h =
    ap (λ z. u ∷ without_first u z) (first_under u (y ∷ m) others us e w (y, m, refl)) ∙ ap (λ z. u ∷ z) (first_again u us)

none_first : (u : ℕ) (arms : List (ℕ × ℕ)) → UnitsFrom (u + 1) arms → without_first u (arm_units arms) ≡ arm_units arms
none_first u [] f = refl
none_first u (a ∷ arms) f = rw (ne_eqb a.0 u (λ e. absurd (omega (arith, e, f.0)))) refl

children_first : (units : List ℕ) {arms : List (ℕ × ℕ)} {m : UnitMap} → Children units arms m → IsAscending arms
    → first_units m ≡ arm_units arms
unfolding first_units
children_first units (none arms m a e) up = rw (a, e) refl
children_first units (more u q rest arms m others all a node c e) up =
    let up' : UnitsFrom (u + 1) rest × IsAscending rest = rw a at up in
    ap first_units e ∙ first_under u m others (arm_units rest) (children_first units c up'.1) (none_first u rest up'.0)
    (holds_has units node) ∙ sym (ap arm_units a)

run_first_unit : (units : List ℕ) (p k : ℕ) (m : UnitMap) → InRun units p (k + 1) m → unit_list (slice_get units p) ≡ first_units m
unfolding first_units
run_first_unit units p k m r =
    let x : ℕ = get_or units p 0 in
    let here : slice_get units p ≡ Some x = slice_get-get_or units p 0 (omega (arith, r.within)) in
    let keys : m ≡ under (x ∷ []) (under (take k (drop (p + 1) units)) r.rest) ++ [] =
    run_keys units p k x m r.rest r.keys here ∙ sym (append-nil (under (x ∷ []) (under (take k (drop (p + 1) units)) r.rest))) in
    let some = under_has (take k (drop (p + 1) units)) r.rest [] (under (take k (drop (p + 1) units)) r.rest)
    (sym (append-nil (under (take k (drop (p + 1) units)) r.rest))) (holds_has units r.node) in
    ap unit_list here ∙ sym (ap first_units keys ∙ first_under x (under (take k (drop (p + 1) units)) r.rest) [] [] refl refl some)

match_first : (units : List ℕ) {p low : ℕ} {us : List ℕ} {m : UnitMap} → MatchUnits units p low us → Matches units p low m
    → us ≡ first_units m
match_first units {m = m} (says.in_run p low us le e) h =
    let k : (low - 0x2f) ≡ (low - 0x30) + 1 = omega (arith, le) in
    e ∙ run_first_unit units p (low - 0x30) m (rw k at (matches_run units h le))
match_first units (says.in_short p low us pos small part) h =
    let b = matches_branch units h small in
    let not_zero : nat_eq low 0 ≡ false = ne_eqb low 0 (λ e. absurd (omega (arith, pos, e))) in
    let len : b.n ≡ low = sym (same_Some low b.n (rw not_zero at b.len)) in
    let whole : Part units p (b.n + 1) b.arms = rw not_zero at b.part in
    part_says units part (subst (λ z. Part units p (z + 1) b.arms) len whole) ∙ sym (children_first units b.children b.ascending)
match_first units (says.in_long p low n us zero' g part) h =
    let b = matches_branch units h (omega (arith, zero')) in
    let is_zero : nat_eq low 0 ≡ true = eq-eqb low 0 zero' in
    let at : slice_get units p ≡ Some b.n = rw is_zero at b.len in
    let len : b.n ≡ n = same_Some b.n n (sym at ∙ g) in
    let whole : Part units (p + 1) (b.n + 1) b.arms = rw is_zero at b.part in
    part_says units part (subst (λ z. Part units (p + 1) (z + 1) b.arms) len whole) ∙ sym (children_first units b.children b.ascending)
match_first units {m = m} (says.no_length p low us zero' g e) h = absurd (length_gone units p low (omega (arith, zero')) g m h)

own_first : (v : Option ℤ) (rest : UnitMap) → first_units (own v ++ rest) ≡ first_units rest
unfolding first_units
own_first None rest = refl
own_first (Some v) rest = refl

no_first : first_units [] ≡ []
unfolding first_units
no_first = refl

node_first : (units : List ℕ) {p : ℕ} {us : List ℕ} {m : UnitMap} → NodeUnits units p us → Stands units (Node p) m → us ≡ first_units m
node_first units {m = m} (says.no_lead p us g e) s = e ∙ sym (ap first_units (stands_absent units p m s g) ∙ no_first)
node_first units {m = m} (says.at_final p lead us g big e) s =
    let b = stands_by units p lead m s g in
    e ∙ sym (ap first_units b.is ∙ own_first _ b.rest ∙ ap first_units (b.last big) ∙ no_first)
node_first units {m = m} (says.at_match p lead us g small part) s =
    let b = stands_by units p lead m s g in
    match_first units part (b.node small) ∙ sym (ap first_units b.is ∙ own_first _ b.rest)

-- The units that can come next at a position, if the grammar holds.
pub place_first : (units : List ℕ) (place : Place) (us : List ℕ) (m : UnitMap) → GoesOnWith units place us → Stands units place m
    → us ≡ first_units m
place_first units Nowhere us m g s = g ∙ sym (ap first_units s ∙ no_first)
place_first units (Node p) us m g s = node_first units g s
place_first units (Run p left) us m g s = g ∙ run_first_unit units p left m s

-- ---- how units are added

pub added_more : (old done mid new us : List ℕ) → mid ≡ old ++ done → new ≡ mid ++ us → new ≡ old ++ (done ++ us)
added_more old done mid new us e f = f ∙ ap (λ z. z ++ us) e ∙ append_assoc old done us

pub added_alone : (IsSaid : List ℕ → Type 0) (old new : List ℕ) → old ≡ [] → Adds IsSaid old new → IsSaid new
added_alone IsSaid old new e a = subst IsSaid (sym (a.2 ∙ ap (λ z. z ++ a.0) e)) a.1

-- The last entry of a row.
pub row_end : (units : List ℕ) (p n : ℕ) → n ≤ 1 → RowUnits units p n (unit_list (slice_get units p))
row_end units p n few = by (slice_get units p) refl
  where
    by : (o : Option ℕ) → slice_get units p ≡ o → RowUnits units p n (unit_list o)
    by None g = says.gone p n [] few g refl
    by (Some u) g = says.last p n u (u ∷ []) few g refl

pub both_added : (units : List ℕ) (p n d low high : ℕ) (old mid mid' new : List ℕ) → 5 < n → slice_get units (p + 1) ≡ Some d
    → lower_part units (p + 2) d ≡ Some low → high ≡ delta_end (p + 2) d
    → Adds (PartUnits units low (n / 2)) old mid → mid' ≡ mid → Adds (PartUnits units high (n - n / 2)) mid' new
    → Adds (PartUnits units p n) old new
both_added units p n d low high old mid mid' new many g c e a same b =
    (a.0 ++ b.0, says.both p n d low a.0 b.0 (a.0 ++ b.0) many g c a.1 (rw e at b.1) refl, added_more old a.0 mid' new b.0 (same ∙ a.2) b.2)

pub upper_added : (units : List ℕ) (p n d high : ℕ) (old mid new : List ℕ) → 5 < n → slice_get units (p + 1) ≡ Some d
    → lower_part units (p + 2) d ≡ None → high ≡ delta_end (p + 2) d
    → mid ≡ old → Adds (PartUnits units high (n - n / 2)) mid new → Adds (PartUnits units p n) old new
upper_added units p n d high old mid new many g c e same b =
    (b.0, says.no_lower p n d b.0 many g c (rw e at b.1), b.2 ∙ ap (λ z. z ++ b.0) same)
