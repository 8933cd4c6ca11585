-- The arms of a branch, and how they are split.
use Rattle.std.proofs.Common.{◌≡◌, ℕ, zero, suc, Option, Some, None, take, drop, get_or, length-append, ◌^◌, ◌+◌, ◌<◌, ◌≤◌, List, [], ◌∷◌, ◌++◌, refl, sym, ap, subst, ◌∙◌, arith, length, append_assoc, append-nil}
use Rattle.icu_char16trie.specs.UnitMap.{under, KeyBelowAll, IsAscendingKeys}
use Rattle.std.proofs.lemmas.List.{take-append-drop, drop-drop}
use Rattle.std.proofs.lemmas.Option.{none-some, slice_get-get_or}
use Rattle.icu_char16trie_builder.proofs.CutLemmas.{cut_append, cut_group, room_append, room_group, longer_right, begin_right, begin_above, next_begin, ascends_strip, drop_here, longer_begin, ascends_left as ascends_left_map, ascends_right as ascends_right_map}
use Rattle.icu_char16trie_builder.specs.Inside.Cuts.{cut, room, arm_units, arm_map, arm_room, AreBelow, AllLonger, IsGroup, BeginsFrom, AllBeginFrom, unit_of, ArmsSoFar, IsPart}
use Rattle.icu_char16trie_builder.specs.Inside.Written.{Below, From, Ascends}
use Rattle.icu_char16trie_builder.specs.declared.entry.Entry.{Entry}
use Rattle.icu_char16trie_builder.specs.declared.entry.Arm.{Arm}

pub arm_units_append : (a b : List Arm) → arm_units (a ++ b) ≡ arm_units a ++ arm_units b
arm_units_append [] b = refl
arm_units_append (x ∷ a) b = ap (λ z. x.unit ∷ z) (arm_units_append a b)

pub arm_map_append : (d : ℕ) (a b : List Arm) → arm_map d (a ++ b) ≡ arm_map d a ++ arm_map d b
arm_map_append d [] b = refl
arm_map_append d (x ∷ a) b =
    ap (λ z. under (x.unit ∷ []) (cut d x.entries.now) ++ z) (arm_map_append d a b)
    ∙ sym (append_assoc (under (x.unit ∷ []) (cut d x.entries.now)) (arm_map d a) (arm_map d b))

pub arm_room_append : (d : ℕ) (a b : List Arm) → arm_room d (a ++ b) ≡ arm_room d a + arm_room d b
arm_room_append d [] b = omega arith
arm_room_append d (x ∷ a) b = omega (arith, arm_room_append d a b)

pub are_below_append : (d : ℕ) (a b : List Arm) → AreBelow d a → AreBelow d b → AreBelow d (a ++ b)
are_below_append d [] b h i = i
are_below_append d (x ∷ a) b h i = (h.0, are_below_append d a b h.1 i)

pub are_below_left : (d : ℕ) (a b : List Arm) → AreBelow d (a ++ b) → AreBelow d a
are_below_left d [] b h = tt
are_below_left d (x ∷ a) b h = (h.0, are_below_left d a b h.1)

pub are_below_right : (d : ℕ) (a b : List Arm) → AreBelow d (a ++ b) → AreBelow d b
are_below_right d [] b h = h
are_below_right d (x ∷ a) b h = are_below_right d a b h.1

-- ---- units that ascend

below_push : (s u : ℕ) (us : List ℕ) → Below s us → s ≤ u → Below (u + 1) (us ++ u ∷ [])
below_push s u [] b h = (omega arith, tt)
below_push s u (x ∷ us) b h = (omega (arith, b.0, h), below_push s u us b.1 h)

from_push : (x s u : ℕ) (us : List ℕ) → x < s → s ≤ u → From (x + 1) us → From (x + 1) (us ++ u ∷ [])
from_push x s u [] l h f = (omega (arith, l, h), tt)
from_push x s u (y ∷ us) l h f = (f.0, from_push x s u us l h f.1)

ascends_push : (s u : ℕ) (us : List ℕ) → Below s us → s ≤ u → Ascends us → Ascends (us ++ u ∷ [])
ascends_push s u [] b h a = (tt, tt)
ascends_push s u (x ∷ us) b h a = (from_push x s u us b.0 h a.0, ascends_push s u us b.1 h a.1)

-- One more arm, whose unit is above the others.
pub arm_below_push : (s : ℕ) (arms : List Arm) (a : Arm) → Below s (arm_units arms) → s ≤ a.unit
    → Below (a.unit + 1) (arm_units (arms ++ a ∷ []))
arm_below_push s arms a b h = rw (arm_units_append arms (a ∷ [])) (below_push s a.unit (arm_units arms) b h)

pub arm_ascends_push : (s : ℕ) (arms : List Arm) (a : Arm) → Below s (arm_units arms) → s ≤ a.unit → Ascends (arm_units arms)
    → Ascends (arm_units (arms ++ a ∷ []))
arm_ascends_push s arms a b h k = rw (arm_units_append arms (a ∷ [])) (ascends_push s a.unit (arm_units arms) b h k)

ascends_left : (us vs : List ℕ) → Ascends (us ++ vs) → Ascends us
ascends_left [] vs h = tt
ascends_left (u ∷ us) vs h = (from_left (u + 1) us vs h.0, ascends_left us vs h.1)
  where
    from_left : (s : ℕ) (us vs : List ℕ) → From s (us ++ vs) → From s us
    from_left s [] vs h = tt
    from_left s (u ∷ us) vs h = (h.0, from_left s us vs h.1)

ascends_right : (us vs : List ℕ) → Ascends (us ++ vs) → Ascends vs
ascends_right [] vs h = h
ascends_right (u ∷ us) vs h = ascends_right us vs h.1

from_at : (s x : ℕ) (us vs : List ℕ) → From s (us ++ x ∷ vs) → s ≤ x
from_at s x [] vs h = h.0
from_at s x (u ∷ us) vs h = from_at s x us vs h.1

below_split : (x : ℕ) (us vs : List ℕ) → Ascends (us ++ x ∷ vs) → Below x us
below_split x [] vs h = tt
below_split x (u ∷ us) vs h = (omega (arith, from_at (u + 1) x us vs h.0), below_split x us vs h.1)

from_less : (s t : ℕ) (us : List ℕ) → s ≤ t → From t us → From s us
from_less s t [] h f = tt
from_less s t (u ∷ us) h f = (omega (arith, f.0, h), from_less s t us h f.1)

from_split : (x : ℕ) (vs : List ℕ) → Ascends (x ∷ vs) → From x (x ∷ vs)
from_split x vs h = (omega arith, from_less x (x + 1) vs (omega arith) h.0)

-- Ascending arms, split before the arm with the unit x.
pub record SplitArms (lower upper : List Arm) (x : ℕ) : Type 0 where
  pub low : Ascends (arm_units lower)
  pub high : Ascends (arm_units upper)
  pub below : Below x (arm_units lower)
  pub from : From x (arm_units upper)

pub split_arms : (all lower upper rest : List Arm) (a : Arm) → all ≡ lower ++ upper → upper ≡ a ∷ rest → Ascends (arm_units all)
    → SplitArms lower upper a.unit
split_arms all lower upper rest a e f h =
    let g : Ascends (arm_units lower ++ arm_units upper) = subst (λ z. Ascends z) (ap arm_units e ∙ arm_units_append lower upper) h in
    let up : Ascends (arm_units upper) = ascends_right (arm_units lower) (arm_units upper) g in
    let up' : Ascends (a.unit ∷ arm_units rest) = subst (λ z. Ascends (arm_units z)) f up in
    record {
      low = ascends_left (arm_units lower) (arm_units upper) g;
      high = up;
      below = below_split a.unit (arm_units lower) (arm_units rest) (subst (λ z. Ascends (arm_units lower ++ arm_units z)) f g);
      from = subst (λ z. From a.unit (arm_units z)) (sym f) (from_split a.unit (arm_units rest) up');
    }

-- ---- the arms of entries, one after the other

pub arms_start : (d : ℕ) (all : List Entry) → AllLonger d all → IsAscendingKeys (cut d all) → ArmsSoFar d all all []
arms_start d all h k = record {
  map = refl;
  below = tt;
  room = omega arith;
  longer = h;
  ascends = k;
  up = tt;
  s = 0;
  before = tt;
  behind = longer_begin d all h;
  count = omega arith;
  few = omega arith;
}

group_here : (d u : ℕ) (e : Entry) (es group : List Entry) (count : ℕ) → 0 < count → group ≡ take count (e ∷ es) → 0 < length group
group_here d u e es group zero h g = absurd (omega arith)
group_here d u e es group (suc count) h g = let len : length group ≡ suc (length (take count es)) = ap length g in omega (arith, len)

some_count : (d u : ℕ) (es : List Entry) (count : ℕ) → unit_of es d ≡ Some u → (unit_of (drop count es) d ≡ Some u → ⊥) → 0 < count
some_count d u es zero h out = absurd (out h)
some_count d u es (suc count) h out = omega arith

-- If all keys start with a unit that is at least s, so does the first one.
first_begin : (d u s : ℕ) (es : List Entry) → unit_of es d ≡ Some u → AllBeginFrom s (cut d es) → s ≤ u
first_begin d u s [] h b = absurd (none-some _ h)
first_begin d u s (e ∷ es) h b = let c : BeginsFrom s (u ∷ drop (d + 1) e.key.now) =
    subst (λ z. BeginsFrom s z) (drop_here e.key.now d u h) b.0 in c

-- All keys start with a unit that is at least that of the first key.
all_from_first : (d u : ℕ) (es : List Entry) → unit_of es d ≡ Some u → IsAscendingKeys (cut d es) → AllBeginFrom u (cut d es)
all_from_first d u [] h a = tt
all_from_first d u (e ∷ es) h a =
    let same : drop d e.key.now ≡ u ∷ drop (d + 1) e.key.now = drop_here e.key.now d u h in
    let here : BeginsFrom u (u ∷ drop (d + 1) e.key.now) = omega arith in (
      subst (λ z. BeginsFrom u z) (sym same) here,
      begin_above u (drop (d + 1) e.key.now) (cut d es)
          (subst (λ z. KeyBelowAll z (cut d es)) same a.0),
    )

not_empty : (d u : ℕ) (es : List Entry) → unit_of es d ≡ Some u → (e : Entry) × (rest : List Entry) × (es ≡ e ∷ rest)
not_empty d u [] h = absurd (none-some _ h)
not_empty d u (e ∷ rest) h = (e, rest, refl)

-- One more arm.
pub arms_step : (d u count : ℕ) (all rest others : List Entry) (arms : List Arm) (a : Arm) → ArmsSoFar d all rest arms → u < 2 ^ 16
    → unit_of rest d ≡ Some u → a.unit ≡ u → a.entries.now ≡ take count rest → others ≡ drop count rest → IsGroup d u (take count rest)
    → (unit_of (drop count rest) d ≡ Some u → ⊥) → (0 < length a.entries.now) × ArmsSoFar d all others (arms ++ a ∷ [])
arms_step d u count all rest others arms a so fits first is_u is_group is_others group out =
    let group' : List Entry = a.entries.now in
    let is_g : IsGroup d u group' = subst (λ z. IsGroup d u z) (sym is_group) group in
    let split : rest ≡ group' ++ others = rw (is_group, is_others) (sym (take-append-drop count rest)) in
    let cuts : cut d rest ≡ cut d group' ++ cut d others = ap (cut d) split ∙ cut_append d group' others in
    let up : IsAscendingKeys (cut d group' ++ cut d others) = subst (λ z. IsAscendingKeys z) cuts so.ascends in
    let stands : cut d group' ≡ under (u ∷ []) (cut (d + 1) group') = cut_group d u group' is_g in
    let some : 0 < count = some_count d u rest count first out in
    let e = not_empty d u rest first in
    let many : 0 < length group' = group_here d u e.0 e.1 group' count some (is_group ∙ ap (take count) e.2) in
    let s_u : so.s ≤ u = first_begin d u so.s rest first so.behind in
    let s_a : so.s ≤ a.unit = omega (arith, s_u, is_u) in
    let from : AllBeginFrom u (cut d others) =
    begin_right u (cut d group') (cut d others) (subst (λ z. AllBeginFrom u z) cuts (all_from_first d u rest first so.ascends)) in
    let out' : unit_of others d ≡ Some u → ⊥ = λ h. out (subst (λ z. unit_of z d ≡ Some u) is_others h) in
    let arm_is : arm_map (d + 1) (a ∷ []) ≡ cut d group' = append-nil (under (a.unit ∷ []) (cut (d + 1) group'))
    ∙ ap (λ z. under (z ∷ []) (cut (d + 1) group')) is_u ∙ sym stands in
    let maps : arm_map (d + 1) (arms ++ a ∷ []) ≡ arm_map (d + 1) arms ++ cut d group' =
    arm_map_append (d + 1) arms (a ∷ []) ∙ ap (λ z. arm_map (d + 1) arms ++ z) arm_is in (
      many,
      record {
        map = ap (λ z. z ++ cut d others) maps ∙ append_assoc (arm_map (d + 1) arms) (cut d group') (cut d others)
            ∙ ap (λ z. arm_map (d + 1) arms ++ z) (sym cuts) ∙ so.map;
        below = are_below_append (d + 1) arms (a ∷ []) so.below (
          (
            many,
            ascends_strip (u ∷ []) (cut (d + 1) group')
                (subst (λ z. IsAscendingKeys z) stands (ascends_left_map (cut d group') (cut d others) up)),
          ),
          tt,
        );
        room = omega (
          arith,
          so.room,
          arm_room_append (d + 1) arms (a ∷ []),
          length-append arms (a ∷ []),
          ap (room d) split,
          room_append d group' others,
          room_group d u group' is_g,
          many,
        );
        longer = longer_right d group' others (subst (λ z. AllLonger d z) split so.longer);
        ascends = ascends_right_map (cut d group') (cut d others) up;
        up = arm_ascends_push so.s arms a so.before s_a so.up;
        s = u + 1;
        before = subst (λ z. Below (z + 1) (arm_units (arms ++ a ∷ []))) is_u (arm_below_push so.s arms a so.before s_a);
        behind = next_begin d u others from (ascends_right_map (cut d group') (cut d others) up) out';
        count = omega (arith, length-append arms (a ∷ []), so.count, s_u);
        few = omega (arith, fits);
      },
    )

-- Keys with more than d units have a unit at d.
pub longer_some : (d : ℕ) (es : List Entry) → AllLonger d es → unit_of es d ≡ None → es ≡ []
longer_some d [] h n = refl
longer_some d (e ∷ es) h n = absurd (some_none (get_or e.key.now d 0) (sym (slice_get-get_or e.key.now d 0 h.0) ∙ n))
  where
    some_none : (x : ℕ) → ◌≡◌ {A = Option ℕ} (Some x) None → ⊥
    some_none x h = cc

pub arms_step_at : (d u count start : ℕ) (all rest group : List Entry) (arms arms' : List Arm) (a : Arm) (o : Option ℕ)
    → rest ≡ drop start all
    → ArmsSoFar d all (drop start all) arms → u < 2 ^ 16 → o ≡ unit_of rest d → o ≡ Some u → a.unit ≡ u → a.entries.now ≡ group
    → group ≡ take count rest → length group ≡ count
    → IsGroup d u (take count rest) → (unit_of (drop count rest) d ≡ Some u → ⊥) → arms' ≡ arms ++ a ∷ []
    → ArmsSoFar d all (drop (start + length group) all) arms'
arms_step_at d u count start all rest group arms arms' a o e so fits f g is_u is_g is_group len grouped out is_arms =
    let first : unit_of rest d ≡ Some u = sym f ∙ g in
    let place : drop (start + length group) all ≡ drop count rest = ap (λ z. drop (start + z) all) len ∙ sym (drop-drop count start all)
    ∙ ap (drop count) (sym e) in
    let so' : ArmsSoFar d all rest arms = subst (λ z. ArmsSoFar d all z arms) (sym e) so in
    subst (λ z. ArmsSoFar d all (drop (start + length group) all) z) (sym is_arms)
    (arms_step d u count all rest (drop (start + length group) all) arms a so' fits first is_u (is_g ∙ is_group) place grouped out).1

pub part_low : (d : ℕ) (arms lower upper : List Arm) → arms ≡ lower ++ upper → 0 < length lower → IsPart d arms → IsPart d lower
part_low d arms lower upper e some h = record {
  some = some;
  below = are_below_left d lower upper (subst (λ z. AreBelow d z) e h.below);
  ascends = ascends_left (arm_units lower) (arm_units upper)
      (subst (λ z. Ascends z) (ap arm_units e ∙ arm_units_append lower upper) h.ascends);
}

pub part_high : (d : ℕ) (arms lower upper : List Arm) → arms ≡ lower ++ upper → 0 < length upper → IsPart d arms → IsPart d upper
part_high d arms lower upper e some h = record {
  some = some;
  below = are_below_right d lower upper (subst (λ z. AreBelow d z) e h.below);
  ascends = ascends_right (arm_units lower) (arm_units upper)
      (subst (λ z. Ascends z) (ap arm_units e ∙ arm_units_append lower upper) h.ascends);
}
