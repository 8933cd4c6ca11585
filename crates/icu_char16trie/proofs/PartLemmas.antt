-- What the first units of a part say about its arms.
use Rattle.std.proofs.Common.{◌≡◌, ℕ, ◌+◌, ◌-◌, ◌/◌, ◌%◌, ◌^◌, ◌<◌, ◌≤◌, nat_lt, List, [], ◌∷◌, ◌++◌, Option, Some, None, Bool, true, false, cond, nat_eq, slice_get, refl, sym, ap, ◌∙◌, arith}
use Rattle.std.specs.Bool.{then_some}
use Rattle.std.proofs.lemmas.Bool.{ne_eqb, eq-eqb, lt-ltb}
use Rattle.std.proofs.lemmas.Option.{none-some}
use Rattle.icu_char16trie.specs.Grammar.{Part, last, entry, split, UnitsBelow, UnitsFrom}
use Rattle.icu_char16trie.specs.Numbers.{entry_child, short_end, lower_part, delta_end, number_by, end_by}
use Rattle.icu_char16trie.specs.UnitMap.{arm_of}
use Rattle.icu_char16trie.specs.Inside.Fronts.{LeadsAs}
use Rattle.icu_char16trie.specs.Steps.{InRow, gone, last as last_here, cut, here, on, InPart, row, no_split, no_delta, cut_delta, lower as below_split, upper as above_split}

then_some_is : (b : Bool) (x : ℕ) → cond b (Some x) None ≡ then_some b x
then_some_is true x = refl
then_some_is false x = refl

-- The only arm of a part of one.
pub last_found : (units : List ℕ) {p n : ℕ} {arms : List (ℕ × ℕ)} → Part units p n arms → n ≤ 1 → (u : ℕ) → slice_get units p ≡ Some u
    → (w : ℕ) → then_some (nat_eq u w) (p + 1) ≡ arm_of arms w
unfolding arm_of
last_found units (last p n u' arms e g a) le u h w = let same : u' ≡ u = cc in rw (a, same) (sym (then_some_is (nat_eq u w) (p + 1)))
last_found units (entry p n u' v child rest arms more le5 g g' c r a) le u h w = absurd (omega arith)
last_found units (split p n s d low lower upper arms more g g' c l r b f a) le u h w = absurd (omega arith)

pub last_is : (units : List ℕ) {p n : ℕ} {arms : List (ℕ × ℕ)} → Part units p n arms → n ≤ 1 → (u : ℕ) → slice_get units p ≡ Some u
    → arms ≡ (u, p + 1) ∷ []
last_is units (last p n u' arms e g a) le u h = let same : u' ≡ u = cc in a ∙ ap (λ z. (z, p + 1) ∷ []) same
last_is units (entry p n u' v child rest arms more le5 g g' c r a) le u h = absurd (omega arith)
last_is units (split p n s d low lower upper arms more g g' c l r b f a) le u h = absurd (omega arith)

pub record IsEntry (units : List ℕ) (p n u v : ℕ) (arms : List (ℕ × ℕ)) : Type 0 where
  pub child : ℕ
  pub rest : List (ℕ × ℕ)
  pub at : entry_child units (p + 2) v ≡ Some child
  pub is : arms ≡ (u, child) ∷ rest
  pub others : Part units (short_end (p + 2) (v % 0x8000)) (n - 1) rest
  pub found : (w : ℕ) → arm_of arms w ≡ cond (nat_eq u w) (Some child) (arm_of rest w)

-- The first arm of a row.
pub entry_found : (units : List ℕ) {p n : ℕ} {arms : List (ℕ × ℕ)} → Part units p n arms → 1 < n → n ≤ 5
    → (u v : ℕ) → slice_get units p ≡ Some u → slice_get units (p + 1) ≡ Some v → IsEntry units p n u v arms
unfolding arm_of
entry_found units (last p n u' arms e g a) more le u v h h' = absurd (omega arith)
entry_found units (entry p n u' v' child rest arms more le5 g g' c r a) _ _ u v h h' =
    let su : u' ≡ u = cc in
    let sv : v' ≡ v = cc in
    record {
      child = child;
      rest = rest;
      at = rw (← sv) c;
      is = a ∙ ap (λ z. (z, child) ∷ rest) su;
      others = rw (← sv) r;
      found = λ w. rw (a, su) refl;
    }
entry_found units (split p n s d low lower upper arms more g g' c l r b f a) _ le u v h h' = absurd (omega arith)

-- No arm below s has the unit s or more.
pub arm_below : (lower upper : List (ℕ × ℕ)) (s w : ℕ) → UnitsBelow s lower → s ≤ w → arm_of (lower ++ upper) w ≡ arm_of upper w
unfolding arm_of
arm_below [] upper s w b h = refl
arm_below (a ∷ lower) upper s w b h =
    let no : nat_eq a.0 w ≡ false = ne_eqb a.0 w (λ e. absurd (omega (arith, b.0))) in
    rw no (arm_below lower upper s w b.1 h)

-- No arm from s on has a unit below s.
pub arm_from : (upper : List (ℕ × ℕ)) (s w : ℕ) → UnitsFrom s upper → w < s → arm_of upper w ≡ None
unfolding arm_of
arm_from [] s w f h = refl
arm_from (a ∷ upper) s w f h =
    let no : nat_eq a.0 w ≡ false = ne_eqb a.0 w (λ e. absurd (omega (arith, f.0))) in
    rw no (arm_from upper s w f.1 h)

-- The arm of such a unit is among the lower ones or missing.
pub arm_append : (lower upper : List (ℕ × ℕ)) (w : ℕ) → arm_of upper w ≡ None → arm_of (lower ++ upper) w ≡ arm_of lower w
unfolding arm_of
arm_append [] upper w h = h
arm_append (a ∷ lower) upper w h = ap (cond (nat_eq a.0 w) (Some a.1)) (arm_append lower upper w h)

pub record IsSplit (units : List ℕ) (p n s d : ℕ) (arms : List (ℕ × ℕ)) : Type 0 where
  pub low : ℕ
  pub lower : List (ℕ × ℕ)
  pub upper : List (ℕ × ℕ)
  pub at : lower_part units (p + 2) d ≡ Some low
  pub is : arms ≡ lower ++ upper
  pub below : Part units low (n / 2) lower
  pub above : Part units (delta_end (p + 2) d) (n - n / 2) upper
  pub left_of_split : UnitsBelow s lower
  pub right_of_split : UnitsFrom s upper
  pub in_lower : (w : ℕ) → w < s → arm_of arms w ≡ arm_of lower w
  pub in_upper : (w : ℕ) → s ≤ w → arm_of arms w ≡ arm_of upper w

pub split_found : (units : List ℕ) {p n : ℕ} {arms : List (ℕ × ℕ)} → Part units p n arms → 5 < n
    → (s d : ℕ) → slice_get units p ≡ Some s → slice_get units (p + 1) ≡ Some d → IsSplit units p n s d arms
split_found units (last p n u' arms e g a) more s d h h' = absurd (omega arith)
split_found units (entry p n u' v' child rest arms more le5 g g' c r a) more5 s d h h' = absurd (omega arith)
split_found units (split p n s' d' low lower upper arms more g g' c l r b f a) _ s d h h' =
    let ss : s' ≡ s = cc in
    let sd : d' ≡ d = cc in
    record {
      low = low;
      lower = lower;
      upper = upper;
      at = rw (← sd) c;
      is = a;
      below = l;
      above = rw (← sd) r;
      left_of_split = rw (← ss) b;
      right_of_split = rw (← ss) f;
      in_lower = λ w lt. ap (λ z. arm_of z w) a ∙ arm_append lower upper w (arm_from upper s' w f (rw ss lt));
      in_upper = λ w le. ap (λ z. arm_of z w) a ∙ arm_below lower upper s' w b (rw ss le);
    }

-- The first unit of a part is present.
pub part_begins : (units : List ℕ) {p n : ℕ} {arms : List (ℕ × ℕ)} → Part units p n arms → slice_get units p ≡ None → ⊥
part_begins units (last p n u arms e g a) h = none-some _ (sym h ∙ g)
part_begins units (entry p n u v child rest arms more few g g' c r a) h = none-some _ (sym h ∙ g)
part_begins units (split p n s d low lower upper arms more g g' c l r b f a) h = none-some _ (sym h ∙ g)

-- If a part has more than one entry, its second unit is present.
pub part_goes_on : (units : List ℕ) {p n : ℕ} {arms : List (ℕ × ℕ)} → Part units p n arms → 1 < n → slice_get units (p + 1) ≡ None → ⊥
part_goes_on units (last p n u arms e g a) many h = omega arith
part_goes_on units (entry p n u v child rest arms more few g g' c r a) many h = none-some _ (sym h ∙ g')
part_goes_on units (split p n s d low lower upper arms more g g' c l r b f a) many h = none-some _ (sym h ∙ g')

row_cut_by : (units : List ℕ) (u p n : ℕ) (first : Option ℕ) → slice_get units p ≡ first → 1 < n
    → slice_get units (p + 1) ≡ None → InRow units u p n None
row_cut_by units u p n None g more g' = gone p n None g refl
row_cut_by units u p n (Some x) g more g' = cut p n x None more g g' refl

-- A row whose second unit is missing leads nowhere.
pub row_cut : (units : List ℕ) (u p n : ℕ) → 1 < n → slice_get units (p + 1) ≡ None → InRow units u p n None
row_cut units u p n = row_cut_by units u p n (slice_get units p) refl

part_cut_by : (units : List ℕ) (u p n : ℕ) (first : Option ℕ) → slice_get units p ≡ first → 5 < n
    → slice_get units (p + 1) ≡ None → InPart units u p n None
part_cut_by units u p n None g more g' = no_split p n None more g refl
part_cut_by units u p n (Some s) g more g' = no_delta p n s None more g g' refl

-- A part of more than five entries whose second unit is missing leads nowhere.
pub part_cut : (units : List ℕ) (u p n : ℕ) → 5 < n → slice_get units (p + 1) ≡ None → InPart units u p n None
part_cut units u p n = part_cut_by units u p n (slice_get units p) refl

-- A unit leads from a row to the node of its arm.
row_finds : (units : List ℕ) {u p n : ℕ} {r : Option ℕ} → InRow units u p n r → {arms : List (ℕ × ℕ)}
    → Part units p n arms → n ≤ 5 → r ≡ arm_of arms u
row_finds units (gone p n r g is) part few = absurd (part_begins units part g)
row_finds units (last_here p n x r one g is) part few = is ∙ last_found units part one x g _
row_finds units (cut p n x r more g g' is) part few = absurd (part_goes_on units part more g')
row_finds units {u} (here p n v r more g g' is) part few =
    let e = entry_found units part more few u v g g' in
    let same : nat_eq u u ≡ true = eq-eqb u u refl in
    is ∙ e.at ∙ sym (e.found u ∙ rw same refl)
row_finds units {u} (on p n x v r more g ne g' rest) part few =
    let e = entry_found units part more few x v g g' in
    let other : nat_eq x u ≡ false = ne_eqb x u ne in
    row_finds units rest e.others (omega (arith, few)) ∙ sym (e.found u ∙ rw other refl)

-- A unit leads from a part to the node of its arm.
pub part_finds : (units : List ℕ) {u p n : ℕ} {r : Option ℕ} → InPart units u p n r → {arms : List (ℕ × ℕ)}
    → Part units p n arms → r ≡ arm_of arms u
part_finds units (row p n r few in_row) part = row_finds units in_row part few
part_finds units (no_split p n r more g is) part = absurd (part_begins units part g)
part_finds units (no_delta p n s r more g g' is) part = absurd (part_goes_on units part (omega (arith, more)) g')
part_finds units (cut_delta p n s d r more g lt g' no_lower is) part =
    let e = split_found units part more s d g g' in absurd (none-some _ (sym no_lower ∙ e.at))
part_finds units {u} (below_split p n s d q r more g lt g' to rest) part =
    let e = split_found units part more s d g g' in
    let same : e.low ≡ q = cc (e.at, to) in
    part_finds units rest (rw (← same) e.below) ∙ sym (e.in_lower u lt)
part_finds units {u} (above_split p n s d r more g le g' rest) part =
    let e = split_found units part more s d g g' in
    part_finds units rest e.above ∙ sym (e.in_upper u le)

-- ---- the half of a part

pub near_lower : (units : List ℕ) (p d : ℕ) → d < 0xfc00 → lower_part units p d ≡ Some (p + d)
unfolding lower_part number_by end_by
near_lower units p d h = let few : nat_lt d 0xfc00 ≡ true = lt-ltb d 0xfc00 h in rw few refl

pub near_end : (p d : ℕ) → d < 0xfc00 → p ≡ delta_end p d
unfolding end_by
near_end p d h = let few : nat_lt d 0xfc00 ≡ true = lt-ltb d 0xfc00 h in rw few refl

pub lower_leads : (units : List ℕ) (u p n s d q : ℕ) → 5 < n → slice_get units p ≡ Some s → slice_get units (p + 1) ≡ Some d → u < s
    → lower_part units (p + 2) d ≡ Some q → q < 2 ^ 63 → LeadsAs units u p n q (n / 2)
lower_leads units u p n s d q many g g' lt at near = record {
  near = near;
  fewer = omega arith;
  leads = λ r rest. below_split p n s d q r many g lt g' at rest;
}

pub upper_leads : (units : List ℕ) (u p n s d q : ℕ) → 5 < n → slice_get units p ≡ Some s → slice_get units (p + 1) ≡ Some d → s ≤ u
    → q ≡ delta_end (p + 2) d → q < 2 ^ 63 → LeadsAs units u p n q (n - n / 2)
upper_leads units u p n s d q many g g' le at near = record {
  near = near;
  fewer = omega arith;
  leads = λ r rest. above_split p n s d r many g le g' (rw at at rest);
}
