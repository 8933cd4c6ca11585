-- A unit leads to one position.
use Rattle.std.proofs.Common.{◌≡◌, ℕ, ◌+◌, ◌-◌, ◌/◌, ◌%◌, ◌<◌, ◌≤◌, Bool, true, false, nat_eq, nat_lt, List, Option, Some, None, slice_get, sym, ap, ◌∙◌, arith}
use Rattle.std.specs.Bool.{then_some}
use Rattle.std.proofs.lemmas.Bool.{ne_eqb, lt-ltb, le-ltb}
use Rattle.std.proofs.lemmas.Option.{same_Some}
use Rattle.icu_char16trie.proofs.MapLemmas.{same_eqb}
use Rattle.icu_char16trie.specs.Numbers.{short_end, delta_end, entry_child, lower_part}
use Rattle.icu_char16trie.specs.Steps.{InRow, gone, last, cut, here, on, InPart, row, no_split, no_delta, cut_delta, lower, upper, InMatch, in_run, in_short, in_long, no_length, InNode, no_lead, at_final, at_plain, at_valued, StepsTo, child_place}
use Rattle.icu_char16trie.specs.declared.place.Place.{Place}
use Rattle.icu_char16trie.specs.declared.place.Place.TheVariants.{Nowhere, Node, Run}

-- A choice between two facts by a test.
abbrev Either : Bool → Type 0 → Type 0 → Type 0
Either true A B = A
Either false A B = B

-- What the first units of a row say about where a unit leads.
abbrev RowSays : List ℕ → ℕ → ℕ → ℕ → Option ℕ → Option ℕ → Option ℕ → Type 0
RowSays units u p n r None o = r ≡ None
RowSays units u p n r (Some x) None = Either (nat_lt 1 n) (r ≡ None) (r ≡ then_some (nat_eq x u) (p + 1))
RowSays units u p n r (Some x) (Some v) =
    Either (nat_lt 1 n) (Either (nat_eq x u) (r ≡ entry_child units (p + 2) v) (InRow units u (short_end (p + 2) (v % 0x8000)) (n - 1) r))
    (r ≡ then_some (nat_eq x u) (p + 1))

one_entry : (units : List ℕ) (u p n x : ℕ) (r o : Option ℕ) → n ≤ 1 → r ≡ then_some (nat_eq x u) (p + 1) → RowSays units u p n r (Some x) o
one_entry units u p n x r None few e = rw (le-ltb 1 n few) e
one_entry units u p n x r (Some v) few e = rw (le-ltb 1 n few) e

row_says : (units : List ℕ) (u : ℕ) {p n : ℕ} {r : Option ℕ} → InRow units u p n r
    → RowSays units u p n r (slice_get units p) (slice_get units (p + 1))
row_says units u (gone p n r g e) = rw g e
row_says units u (last p n x r few g e) = rw g (one_entry units u p n x r (slice_get units (p + 1)) few e)
row_says units u (cut p n x r many g g' e) = rw (g, g', lt-ltb 1 n many) e
row_says units u (here p n v r many g g' e) = rw (g, g', lt-ltb 1 n many, same_eqb u) e
row_says units u (on p n x v r many g other g' d) = rw (g, g', lt-ltb 1 n many, ne_eqb x u other) d

one_said : (units : List ℕ) (u p n x : ℕ) (r o : Option ℕ) → n ≤ 1 → RowSays units u p n r (Some x) o → r ≡ then_some (nat_eq x u) (p + 1)
one_said units u p n x r None few s = rw (le-ltb 1 n few) at s
one_said units u p n x r (Some v) few s = rw (le-ltb 1 n few) at s

row_one : (units : List ℕ) (u : ℕ) {p n : ℕ} {r r' : Option ℕ} → InRow units u p n r → InRow units u p n r' → r ≡ r'
row_one units u {r' = r'} (gone p n r g e) y = let s : r' ≡ None = rw g at (row_says units u y) in e ∙ sym s
row_one units u {r' = r'} (last p n x r few g e) y =
    e ∙ sym (one_said units u p n x r' (slice_get units (p + 1)) few (rw g at (row_says units u y)))
row_one units u {r' = r'} (cut p n x r many g g' e) y = let s : r' ≡ None = rw (g, g', lt-ltb 1 n many) at (row_says units u y) in e ∙ sym s
row_one units u {r' = r'} (here p n v r many g g' e) y =
    let s : r' ≡ entry_child units (p + 2) v = rw (g, g', lt-ltb 1 n many, same_eqb u) at (row_says units u y) in e ∙ sym s
row_one units u {r' = r'} (on p n x v r many g other g' d) y =
    let s : InRow units u (short_end (p + 2) (v % 0x8000)) (n - 1) r' =
    rw (g, g', lt-ltb 1 n many, ne_eqb x u other) at (row_says units u y) in
    row_one units u d s

-- What the first units of a part of more than five entries say about where a unit leads.
abbrev SplitSays : List ℕ → ℕ → ℕ → ℕ → Option ℕ → Option ℕ → Option ℕ → Type 0
SplitSays units u p n r None o = r ≡ None
SplitSays units u p n r (Some s) None = r ≡ None
SplitSays units u p n r (Some s) (Some d) =
    Either (nat_lt u s) (LowerSays (lower_part units (p + 2) d)) (InPart units u (delta_end (p + 2) d) (n - n / 2) r)
  where
    LowerSays : Option ℕ → Type 0
    LowerSays None = r ≡ None
    LowerSays (Some q) = InPart units u q (n / 2) r

split_says : (units : List ℕ) (u : ℕ) {p n : ℕ} {r : Option ℕ} → InPart units u p n r → 5 < n
    → SplitSays units u p n r (slice_get units p) (slice_get units (p + 1))
split_says units u (row p n r few d) many = absurd (omega arith)
split_says units u (no_split p n r _ g e) many = rw g e
split_says units u (no_delta p n s r _ g g' e) many = rw (g, g') e
split_says units u (cut_delta p n s d r _ g b g' l e) many = rw (g, g', lt-ltb u s b, l) e
split_says units u (lower p n s d q r _ g b g' l i) many = rw (g, g', lt-ltb u s b, l) i
split_says units u (upper p n s d r _ g b g' i) many = rw (g, g', le-ltb u s b) i

in_row : (units : List ℕ) (u : ℕ) {p n : ℕ} {r : Option ℕ} → InPart units u p n r → n ≤ 5 → InRow units u p n r
in_row units u (row p n r _ d) few = d
in_row units u (no_split p n r many g e) few = absurd (omega arith)
in_row units u (no_delta p n s r many g g' e) few = absurd (omega arith)
in_row units u (cut_delta p n s d r many g b g' l e) few = absurd (omega arith)
in_row units u (lower p n s d q r many g b g' l i) few = absurd (omega arith)
in_row units u (upper p n s d r many g b g' i) few = absurd (omega arith)

pub part_one : (units : List ℕ) (u : ℕ) {p n : ℕ} {r r' : Option ℕ} → InPart units u p n r → InPart units u p n r' → r ≡ r'
part_one units u (row p n r few d) y = row_one units u d (in_row units u y few)
part_one units u {r' = r'} (no_split p n r many g e) y = let s : r' ≡ None = rw g at (split_says units u y many) in e ∙ sym s
part_one units u {r' = r'} (no_delta p n s r many g g' e) y = let s' : r' ≡ None = rw (g, g') at (split_says units u y many) in e ∙ sym s'
part_one units u {r' = r'} (cut_delta p n s d r many g b g' l e) y =
    let s' : r' ≡ None = rw (g, g', lt-ltb u s b, l) at (split_says units u y many) in e ∙ sym s'
part_one units u {r' = r'} (lower p n s d q r many g b g' l i) y =
    let s' : InPart units u q (n / 2) r' = rw (g, g', lt-ltb u s b, l) at (split_says units u y many) in part_one units u i s'
part_one units u {r' = r'} (upper p n s d r many g b g' i) y =
    let s' : InPart units u (delta_end (p + 2) d) (n - n / 2) r' = rw (g, g', le-ltb u s b) at (split_says units u y many) in
    part_one units u i s'

-- ---- at a match node, at a node, anywhere

match_one : (units : List ℕ) (u : ℕ) {p low : ℕ} {to to' : Place} → InMatch units u p low to → InMatch units u p low to' → to ≡ to'
match_one units u (in_run p low to h e) (in_run _ _ to' h' e') = e ∙ sym e'
match_one units u (in_run p low to h e) (in_short _ _ r' to' pos' h' i' e') = absurd (omega arith)
match_one units u (in_run p low to h e) (in_long _ _ n' r' to' z' g' i' e') = absurd (omega arith)
match_one units u (in_run p low to h e) (no_length _ _ to' z' g' e') = absurd (omega arith)
match_one units u (in_short p low r to pos h i e) (in_run _ _ to' h' e') = absurd (omega arith)
match_one units u (in_short p low r to pos h i e) (in_short _ _ r' to' pos' h' i' e') = e ∙ ap child_place (part_one units u i i') ∙ sym e'
match_one units u (in_short p low r to pos h i e) (in_long _ _ n' r' to' z' g' i' e') = absurd (omega arith)
match_one units u (in_short p low r to pos h i e) (no_length _ _ to' z' g' e') = absurd (omega arith)
match_one units u (in_long p low n r to z g i e) (in_run _ _ to' h' e') = absurd (omega arith)
match_one units u (in_long p low n r to z g i e) (in_short _ _ r' to' pos' h' i' e') = absurd (omega arith)
match_one units u (in_long p low n r to z g i e) (in_long _ _ n' r' to' z' g' i' e') =
    let same : n' ≡ n = same_Some n' n (sym g' ∙ g) in e ∙ ap child_place (part_one units u i (rw same at i')) ∙ sym e'
match_one units u (in_long p low n r to z g i e) (no_length _ _ to' z' g' e') = cc
match_one units u (no_length p low to z g e) (in_run _ _ to' h' e') = absurd (omega arith)
match_one units u (no_length p low to z g e) (in_short _ _ r' to' pos' h' i' e') = absurd (omega arith)
match_one units u (no_length p low to z g e) (in_long _ _ n' r' to' z' g' i' e') = cc
match_one units u (no_length p low to z g e) (no_length _ _ to' z' g' e') = e ∙ sym e'

node_one : (units : List ℕ) (u : ℕ) {p : ℕ} {to to' : Place} → InNode units u p to → InNode units u p to' → to ≡ to'
node_one units u (no_lead p to g e) (no_lead _ to' g' e') = e ∙ sym e'
node_one units u (no_lead p to g e) (at_final _ lead' to' g' h' e') = cc
node_one units u (no_lead p to g e) (at_plain _ lead' to' g' h' i') = cc
node_one units u (no_lead p to g e) (at_valued _ lead' to' g' h' l' i') = cc
node_one units u (at_final p lead to g h e) (no_lead _ to' g' e') = cc
node_one units u (at_final p lead to g h e) (at_final _ lead' to' g' h' e') = e ∙ sym e'
node_one units u (at_final p lead to g h e) (at_plain _ lead' to' g' h' i') = let same : lead' ≡ lead = cc in absurd (omega arith)
node_one units u (at_final p lead to g h e) (at_valued _ lead' to' g' h' l' i') = let same : lead' ≡ lead = cc in absurd (omega arith)
node_one units u (at_plain p lead to g h i) (no_lead _ to' g' e') = cc
node_one units u (at_plain p lead to g h i) (at_final _ lead' to' g' h' e') = let same : lead' ≡ lead = cc in absurd (omega arith)
node_one units u (at_plain p lead to g h i) (at_plain _ lead' to' g' h' i') = let same : lead' ≡ lead = cc in
    match_one units u i (rw same at i')
node_one units u (at_plain p lead to g h i) (at_valued _ lead' to' g' h' l' i') = let same : lead' ≡ lead = cc in absurd (omega arith)
node_one units u (at_valued p lead to g h l i) (no_lead _ to' g' e') = cc
node_one units u (at_valued p lead to g h l i) (at_final _ lead' to' g' h' e') = let same : lead' ≡ lead = cc in absurd (omega arith)
node_one units u (at_valued p lead to g h l i) (at_plain _ lead' to' g' h' i') = let same : lead' ≡ lead = cc in absurd (omega arith)
node_one units u (at_valued p lead to g h l i) (at_valued _ lead' to' g' h' l' i') = let same : lead' ≡ lead = cc in
    match_one units u i (rw same at i')

pub steps_one : (units : List ℕ) (from : Place) (u : ℕ) (to to' : Place) → StepsTo units from u to → StepsTo units from u to' → to ≡ to'
steps_one units Nowhere u to to' h h' = h ∙ sym h'
steps_one units (Node p) u to to' h h' = node_one units u h h'
steps_one units (Run p left) u to to' h h' = h ∙ sym h'
