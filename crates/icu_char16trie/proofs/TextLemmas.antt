-- The units of a text that are still to be read.
use Rattle.std.proofs.Common.{◌≡◌, ℕ, ◌+◌, ◌-◌, ◌/◌, ◌%◌, ◌<◌, ◌≤◌, Bool, true, false, not, nat_eq, nat_lt, add-zero, append_assoc, eq-eqb, eqb-true, List, [], ◌∷◌, ◌++◌, Option, Some, None, length, slice_get, drop, take, length-drop, zero, suc, refl, sym, ap, subst, ◌∙◌, arith}
use Rattle.std.proofs.lemmas.Bool.{lt-ltb, true≢false}
use Rattle.std.proofs.lemmas.List.{drop-drop}
use Rattle.std.specs.Option.{option_eq}
use Rattle.std.proofs.lemmas.Str.{chars-nil, chars_past_char}
use Rattle.std.specs.Char.{encode_utf8}
use Rattle.std.specs.Char.Escape.{encode_utf16}
use Rattle.std.specs.List.{flat_map}
use Rattle.std.specs.Str.{IsUtf8, chars}
use Rattle.icu_char16trie.specs.Matches.{text_units}
use Rattle.icu_char16trie.specs.Numbers.{node_end}
use Rattle.icu_char16trie.specs.Steps.{InMatch, StepsAlong, child_place}
use Rattle.icu_char16trie.specs.Inside.Fronts.{BeginsRun, LeadsToNode}
use Rattle.icu_char16trie.specs.Inside.Texts.{AreLast, PassesUnits, after_second, units_left}
use Rattle.icu_char16trie.specs.declared.place.Place.TheVariants.{Node}
use Rattle.icu_char16trie.specs.declared.text_units.TextUnits.{TextUnits}
use Rattle.icu_char16trie.proofs.LongestLemmas.{NoneAbove, along_on, match_leads, none_above_match, within_text}
use Rattle.icu_char16trie.proofs.PassedLemmas.{two_units}
use Rattle.icu_char16trie.proofs.RunLemmas.{begins_more, leaves_branch, leaves_run, passes_branch, passes_run}

no_second : (second : Option ℕ) (w : List ℕ) → ((x : ℕ) → second ≡ Some x → ⊥) → after_second second w ≡ w
no_second None w none = refl
no_second (Some x) w none = absurd (none x refl)

-- The units of a text are those of its first character and those of the rest.
units_of_char : (bytes rest : List ℕ) (c : ℕ) → IsUtf8 bytes → bytes ≡ encode_utf8 c ++ rest
    → text_units bytes ≡ encode_utf16 c ++ text_units rest
units_of_char bytes rest c u e = ap (flat_map encode_utf16) (chars_past_char bytes rest c u e)

pub one_unit : (c : ℕ) → c < 0x1_0000 → encode_utf16 c ≡ c ∷ []
one_unit c small = let t : nat_lt c 0x1_0000 ≡ true = lt-ltb c 0x1_0000 small in rw t refl

-- At the end of the text there are no more units.
pub none_left : (second : Option ℕ) (bytes : List ℕ) → ((x : ℕ) → second ≡ Some x → ⊥) → length bytes ≡ 0
    → after_second second (text_units bytes) ≡ []
none_left second [] none e = no_second second _ none ∙ ap (flat_map encode_utf16) chars-nil
none_left second (b ∷ bytes) none e = absurd (omega (arith, e))

-- A character below 0x10000 is one unit.
pub one_left : (second new : Option ℕ) (bytes rest : List ℕ) (c : ℕ) → ((x : ℕ) → second ≡ Some x → ⊥) → new ≡ None → IsUtf8 bytes
    → bytes ≡ encode_utf8 c ++ rest → c < 0x1_0000
    → after_second second (text_units bytes) ≡ c ∷ after_second new (text_units rest)
one_left second new bytes rest c none after u e small =
    rw after (no_second second _ none ∙ units_of_char bytes rest c u e ∙ ap (λ z. z ++ text_units rest) (one_unit c small))

-- Any other character is two.
pub two_left : (second : Option ℕ) (bytes rest : List ℕ) (c : ℕ) → ((x : ℕ) → second ≡ Some x → ⊥) → IsUtf8 bytes
    → bytes ≡ encode_utf8 c ++ rest → 0x1_0000 ≤ c
    → after_second second (text_units bytes)
    ≡ (0xD800 + (c - 0x1_0000) / 0x400) ∷ after_second (Some (0xDC00 + (c - 0x1_0000) % 0x400)) (text_units rest)
two_left second bytes rest c none u e big =
    no_second second _ none ∙ units_of_char bytes rest c u e ∙ ap (λ z. z ++ text_units rest) (two_units c big)

-- The last characters of the last ones are last.
pub last_then : {xs ys zs : List ℕ} → (front : List ℕ) × (xs ≡ front ++ ys) → (front : List ℕ) × (ys ≡ front ++ zs)
    → (front : List ℕ) × (xs ≡ front ++ zs)
last_then {zs = zs} a b = (a.0 ++ b.0, a.1 ∙ ap (λ z. a.0 ++ z) b.1 ∙ sym (append_assoc a.0 b.0 zs))

-- ---- one more unit

-- The first unit after i of them.
pub unit_here : (w rest : List ℕ) (u i : ℕ) → u ∷ rest ≡ drop i w → slice_get w i ≡ Some u
unit_here [] rest u zero e = cc
unit_here [] rest u (suc i) e = cc
unit_here (x ∷ w) rest u zero e = cc
unit_here (x ∷ w) rest u (suc i) e = unit_here w rest u i e

pub rest_after : (w rest : List ℕ) (u i : ℕ) → u ∷ rest ≡ drop i w → rest ≡ drop (i + 1) w
rest_after w rest u i e = ap (λ (z : List ℕ). drop 1 z) e ∙ drop-drop 1 i w

pub within_rest : (w rest : List ℕ) (u i : ℕ) → u ∷ rest ≡ drop i w → i + 1 ≤ length w
within_rest w rest u i e = omega (arith, ap length e, length-drop i w)

pub none_after : (w : List ℕ) (i : ℕ) → [] ≡ drop i w → length w ≤ i
none_after w i e = omega (arith, ap length e, length-drop i w)

-- ---- the unit that is read in the trie

pub is_unit : (o : Option ℕ) (u : ℕ) (r : Bool) → r ≡ not (option_eq nat_eq o (Some u)) → r ≡ false → o ≡ Some u
is_unit None u r e h = cc
is_unit (Some x) u r e h = ap Some (eqb-true x u (same (nat_eq x u) (sym h ∙ e)))
  where
    same : (b : Bool) → false ≡ not b → b ≡ true
    same true h = refl
    same false h = cc

pub is_other : (o : Option ℕ) (u : ℕ) (r : Bool) → r ≡ not (option_eq nat_eq o (Some u)) → r ≡ true → o ≡ Some u → ⊥
is_other o u r e h same =
    let yes : nat_eq u u ≡ true = eq-eqb u u refl in
    let no : true ≡ not (nat_eq u u) = sym h ∙ rw same at e in
    true≢false (rw yes at no)

-- ---- a match node

begins_after : (units : List ℕ) (p n u : ℕ) (text : List ℕ) → BeginsRun units p (suc n) (u ∷ text)
    → (slice_get units p ≡ Some u) × BeginsRun units (p + 1) n text
begins_after units p n u text b = (
  rw add-zero at (b.same 0 (omega arith)),
  record {
    within = omega (arith, b.within);
    same = λ k lt. let there : p + suc k ≡ (p + 1) + k = omega arith in rw there at (b.same (suc k) (omega (arith, lt)));
  },
)

-- A branch.
pub branch_passes : (units text : List ℕ) (p low u : ℕ) (r : Option ℕ) → InMatch units u p low (child_place r)
    → PassesUnits units (u ∷ text) p low r text
branch_passes units text p low u None step from leads = leaves_branch units (u ∷ text) p low u (omega arith) refl step from leads
branch_passes units text p low u (Some q) step from leads =
    (1, passes_branch units (u ∷ text) p low u q (omega arith) refl step from leads, refl)

-- A linear match.
pub run_passes : (units text left : List ℕ) (p low u q n : ℕ) → 0x30 ≤ low → n ≡ low - 0x2f → q ≡ p + n → slice_get units p ≡ Some u
    → BeginsRun units (p + 1) (n - 1) text → left ≡ drop (n - 1) text → PassesUnits units (u ∷ text) p low (Some q) left
run_passes units text left p low u q n big e at g b rest from leads =
    let more : suc (n - 1) ≡ n = omega (arith, e, big) in
    let all : BeginsRun units p n (u ∷ text) = rw more at (begins_more units p (n - 1) u text g b) in
    let over : left ≡ drop n (u ∷ text) = subst (λ k. left ≡ drop k (u ∷ text)) more rest in
    (n, passes_run units (u ∷ text) p low n q big e at all from leads, over)

pub run_differs : (units text left : List ℕ) (p low u n : ℕ) → 0x30 ≤ low → n ≡ low - 0x2f
    → (slice_get units p ≡ Some u → BeginsRun units (p + 1) (n - 1) text → ⊥) → PassesUnits units (u ∷ text) p low None left
run_differs units text left p low u n big e never from leads =
    let more : n ≡ suc (n - 1) = omega (arith, e, big) in
    leaves_run units (u ∷ text) p low n big e
    (λ b. let both = begins_after units p (n - 1) u text (subst (λ k. BeginsRun units p k (u ∷ text)) more b) in never both.0 both.1)
    from leads

-- ---- from node to node

-- The units that were read of the text lead to the node.
pub record HasRead (units text : List ℕ) (t : TextUnits) (node : ℕ) : Type 0 where
  pub front : List ℕ
  pub passed : ℕ
  pub last : chars text ≡ front ++ chars t.rest.now
  pub left : units_left t ≡ drop passed (text_units text)
  pub within : passed ≤ length (text_units text)
  pub steps : StepsAlong units (Node 0) (take passed (text_units text)) (Node node)

abbrev pub at_start : (units text : List ℕ) (t : TextUnits) → t.rest.now ≡ text → t.second ≡ None → HasRead units text t 0
at_start units text t whole no_second = record {
  front = [];
  passed = 0;
  last = ap chars (sym whole);
  left = rw no_second (ap text_units whole);
  within = omega arith;
  steps = refl;
}

-- The next unit is u, and after it those of `mid` are left. At the match node the text continues to
-- the next node,
pub leads_on : (units text : List ℕ) (t mid s : TextUnits) (node lead place u q : ℕ) (at : HasRead units text t node)
    → units_left t ≡ u ∷ units_left mid → slice_get units node ≡ Some lead → lead < 0x8000 → place ≡ node_end (node + 1) lead
    → PassesUnits units (u ∷ units_left mid) place (lead % 64) (Some q) (units_left s)
    → (n : ℕ) × LeadsToNode units (Node node) (drop at.passed (text_units text)) q n
    × (units_left s ≡ drop n (drop at.passed (text_units text)))
leads_on units text t mid s node lead place u q at next g small e passes =
    subst (λ w. PassesUnits units w place (lead % 64) (Some q) (units_left s)) (sym next ∙ at.left) passes (Node node)
    (match_leads units node lead place g small e)

-- or it does not.
pub none_on : (units text left : List ℕ) (t mid : TextUnits) (node lead place u : ℕ) (at : HasRead units text t node)
    → units_left t ≡ u ∷ units_left mid → slice_get units node ≡ Some lead → lead < 0x8000 → place ≡ node_end (node + 1) lead
    → PassesUnits units (u ∷ units_left mid) place (lead % 64) None left → NoneAbove units (text_units text) at.passed
none_on units text left t mid node lead place u at next g small e passes =
    none_above_match units (text_units text) at.passed node lead place at.steps g small e
    (subst (λ w. PassesUnits units w place (lead % 64) None left) (sym next ∙ at.left) passes)

-- Fewer units are left at the next node.
pub fewer_left : (units text : List ℕ) (t s : TextUnits) (node n q : ℕ) (at : HasRead units text t node)
    → LeadsToNode units (Node node) (drop at.passed (text_units text)) q n
    → units_left s ≡ drop n (drop at.passed (text_units text)) → length (units_left s) < length (units_left t)
fewer_left units text t s node n q at on left =
    omega (arith, on.some, on.within, ap length left, length-drop n (drop at.passed (text_units text)), ap length at.left)

abbrev pub read_on : (units text : List ℕ) (t s : TextUnits) (node n q : ℕ) (at : HasRead units text t node) → AreLast s t
    → LeadsToNode units (Node node) (drop at.passed (text_units text)) q n
    → units_left s ≡ drop n (drop at.passed (text_units text)) → HasRead units text s q
read_on units text t s node n q at last on left = record {
  front = (last_then (at.front, at.last) last).0;
  passed = at.passed + n;
  last = (last_then (at.front, at.last) last).1;
  left = left ∙ drop-drop n at.passed (text_units text);
  within = within_text units (text_units text) at.passed node n q at.within on;
  steps = along_on units (text_units text) at.passed node n q at.steps on;
}
