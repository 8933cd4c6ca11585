-- What is at the position to which steps have led.
use Rattle.std.proofs.Common.{◌≡◌, ℕ, ℤ, zero, suc, ◌+◌, ◌-◌, Bool, true, false, nat_eq, List, [], ◌∷◌, Option, Some, None, get_or, length, slice_get, take, refl, sym, ◌∙◌, arith, inl, inr}
use Rattle.std.specs.Str.{chars}
use Rattle.std.proofs.lemmas.Bool.{eqb-true, ne_eqb}
use Rattle.std.proofs.lemmas.Option.{same_Some, slice_get-get_or}
use Rattle.icu_char16trie.specs.Grammar.{Arms, Part, IsAscending, Children, Matches, Holds, IsTrieOf, branch_start}
use Rattle.icu_char16trie.specs.UnitMap.{UnitMap, after, after_all, value_of}
use Rattle.icu_char16trie.specs.UnitPlaces.{InRun, Stands}
use Rattle.icu_char16trie.specs.Steps.{InPart, InMatch, in_run, in_short, in_long, no_length, InNode, no_lead, at_final, at_plain, at_valued, StepsTo, StepsAlong, run_place, child_place}
use Rattle.icu_char16trie.specs.Matches.{HasCharsStepped, HasCharsValue, HasFrontValue, HasFrontStepped, HasValueAlong, IsLongestInText, IsLongestSteppedInText, LongestWithin, front_units}
use Rattle.icu_char16trie.specs.declared.place.Place.{Place}
use Rattle.icu_char16trie.specs.declared.place.Place.TheVariants.{Nowhere, Node, Run}
use Rattle.icu_char16trie.proofs.MapLemmas.{value_after_all}
use Rattle.icu_char16trie.proofs.NodeLemmas.{children_found, children_other, holds_final, holds_plain, holds_valued, holds_within, matches_branch, matches_run, run_end, run_other, run_step}
use Rattle.icu_char16trie.proofs.PartLemmas.{part_finds}
use Rattle.icu_char16trie.proofs.PlaceLemmas.{root_stands, value_stands}
use Rattle.icu_char16trie.proofs.SoundnessLemmas.{short_len, short_start, long_len, long_start}

-- ---- after one unit

in_run_stands : (units : List ℕ) (p left u : ℕ) (m : UnitMap) (q : Place) → q ≡ run_place p left u (slice_get units p)
    → InRun units p (left + 1) m
    → Stands units q (after u m)
in_run_stands units p left u m q is r = by left refl (nat_eq x u) refl
  where
    x : ℕ
    x = get_or units p 0

    there : slice_get units p ≡ Some x
    there = slice_get-get_or units p 0 (omega (arith, r.within))

    by : (l : ℕ) → l ≡ left → (b : Bool) → nat_eq x u ≡ b → Stands units q (after u m)
    by l e false other =
        let at : q ≡ Nowhere = is ∙ rw (there, other) refl in
        rw at (run_other units p left u x m r there other)
    by zero e true same =
        let at : q ≡ Node (p + 1) = is ∙ rw (there, same, ← e) refl in
        let on : InRun units (p + 1) left (after u m) = run_step units p left u x m r there (eqb-true x u same) in
        rw at (inl (run_end units (p + 1) (after u m) (rw (← e) at on)))
    by (suc l) e true same =
        let more : nat_eq left 0 ≡ false = ne_eqb left 0 (λ z. omega (arith, e, z)) in
        let less : left - 1 ≡ l = omega (arith, e) in
        let at : q ≡ Run (p + 1) l = is ∙ rw (there, same, more, less) refl in
        let on : InRun units (p + 1) left (after u m) = run_step units p left u x m r there (eqb-true x u same) in
        let count : left ≡ l + 1 = omega (arith, e) in
        rw at (rw count at on)

in_part_stands : (units : List ℕ) (p n u : ℕ) (r : Option ℕ) (arms : Arms) (m : UnitMap) → InPart units u p n r → Part units p n arms
    → IsAscending arms → Children units arms m → Stands units (child_place r) (after u m)
in_part_stands units p n u None arms m i part up children = children_other units children u (sym (part_finds units i part))
in_part_stands units p n u (Some q) arms m i part up children = inl (children_found units children up u q (sym (part_finds units i part)))

in_match_stands : (units : List ℕ) (u : ℕ) {p low : ℕ} {q : Place} {m : UnitMap} → InMatch units u p low q → Matches units p low m
    → Stands units q (after u m)
in_match_stands units u {m = m} (in_run p low q big is) h =
    let same : (low - 0x30) + 1 ≡ low - 0x2f = omega (arith, big) in
    in_run_stands units p (low - 0x30) u m q is (rw same (matches_run units h big))
in_match_stands units u {m = m} (in_short p low r q some small i is) h =
    let b = matches_branch units h small in
    let len : b.n ≡ low = same_Some b.n low (sym b.len ∙ short_len units p low some) in
    rw is (in_part_stands units p (low + 1) u r b.arms m i (rw (len, ← short_start p low some) at b.part) b.ascending b.children)
in_match_stands units u {m = m} (in_long p low n r q zero' g i is) h =
    let b = matches_branch units h (omega (arith, zero')) in
    let len : b.n ≡ n = same_Some b.n n (sym b.len ∙ long_len units p low (Some n) (omega (arith, zero')) g) in
    let at : p + 1 ≡ branch_start p low = long_start p low (omega (arith, zero')) in
    rw is (in_part_stands units (p + 1) (n + 1) u r b.arms m i (rw (len, ← at) at b.part) b.ascending b.children)
in_match_stands units u (no_length p low q zero' g is) h =
    let b = matches_branch units h (omega (arith, zero')) in
    let none : Some b.n ≡ None = sym b.len ∙ long_len units p low None (omega (arith, zero')) g in
    cc

in_node_stands : (units : List ℕ) (u : ℕ) {p : ℕ} {q : Place} {m : UnitMap} → InNode units u p q → Holds units p m
    → Stands units q (after u m)
unfolding after
in_node_stands units u (no_lead p q g is) h = absurd (holds_within units h g)
in_node_stands units u (at_final p lead q g big is) h =
    let f = holds_final units h lead g big in
    rw (is, f.2) refl
in_node_stands units u (at_plain p lead q g small i) h = in_match_stands units u i (holds_plain units h lead g small)
in_node_stands units u {q = q} (at_valued p lead _ g big small i) h =
    let f = holds_valued units h lead g big small in
    rw f.is (in_match_stands units u i f.node)

steps_stand : (units : List ℕ) (from : Place) (u : ℕ) (q : Place) (m : UnitMap) → StepsTo units from u q → Stands units from m
    → Stands units q (after u m)
unfolding after
steps_stand units Nowhere u q m step h = rw (step, h) refl
steps_stand units (Node p) u q m step (inl h) = in_node_stands units u step h
steps_stand units (Node p) u q m step (inr h) = absent (slice_get units p) refl step
  where
    absent : (lead : Option ℕ) → slice_get units p ≡ lead → InNode units u p q → Stands units q (after u m)
    absent lead g (no_lead _ _ g' is) = rw (is, h.1) refl
    absent lead g (at_final _ lead' _ g' big is) = rw (is, h.1) refl
    absent lead g (at_plain _ lead' _ g' small i) = cc (h.0, g')
    absent lead g (at_valued _ lead' _ g' big small i) = cc (h.0, g')
steps_stand units (Run p left) u q m step h = in_run_stands units p left u m q step h

-- ---- after some units

along_stand : (units : List ℕ) (from : Place) (w : List ℕ) (q : Place) (m : UnitMap) → StepsAlong units from w q → Stands units from m
    → Stands units q (after_all w m)
unfolding after_all
along_stand units from [] q m steps h = rw steps h
along_stand units from (u ∷ w) q m steps h =
    along_stand units steps.0 w q (after u m) steps.2 (steps_stand units from u steps.0 m steps.1 h)

-- The value to which steps lead is that of the map.
pub along_is_value : (units : List ℕ) (m : UnitMap) (w : List ℕ) (v : Option ℤ) → IsTrieOf units m → HasValueAlong units w v
    → value_of m w ≡ v
along_is_value units m w v trie h =
    value_after_all w m
    ∙ sym (value_stands units h.0 (after_all w m) (along_stand units (Node 0) w h.0 m h.1 (root_stands units m trie))) ∙ h.2

front_is_value : (units : List ℕ) (m : UnitMap) (text : List ℕ) (k : ℕ) (v : Option ℤ) → IsTrieOf units m → HasFrontStepped units text k v
    → HasFrontValue m text k v
front_is_value units m text k v trie h = along_is_value units m (take k text) v trie h

pub longest_as : (P Q : ℕ → Option ℤ → Type 0) (most : ℕ) (found : Option (ℕ × ℤ)) → ((k : ℕ) (v : Option ℤ) → P k v → Q k v)
    → LongestWithin P most found → LongestWithin Q most found
longest_as P Q most None f h = λ k within. f k None (h k within)
longest_as P Q most (Some found) f h =
    (h.0, f found.0 (Some found.1) h.1, λ k above within. f k None (h.2 k above within))

pub stepped_is_longest : (units : List ℕ) (m : UnitMap) (text : List ℕ) (most : ℕ) (found : Option (ℕ × ℤ)) → IsTrieOf units m
    → LongestWithin (HasFrontStepped units text) most found → LongestWithin (HasFrontValue m text) most found
stepped_is_longest units m text most found trie =
    longest_as (HasFrontStepped units text) (HasFrontValue m text) most found (λ k v. front_is_value units m text k v trie)

-- The longest match in a text by the steps is that of the map.
pub stepped_is_longest_text : (units : List ℕ) (m : UnitMap) (text : List ℕ) (result : Option (ℕ × ℤ)) → IsTrieOf units m
    → IsLongestSteppedInText units text result → IsLongestInText m text result
stepped_is_longest_text units m text result trie h = (
  h.0,
  longest_as (HasCharsStepped units (chars text)) (HasCharsValue m (chars text)) (length (chars text)) h.0
      (λ k v. along_is_value units m (front_units (chars text) k) v trie) h.1,
  h.2,
)
