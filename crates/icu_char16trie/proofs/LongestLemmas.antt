-- The longest match of a text, found from node to node.
use Rattle.std.proofs.Common.{◌≡◌, ℕ, ℤ, zero, suc, ◌+◌, ◌-◌, ◌/◌, ◌%◌, ◌<◌, ◌≤◌, true, nat_lt, List, [], ◌∷◌, ◌++◌, Option, Some, None, length, slice_get, take, drop, refl, sym, ap, subst, ◌∙◌, ◌⊎◌, inl, inr, arith, length-drop}
use Rattle.std.specs.Prelude.{option_and_then}
use Rattle.std.proofs.Math.Seq.{take-length}
use Rattle.std.proofs.lemmas.Bool.{lt-ltb}
use Rattle.icu_char16trie.specs.Numbers.{node_end, end_by}
use Rattle.icu_char16trie.specs.UnitPlaces.{value_at, value_by, ends_by}
use Rattle.icu_char16trie.specs.Steps.{at_plain, at_valued, StepsAlong}
use Rattle.icu_char16trie.specs.Matches.{HasFrontStepped, HasValueAlong, LongestWithin}
use Rattle.icu_char16trie.specs.Inside.Fronts.{longer, HasValueFrom, LeadsToNode, LeadsByMatch, PassesMatch}
use Rattle.icu_char16trie.specs.declared.place.Place.{Place}
use Rattle.icu_char16trie.specs.declared.place.Place.TheVariants.{Node}
use Rattle.icu_char16trie.proofs.FrontLemmas.{LongestWithin-more, LongestWithin-suc, LongestWithin-zero, no_longer_step, within_or_above}
use Rattle.icu_char16trie.proofs.PassedLemmas.{along_then}
use Rattle.icu_char16trie.proofs.PlaceLemmas.{from_yes}

-- ---- prefixes of a text

front_then : (text : List ℕ) (i n : ℕ) → take i text ++ take n (drop i text) ≡ take (i + n) text
front_then text zero n = ap (λ k. take k text) (omega arith)
front_then [] (suc i) n = no_front n ∙ sym (no_front (suc i + n))
  where
    no_front : (k : ℕ) → take {A = ℕ} k [] ≡ []
    no_front zero = refl
    no_front (suc k) = refl
front_then (u ∷ text) (suc i) n =
    let next : suc i + n ≡ suc (i + n) = omega arith in rw next (ap (λ z. u ∷ z) (front_then text i n))

along_front : (units text : List ℕ) (i n : ℕ) (mid q : Place) → StepsAlong units (Node 0) (take i text) mid
    → StepsAlong units mid (take n (drop i text)) q → StepsAlong units (Node 0) (take (i + n) text) q
along_front units text i n mid q before after =
    subst (λ w. StepsAlong units (Node 0) w q) (front_then text i n)
    (along_then units (Node 0) mid q (take i text) (take n (drop i text)) before after)

front_from : (units text : List ℕ) (i n : ℕ) (mid : Place) (v : Option ℤ) → StepsAlong units (Node 0) (take i text) mid
    → HasValueFrom units mid (take n (drop i text)) v → HasFrontStepped units text (i + n) v
front_from units text i n mid v before h = (h.0, along_front units text i n mid h.0 before h.1, h.2)

-- ---- at a node

plain_leads : (units : List ℕ) (p lead place : ℕ) → slice_get units p ≡ Some lead → lead < 0x40 → place ≡ node_end (p + 1) lead
    → LeadsByMatch units (Node p) place (lead % 64)
unfolding end_by
plain_leads units p lead place g few at u to step =
    let no_value : nat_lt (lead / 64 - 1) 0x100 ≡ true = lt-ltb (lead / 64 - 1) 0x100 (omega (arith, few)) in
    let here : place ≡ p + 1 = at ∙ rw no_value refl in
    let low : lead % 64 ≡ lead = omega (arith, few) in
    at_plain p lead to g few (rw (here, low) at step)

pub match_leads : (units : List ℕ) (p lead place : ℕ) → slice_get units p ≡ Some lead → lead < 0x8000 → place ≡ node_end (p + 1) lead
    → LeadsByMatch units (Node p) place (lead % 64)
match_leads units p lead place g small at = by (within_or_above lead 0x3f)
  where
    by : (lead ≤ 0x3f) ⊎ (0x3f < lead) → LeadsByMatch units (Node p) place (lead % 64)
    by (inl few) = plain_leads units p lead place g (omega (arith, few)) at
    by (inr more) = λ u to step. at_valued p lead to g (omega (arith, more)) small (rw at at step)

-- ---- from node to node

-- The first i units of the text lead to the node, and the match found is the longest among at most
-- these units, the node's own value included.
pub record IsAtNode (units text : List ℕ) (i node : ℕ) (found : Option (ℕ × ℤ)) : Type 0 where
  pub within : i ≤ length text
  pub steps : StepsAlong units (Node 0) (take i text) (Node node)
  pub longest : LongestWithin (HasFrontStepped units text) i (longer i (value_at units (Node node)) found)

pub at_root : (units text : List ℕ) → IsAtNode units text 0 0 None
at_root units text = record {
  within = omega arith;
  steps = refl;
  longest = LongestWithin-zero (HasFrontStepped units text) (value_at units (Node 0)) (Node 0, refl, refl);
}

-- Between two nodes nothing has a value.
pub none_between : (units text : List ℕ) (i node n q : ℕ) → StepsAlong units (Node 0) (take i text) (Node node)
    → LeadsToNode units (Node node) (drop i text) q n → (k : ℕ) → i < k → k < i + n → HasFrontStepped units text k None
none_between units text i node n q steps on k above below =
    let same : i + (k - i) ≡ k = omega (arith, above) in
    subst (λ z. HasFrontStepped units text z None) same
    (front_from units text i (k - i) (Node node) None steps (on.none (k - i) (omega (arith, above)) (omega (arith, above, below))))

at_next : (units text : List ℕ) (i node n q : ℕ) (found : Option (ℕ × ℤ)) → i ≤ length text
    → StepsAlong units (Node 0) (take i text) (Node node) → LongestWithin (HasFrontStepped units text) i found
    → LeadsToNode units (Node node) (drop i text) q n → IsAtNode units text (i + n) q found
at_next units text i node n q found within steps h on = record {
  within = omega (arith, on.within, length-drop i text, within);
  steps = along;
  longest =
      subst (λ z. LongestWithin P z (longer z v found)) last
      (LongestWithin-suc P (i + n - 1) v found (rw last (Node q, along, refl))
      (LongestWithin-more P i (i + n - 1) found (omega (arith, on.some)) none h));
}
  where
    P : ℕ → Option ℤ → Type 0
    P = HasFrontStepped units text

    v : Option ℤ
    v = value_at units (Node q)

    last : i + n - 1 + 1 ≡ i + n
    last = omega (arith, on.some)

    along : StepsAlong units (Node 0) (take (i + n) text) (Node q)
    along = along_front units text i n (Node node) (Node q) steps on.steps

    none : (k : ℕ) → i < k → k ≤ i + n - 1 → P k None
    none k above below = none_between units text i node n q steps on k above (omega (arith, below, on.some))

-- ---- above the units so far

-- No prefix of more than i units has a value.
abbrev pub NoneAbove : List ℕ → List ℕ → ℕ → Type 0
NoneAbove units text i = (k : ℕ) → i < k → k ≤ length text → HasFrontStepped units text k None

-- The lead is missing.
pub none_above_missing : (units text : List ℕ) (i node : ℕ) → StepsAlong units (Node 0) (take i text) (Node node)
    → slice_get units node ≡ None → NoneAbove units text i
none_above_missing units text i node steps g k = no_longer_step units text (Node node) i k steps (ap ends_by g)

-- The lead is that of a final value.
pub none_above_final : (units text : List ℕ) (i node lead : ℕ) → StepsAlong units (Node 0) (take i text) (Node node)
    → slice_get units node ≡ Some lead → 0x8000 ≤ lead → NoneAbove units text i
none_above_final units text i node lead steps g big k =
    no_longer_step units text (Node node) i k steps (ap ends_by g ∙ from_yes 0x8000 lead big)

-- The text does not continue at the match node.
pub none_above_match : (units text : List ℕ) (i node lead place : ℕ) → StepsAlong units (Node 0) (take i text) (Node node)
    → slice_get units node ≡ Some lead → lead < 0x8000 → place ≡ node_end (node + 1) lead
    → PassesMatch units (drop i text) place (lead % 64) None → NoneAbove units text i
none_above_match units text i node lead place steps g small e passes k above below =
    let same : i + (k - i) ≡ k = omega (arith, above) in
    subst (λ z. HasFrontStepped units text z None) same
    (front_from units text i (k - i) (Node node) None steps
    (passes (Node node) (match_leads units node lead place g small e) (k - i) (omega (arith, above))
    (omega (arith, above, below, length-drop i text))))

-- ---- the result once the node's lead is read

found_here : (units text : List ℕ) (i node lead : ℕ) (before found : Option (ℕ × ℤ)) → IsAtNode units text i node before
    → slice_get units node ≡ Some lead → found ≡ longer i (value_by units (node + 1) lead) before
    → LongestWithin (HasFrontStepped units text) i found
found_here units text i node lead before found at g is =
    let value : value_at units (Node node) ≡ value_by units (node + 1) lead = ap (option_and_then (value_by units (node + 1))) g in
    rw is (rw value at at.longest)

-- The lead is missing.
pub ends_before : (units text : List ℕ) (i node : ℕ) (found : Option (ℕ × ℤ)) → IsAtNode units text i node found
    → slice_get units node ≡ None → LongestWithin (HasFrontStepped units text) (length text) found
ends_before units text i node found at g =
    let no_value : value_at units (Node node) ≡ None = ap (option_and_then (value_by units (node + 1))) g in
    LongestWithin-more (HasFrontStepped units text) i (length text) found at.within
    (none_above_missing units text i node at.steps g) (rw no_value at at.longest)

-- The lead is there, and the text does not continue.
pub ends_at : (units text : List ℕ) (i node lead : ℕ) (before found : Option (ℕ × ℤ)) → IsAtNode units text i node before
    → slice_get units node ≡ Some lead → found ≡ longer i (value_by units (node + 1) lead) before → NoneAbove units text i
    → LongestWithin (HasFrontStepped units text) (length text) found
ends_at units text i node lead before found at g is none =
    LongestWithin-more (HasFrontStepped units text) i (length text) found at.within none
    (found_here units text i node lead before found at g is)

-- The text continues to the next node.
pub goes_to : (units text : List ℕ) (i node lead place q n : ℕ) → slice_get units node ≡ Some lead → lead < 0x8000
    → place ≡ node_end (node + 1) lead → PassesMatch units (drop i text) place (lead % 64) (Some (q, n))
    → LeadsToNode units (Node node) (drop i text) q n
goes_to units text i node lead place q n g small e passes = passes (Node node) (match_leads units node lead place g small e)

pub at_next_node : (units text : List ℕ) (i node lead n q : ℕ) (before found : Option (ℕ × ℤ)) → IsAtNode units text i node before
    → slice_get units node ≡ Some lead → found ≡ longer i (value_by units (node + 1) lead) before
    → LeadsToNode units (Node node) (drop i text) q n → IsAtNode units text (i + n) q found
at_next_node units text i node lead n q before found at g is on =
    at_next units text i node n q found at.within at.steps (found_here units text i node lead before found at g is) on

pub within_text : (units text : List ℕ) (i node n q : ℕ) → i ≤ length text
    → LeadsToNode units (Node node) (drop i text) q n → i + n ≤ length text
within_text units text i node n q within on = omega (arith, on.within, length-drop i text, within)

-- The rest of a text.
pub rest_is : (text : List ℕ) (i : ℕ) → take (length text - i) (drop i text) ≡ drop i text
rest_is text i = let all : length (drop i text) ≡ length text - i = length-drop i text in rw (← all) (take-length (drop i text))

-- ---- the value of the whole text

whole : (units text : List ℕ) (k : ℕ) (v : Option ℤ) → k ≡ length text → HasFrontStepped units text k v → HasValueAlong units text v
whole units text k v e h =
    let all : take k text ≡ text = ap (λ n. take n text) e ∙ take-length text in subst (λ w. HasValueAlong units w v) all h

-- The text does not end at the node.
pub none_at_end : (units text : List ℕ) (i : ℕ) → i < length text → NoneAbove units text i → HasValueAlong units text None
none_at_end units text i within none = whole units text (length text) None refl (none (length text) within (omega arith))

-- The text ends at the node.
pub value_here : (units text : List ℕ) (i node : ℕ) (lead : Option ℕ) → i ≡ length text
    → StepsAlong units (Node 0) (take i text) (Node node) → slice_get units node ≡ lead
    → HasValueAlong units text (option_and_then (value_by units (node + 1)) lead)
value_here units text i node lead e steps g =
    whole units text i _ e (Node node, steps, ap (option_and_then (value_by units (node + 1))) g)

-- The units so far lead on to the next node.
pub along_on : (units text : List ℕ) (i node n q : ℕ) → StepsAlong units (Node 0) (take i text) (Node node)
    → LeadsToNode units (Node node) (drop i text) q n → StepsAlong units (Node 0) (take (i + n) text) (Node q)
along_on units text i node n q steps on = along_front units text i n (Node node) (Node q) steps on.steps
