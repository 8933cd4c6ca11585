-- The number of entries of a node, given those of the nodes that it leads to.
use Rattle.std.proofs.Common.{◌≡◌, ℕ, suc, ◌+◌, ◌-◌, ◌/◌, ◌%◌, ◌<◌, ◌≤◌, ◌≢◌, ◌↔◌, Bool, true, false, nat_eq, List, [], ◌∷◌, ◌++◌, Option, Some, None, length, get_or, set, slice_get, refl, sym, ap, ◌∙◌, arith, length-append, get_or-set_same, get_or-set_other}
use Rattle.std.specs.Prelude.{min}
use Rattle.std.proofs.lemmas.Option.{none-some, same_Some}
use Rattle.std.proofs.lemmas.Bool.{eqb-false, eqb-true}
use Rattle.icu_char16trie.specs.Numbers.{entry_child, short_end, lower_part, delta_end, node_end}
use Rattle.icu_char16trie.specs.Grammar.{Arms, Part, Holds, final, plain, valued, Matches, run, branch, Children, none, more, IsTrieOf}
use Rattle.icu_char16trie.specs.Grammar as grammar
use Rattle.icu_char16trie.specs.UnitMap.{UnitMap, under}
use Rattle.icu_char16trie.specs.Inside.Soundness.{AllBetween, IsWanted, places_of}
use Rattle.icu_char16trie.specs.Inside.Counts.{capped, sum_at, MatchKids, after_run, of_arms, NodeKids, no_kids, of_plain, of_valued, IsCounted, AllCounted, AllWanted, IsClosed}
use Rattle.icu_char16trie.proofs.PartLemmas.{last_is, entry_found, split_found, part_begins, part_goes_on}
use Rattle.icu_char16trie.proofs.OneMap.{part_one}
use Rattle.icu_char16trie.proofs.SoundnessLemmas.{places_append}

-- ---- numbers

cap_two : (c s a b most : ℕ) → c ≡ min a most → min s most ≡ min b most → min (c + s) most ≡ min (a + b) most
cap_two c s a b most e f = omega arith

pub cap_sum : (x y a b most : ℕ) → x ≡ min a most → y ≡ min b most → min (x + y) most ≡ min (a + b) most
cap_sum x y a b most e f = omega arith

pub cap_step : (t c s a most : ℕ) → min (t + (c + s)) most ≡ a → min (min (t + c) most + s) most ≡ a
cap_step t c s a most e = omega arith

cap_own : (own s b most : ℕ) → min s most ≡ min b most → min (own + s) most ≡ min (own + b) most
cap_own own s b most e = omega arith

zero_plus : (x : ℕ) → 0 + x ≡ x
zero_plus x = omega arith

sum_append : (counts places others : List ℕ) → sum_at counts (places ++ others) ≡ sum_at counts places + sum_at counts others
sum_append counts [] others = omega arith
sum_append counts (q ∷ places) others = omega (arith, sum_append counts places others)

length_under : (front : List ℕ) (m : UnitMap) → length (under front m) ≡ length m
length_under front [] = refl
length_under front (e ∷ m) = ap suc (length_under front m)

-- ---- the entries of a node

children_count : (units counts : List ℕ) {arms : Arms} {m : UnitMap} → Children units arms m → AllCounted units counts (places_of arms)
    → capped (sum_at counts (places_of arms)) ≡ capped (length m)
children_count units counts (none arms m a e) h = rw (a, e) refl
children_count units counts (more u q rest arms m others all a node c e) h =
    let h' : AllCounted units counts (q ∷ places_of rest) = rw a at h in
    let both : length all ≡ length m + length others =
    ap length e ∙ length-append (under (u ∷ []) m) others ∙ ap (λ z. z + length others) (length_under (u ∷ []) m) in
    rw (a, both)
    (cap_two (get_or counts q 0) (sum_at counts (places_of rest)) (length m) (length others) _ (h'.0 m node)
    (children_count units counts c h'.1))

one_count : (c n most : ℕ) → c ≡ min n most → min (c + 0) most ≡ min n most
one_count c n most e = omega arith

matches_count : (units counts : List ℕ) {p low : ℕ} {m : UnitMap} {kids : List ℕ} → Matches units p low m → MatchKids units p low kids
    → AllCounted units counts kids
    → capped (sum_at counts kids) ≡ capped (length m)
matches_count units counts (run p low m rest big small within h e) (after_run _ _ kids _ k) all =
    let all' : AllCounted units counts ((p + (low - 0x2f)) ∷ []) = rw k at all in
    let same : length m ≡ length rest = ap length e ∙ length_under _ rest in
    rw (k, same) (one_count (get_or counts (p + (low - 0x2f)) 0) (length rest) _ (all'.0 rest h))
matches_count units counts (run p low m rest big small within h e) (of_arms _ _ n arms kids small' len part k) all = absurd (omega arith)
matches_count units counts (branch p low n arms m small len some part up c) (after_run _ _ kids big k) all = absurd (omega arith)
matches_count units counts (branch p low n arms m small len some part up c) (of_arms _ _ n' arms' kids small' len' part' k) all =
    let same : n' ≡ n = same_Some n' n (sym len' ∙ len) in
    let arms_same : arms' ≡ arms = part_one units (rw same at part') part in
    let is : kids ≡ places_of arms = k ∙ ap places_of arms_same in
    rw is (children_count units counts c (rw is at all))

pub node_count : (units counts : List ℕ) {p own : ℕ} {m : UnitMap} {kids : List ℕ} → Holds units p m → NodeKids units p own kids
    → AllCounted units counts kids
    → capped (own + sum_at counts kids) ≡ capped (length m)
node_count units counts (final p lead n m g big s e) (no_kids _ lead' own kids g' big' one k) all = rw (one, k, e) refl
node_count units counts (final p lead n m g big s e) (of_plain _ lead' own kids g' small' one k) all =
    let same : lead' ≡ lead = cc in absurd (omega arith)
node_count units counts (final p lead n m g big s e) (of_valued _ lead' own kids g' big' small' one k) all =
    let same : lead' ≡ lead = cc in absurd (omega arith)
node_count units counts (plain p lead m g small h) (no_kids _ lead' own kids g' big' one k) all =
    let same : lead' ≡ lead = cc in absurd (omega arith)
node_count units counts (plain p lead m g small h) (of_plain _ lead' own kids g' small' zero' k) all =
    let same : lead' ≡ lead = cc in rw (zero', zero_plus (sum_at counts kids)) (matches_count units counts h (rw same at k) all)
node_count units counts (plain p lead m g small h) (of_valued _ lead' own kids g' big' small' one k) all =
    let same : lead' ≡ lead = cc in absurd (omega arith)
node_count units counts (valued p lead n m rest g big small s h e) (no_kids _ lead' own kids g' big' one k) all =
    let same : lead' ≡ lead = cc in absurd (omega arith)
node_count units counts (valued p lead n m rest g big small s h e) (of_plain _ lead' own kids g' small' one k) all =
    let same : lead' ≡ lead = cc in absurd (omega arith)
node_count units counts (valued p lead n m rest g big small s h e) (of_valued _ lead' own kids g' big' small' one k) all =
    let same : lead' ≡ lead = cc in
    let k' : MatchKids units (node_end (p + 1) lead) (lead % 64) kids = rw same at k in
    let counted : capped (sum_at counts kids) ≡ capped (length rest) = matches_count units counts h k' all in
    let longer : length m ≡ 1 + length rest = ap length e ∙ omega arith in
    rw (one, longer) (cap_own 1 (sum_at counts kids) (length rest) _ counted)

-- ---- from the last node back to the root

all_counted : (units counts kids : List ℕ) (wanted : List Bool) (p n : ℕ) → AllBetween p n kids → AllWanted wanted kids
    → ((q : ℕ) → p + 1 ≤ q → IsWanted wanted q → IsCounted units counts q) → AllCounted units counts kids
all_counted units counts [] wanted p n b a h = tt
all_counted units counts (q ∷ kids) wanted p n b a h = (h q (omega (arith, b.0)) a.0, all_counted units counts kids wanted p n b.2 a.1 h)

pub count_here : (units counts : List ℕ) (wanted : List Bool) (p v : ℕ) → IsClosed units wanted (length units) → p < length units
    → p < length counts → IsWanted wanted p
    → ((own : ℕ) (kids : List ℕ) → NodeKids units p own kids → v ≡ capped (own + sum_at counts kids))
    → ((q : ℕ) → p + 1 ≤ q → IsWanted wanted q → IsCounted units counts q)
    → (q : ℕ) → p ≤ q → IsWanted wanted q → IsCounted units (set counts p v) q
count_here units counts wanted p v closed within within' here is after q le w m holds = by (nat_eq q p) refl
  where
    by : (b : Bool) → nat_eq q p ≡ b → get_or (set counts p v) q 0 ≡ capped (length m)
    by true e =
        let same : q ≡ p = eqb-true q p e in
        let l = closed p within here in
        let all = all_counted units counts l.kids wanted p (length units) l.ahead l.all after in
        rw (same, get_or-set_same counts p v 0 within') (is l.own l.kids l.node ∙ node_count units counts (rw same at holds) l.node all)
    by false e =
        let other : q ≢ p = eqb-false q p e in
        rw (get_or-set_other counts p q v 0 other) (after q (omega (arith, other)) w m holds)

-- ---- the count of a part of a branch

-- This is the count of a part.
abbrev pub CountsPart : List ℕ → List ℕ → ℕ → ℕ → Option ℕ → Type 0
CountsPart units counts p n r = (arms : Arms) → Part units p n arms → r ≡ Some (capped (sum_at counts (places_of arms)))

-- This is the count of a row, added to an earlier count.
abbrev pub CountsFrom : List ℕ → List ℕ → ℕ → ℕ → ℕ → Option ℕ → Type 0
CountsFrom units counts total p n r = (arms : Arms) → Part units p n arms → r ≡ Some (capped (total + sum_at counts (places_of arms)))

pub no_second : (units counts : List ℕ) (total p n : ℕ) (r : Option ℕ) → 1 < n → slice_get units (p + 1) ≡ None
    → CountsFrom units counts total p n r
no_second units counts total p n r many g arms part = absurd (part_goes_on units part many g)

pub no_first : (units counts : List ℕ) (total p n : ℕ) (r : Option ℕ) → slice_get units p ≡ None → CountsFrom units counts total p n r
no_first units counts total p n r g arms part = absurd (part_begins units part g)

pub no_jump : (units counts : List ℕ) (total p n u v : ℕ) (r : Option ℕ) → 1 < n → n ≤ 5 → slice_get units p ≡ Some u
    → slice_get units (p + 1) ≡ Some v
    → entry_child units (p + 2) v ≡ None → CountsFrom units counts total p n r
no_jump units counts total p n u v r many few g g' c arms part =
    let e = entry_found units part many few u v g g' in absurd (none-some _ (sym c ∙ e.at))

pub next_counted : (units counts : List ℕ) (total p n u v child q total' : ℕ) (r : Option ℕ) → 1 < n → n ≤ 5 → slice_get units p ≡ Some u
    → slice_get units (p + 1) ≡ Some v
    → entry_child units (p + 2) v ≡ Some child → q ≡ short_end (p + 2) (v % 0x8000) → total' ≡ capped (total + get_or counts child 0)
    → CountsFrom units counts total' q (n - 1) r → CountsFrom units counts total p n r
next_counted units counts total p n u v child q total' r many few g g' c at t h arms part =
    let e = entry_found units part many few u v g g' in
    let same : e.child ≡ child = same_Some e.child child (sym e.at ∙ c) in
    let rest : r ≡ Some (capped (total' + sum_at counts (places_of e.rest))) = h e.rest (rw at e.others) in
    let counted : capped (total' + sum_at counts (places_of e.rest))
    ≡ capped (total + (get_or counts child 0 + sum_at counts (places_of e.rest))) =
    rw t (cap_step total (get_or counts child 0) (sum_at counts (places_of e.rest)) _ _ refl) in
    rw (e.is, same) (rest ∙ ap Some counted)

pub last_counted : (units counts : List ℕ) (total p n u : ℕ) (r : Option ℕ) → n ≤ 1 → slice_get units p ≡ Some u
    → r ≡ Some (capped (total + get_or counts (p + 1) 0))
    → CountsFrom units counts total p n r
last_counted units counts total p n u r few g h arms part =
    let is = last_is units part few u g in
    rw is (h ∙ ap (λ z. Some (capped (total + z))) (omega arith))

pub both_counted : (units counts : List ℕ) (p n s d low high x y : ℕ) → 5 < n → slice_get units p ≡ Some s
    → slice_get units (p + 1) ≡ Some d
    → lower_part units (p + 2) d ≡ Some low → high ≡ delta_end (p + 2) d
    → CountsPart units counts low (n / 2) (Some x) → CountsPart units counts high (n - n / 2) (Some y)
    → CountsPart units counts p n (Some (capped (x + y)))
both_counted units counts p n s d low high x y many g g' c at l h arms part =
    let e = split_found units part many s d g g' in
    let same : e.low ≡ low = same_Some e.low low (sym e.at ∙ c) in
    let xs : x ≡ capped (sum_at counts (places_of e.lower)) = same_Some _ _ (l e.lower (rw same at e.below)) in
    let ys : y ≡ capped (sum_at counts (places_of e.upper)) = same_Some _ _ (h e.upper (rw at e.above)) in
    let sum : sum_at counts (places_of arms) ≡ sum_at counts (places_of e.lower) + sum_at counts (places_of e.upper) =
    ap (λ z. sum_at counts (places_of z)) e.is ∙ ap (sum_at counts) (places_append e.lower e.upper)
    ∙ sum_append counts (places_of e.lower) (places_of e.upper) in
    rw sum (ap Some (cap_sum x y (sum_at counts (places_of e.lower)) (sum_at counts (places_of e.upper)) _ xs ys))

-- ---- the whole trie

pub empty_none : (units : List ℕ) (x : ℕ) → units ≡ [] → ◌≡◌ {A = Option ℕ} (Some x) None ↔ ((m : UnitMap) → IsTrieOf units m → ⊥)
empty_none units x e = (λ h m is. none-some x (sym h), λ never. absurd (never [] (grammar.empty e refl)))
