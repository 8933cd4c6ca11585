-- What a step does at a node.
use Rattle.std.proofs.Common.{◌≡◌, ℕ, ℤ, ◌+◌, ◌-◌, ◌<◌, ◌≤◌, Bool, true, false, cond, nat_eq, List, [], ◌∷◌, ◌++◌, Option, Some, None, refl, sym, ap, ◌∙◌, arith, length, take, drop, slice_get, ◌⊎◌, inl, inr, append-nil, add-one, add-zero, drop-cons, get_or, ◌%◌}
use Rattle.std.specs.Int.{cast_signed, w32}
use Rattle.icu_char16trie.specs.Numbers.{short_number, node_number, node_end}
use Rattle.std.proofs.lemmas.Option.{none-some, slice_get_within, get_or_from_slice_get, slice_get-get_or}
use Rattle.std.proofs.lemmas.Bool.{eqb-true}
use Rattle.icu_char16trie.specs.Grammar.{Part, last, entry, split, branch_len, branch_start, Holds, final, plain, valued, Matches, run, branch, Children, none, more, IsAscending, UnitsFrom}
use Rattle.icu_char16trie.specs.UnitMap.{under, after, value_of, same_key, goes_on, key_goes_on, arm_of}
use Rattle.icu_char16trie.specs.UnitPlaces.{InRun}
use Rattle.icu_char16trie.proofs.MapLemmas.{after_under, after_under_other, after_append}
use Rattle.icu_char16trie.proofs.PartLemmas.{arm_from}

-- Which branch a condition took.
cond_none : (b : Bool) (q : ℕ) (o : Option ℕ) → cond b (Some q) o ≡ None → (b ≡ false) × (o ≡ None)
cond_none true q o h = cc
cond_none false q o h = (refl, h)

cond_some : (b : Bool) (q r : ℕ) (o : Option ℕ) → cond b (Some q) o ≡ Some r → ((b ≡ true) × (q ≡ r)) ⊎ ((b ≡ false) × (o ≡ Some r))
cond_some true q r o h = inl (refl, cc)
cond_some false q r o h = inr (refl, h)

-- No key of the arms starts with a unit that no arm has.
pub children_other : (units : List ℕ) {arms : List (ℕ × ℕ)} {m : List (List ℕ × ℤ)} → Children units arms m → (u : ℕ) → arm_of arms u ≡ None
    → after u m ≡ []
unfolding arm_of after
children_other units (none arms m a e) u h = rw e refl
children_other units (more x q rest arms m others all a node c e) u h =
    let parts = cond_none (nat_eq x u) q (arm_of rest u) (rw a at h) in
    rw (e, after_append u _ others, after_under_other x u m parts.0) (children_other units c u parts.1)

pub children_found : (units : List ℕ) {arms : List (ℕ × ℕ)} {m : List (List ℕ × ℤ)} → Children units arms m → IsAscending arms → (u q : ℕ)
    → arm_of arms u ≡ Some q → Holds units q (after u m)
unfolding arm_of
children_found units (none arms m a e) up u q h = absurd (none-some _ (rw a at h))
children_found units (more x q' rest arms m others all a node c e) up u q h =
    let up' : UnitsFrom (x + 1) rest × IsAscending rest = rw a at up in
    elim (cond_some (nat_eq x u) q' q (arm_of rest u) (rw a at h)) [
      | inl y ↦
          let same : x ≡ u = eqb-true x u y.0 in
          let no_others : after u others ≡ [] = children_other units c u (arm_from rest (x + 1) u up'.0 (omega arith)) in
          let is : after u all ≡ m = rw (e, after_append u _ others, no_others, append-nil, same) (after_under u m) in
          rw (is, ← y.1) node
      | inr y ↦
          let is : after u all ≡ after u others = rw (e, after_append u _ others, after_under_other x u m y.0) refl in
          rw is (children_found units c up'.1 u q y.1)
    ]

take_first : (units : List ℕ) (p k x : ℕ) → slice_get units p ≡ Some x → take (k + 1) (drop p units) ≡ x ∷ take k (drop (p + 1) units)
take_first units p k x g =
    let here : drop p units ≡ x ∷ drop (p + 1) units =
    rw (drop-cons units p 0 (slice_get_within units p x g), get_or_from_slice_get units p x 0 g, add-one) refl in
    rw (here, add-one) refl

under_cons : (x : ℕ) (front : List ℕ) (m : List (List ℕ × ℤ)) → under (x ∷ front) m ≡ under (x ∷ []) (under front m)
under_cons x front [] = refl
under_cons x front (e ∷ m) = ap (λ t. ((x ∷ (front ++ e.0), e.1) ∷ t)) (under_cons x front m)

pub under_nil : (m : List (List ℕ × ℤ)) → under [] m ≡ m
under_nil [] = refl
under_nil (e ∷ m) = ap (λ t. e ∷ t) (under_nil m)

-- The keys of a linear match, after its first unit.
pub run_keys : (units : List ℕ) (p k x : ℕ) (m rest : List (List ℕ × ℤ)) → m ≡ under (take (k + 1) (drop p units)) rest
    → slice_get units p ≡ Some x
    → m ≡ under (x ∷ []) (under (take k (drop (p + 1) units)) rest)
run_keys units p k x m rest e g =
    e ∙ ap (λ front. under front rest) (take_first units p k x g) ∙ under_cons x (take k (drop (p + 1) units)) rest

-- The first unit of a linear match.
pub run_step : (units : List ℕ) (p k u x : ℕ) (m : List (List ℕ × ℤ)) → InRun units p (k + 1) m → slice_get units p ≡ Some x → x ≡ u
    → InRun units (p + 1) k (after u m)
run_step units p k u x m r g e =
    let regroup : p + (k + 1) ≡ (p + 1) + k = omega arith in
    record {
      rest = r.rest;
      within = omega (arith, r.within);
      node = rw (← regroup) r.node;
      keys = ap (after u) (run_keys units p k x m r.rest r.keys g) ∙ rw e (after_under u (under (take k (drop (p + 1) units)) r.rest));
    }

pub run_other : (units : List ℕ) (p k u x : ℕ) (m : List (List ℕ × ℤ)) → InRun units p (k + 1) m → slice_get units p ≡ Some x
    → nat_eq x u ≡ false → after u m ≡ []
run_other units p k u x m r g e =
    ap (after u) (run_keys units p k x m r.rest r.keys g) ∙ after_under_other x u (under (take k (drop (p + 1) units)) r.rest) e

pub run_end : (units : List ℕ) (p : ℕ) (m : List (List ℕ × ℤ)) → InRun units p 0 m → Holds units p m
run_end units p m r =
    let is : m ≡ r.rest = r.keys ∙ under_nil r.rest in
    rw is (rw add-zero at r.node)

-- ---- what the low bits and the lead say about a node

pub record IsBranch (units : List ℕ) (p low : ℕ) (m : List (List ℕ × ℤ)) : Type 0 where
  pub n : ℕ
  pub arms : List (ℕ × ℕ)
  pub len : branch_len units p low ≡ Some n
  pub part : Part units (branch_start p low) (n + 1) arms
  pub ascending : IsAscending arms
  pub children : Children units arms m

pub matches_run : (units : List ℕ) {p low : ℕ} {m : List (List ℕ × ℤ)} → Matches units p low m → 0x30 ≤ low → InRun units p (low - 0x2f) m
matches_run units (run p low m rest h l within node e) le = record { rest = rest; within = within; node = node; keys = e }
matches_run units (branch p low n arms m lt len many part up c) le = absurd (omega arith)

pub matches_branch : (units : List ℕ) {p low : ℕ} {m : List (List ℕ × ℤ)} → Matches units p low m → low < 0x30 → IsBranch units p low m
matches_branch units (run p low m rest h l within node e) lt = absurd (omega arith)
matches_branch units (branch p low n arms m lt' len many part up c) lt =
    record { n = n; arms = arms; len = len; part = part; ascending = up; children = c }

pub record IsValued (units : List ℕ) (p lead : ℕ) (m : List (List ℕ × ℤ)) : Type 0 where
  pub n : ℕ
  pub rest : List (List ℕ × ℤ)
  pub number : node_number units (p + 1) lead ≡ Some n
  pub node : Matches units (node_end (p + 1) lead) (lead % 64) rest
  pub is : m ≡ ([], cast_signed w32 n) ∷ rest

pub holds_final : (units : List ℕ) {p : ℕ} {m : List (List ℕ × ℤ)} → Holds units p m → (lead : ℕ) → slice_get units p ≡ Some lead
    → 0x8000 ≤ lead
    → (n : ℕ) × (short_number units (p + 1) (lead - 0x8000) ≡ Some n) × (m ≡ ([], cast_signed w32 n) ∷ [])
holds_final units (final p lead' n m g le s e) lead h big = let same : lead' ≡ lead = cc in (n, rw same at s, e)
holds_final units (plain p lead' m g lt node) lead h big = let same : lead' ≡ lead = cc in absurd (omega arith)
holds_final units (valued p lead' n m rest g ge lt s node e) lead h big = let same : lead' ≡ lead = cc in absurd (omega arith)

pub holds_plain : (units : List ℕ) {p : ℕ} {m : List (List ℕ × ℤ)} → Holds units p m → (lead : ℕ) → slice_get units p ≡ Some lead
    → lead < 0x40 → Matches units (p + 1) lead m
holds_plain units (final p lead' n m g le s e) lead h small = let same : lead' ≡ lead = cc in absurd (omega arith)
holds_plain units (plain p lead' m g lt node) lead h small = let same : lead' ≡ lead = cc in rw same at node
holds_plain units (valued p lead' n m rest g ge lt s node e) lead h small = let same : lead' ≡ lead = cc in absurd (omega arith)

pub holds_valued : (units : List ℕ) {p : ℕ} {m : List (List ℕ × ℤ)} → Holds units p m → (lead : ℕ) → slice_get units p ≡ Some lead
    → 0x40 ≤ lead → lead < 0x8000 → IsValued units p lead m
holds_valued units (final p lead' n m g le s e) lead h big small = let same : lead' ≡ lead = cc in absurd (omega arith)
holds_valued units (plain p lead' m g lt node) lead h big small = let same : lead' ≡ lead = cc in absurd (omega arith)
holds_valued units (valued p lead' n m rest g ge lt s node e) lead h big small =
    let same : lead' ≡ lead = cc in record { n = n; rest = rest; number = rw (← same) s; node = rw (← same) node; is = e }

-- A node is at an index within the list.
pub holds_within : (units : List ℕ) {p : ℕ} {m : List (List ℕ × ℤ)} → Holds units p m → slice_get units p ≡ None → ⊥
holds_within units (final p lead n m g le s e) h = cc
holds_within units (plain p lead m g lt node) h = cc
holds_within units (valued p lead n m rest g ge lt s node e) h = cc

pub holds_below : (units : List ℕ) {p : ℕ} {m : List (List ℕ × ℤ)} → Holds units p m → p < length units
holds_below units (final p lead n m g le s e) = slice_get_within units p lead g
holds_below units (plain p lead m g lt node) = slice_get_within units p lead g
holds_below units (valued p lead n m rest g ge lt s node e) = slice_get_within units p lead g

-- ---- a match node has a key, and no empty one

value_append : (m n : List (List ℕ × ℤ)) → value_of m [] ≡ None → value_of n [] ≡ None → value_of (m ++ n) [] ≡ None
unfolding value_of same_key
value_append [] n h k = k
value_append (([], v) ∷ m) n h k = cc
value_append ((x ∷ key, v) ∷ m) n h k = value_append m n h k

pub value_under : (x : ℕ) (front : List ℕ) (m : List (List ℕ × ℤ)) → value_of (under (x ∷ front) m) [] ≡ None
unfolding value_of same_key
value_under x front [] = refl
value_under x front (e ∷ m) = value_under x front m

children_no_root : (units : List ℕ) {arms : List (ℕ × ℕ)} {m : List (List ℕ × ℤ)} → Children units arms m → value_of m [] ≡ None
unfolding value_of
children_no_root units (none arms m a e) = rw e refl
children_no_root units (more x q rest arms m others all a node c e) =
    rw e (value_append (under (x ∷ []) m) others (value_under x [] m) (children_no_root units c))

pub run_first : (units : List ℕ) (p k : ℕ) → 0 < k → p + k ≤ length units → (x : ℕ) × (front : List ℕ) × (take k (drop p units) ≡ x ∷ front)
run_first units p k pos within =
    let here : slice_get units p ≡ Some (get_or units p 0) = slice_get-get_or units p 0 (omega arith) in
    let less : (k - 1) + 1 ≡ k = omega arith in
    (get_or units p 0, take (k - 1) (drop (p + 1) units), rw less at (take_first units p (k - 1) (get_or units p 0) here))

pub matches_no_root : (units : List ℕ) {p low : ℕ} {m : List (List ℕ × ℤ)} → Matches units p low m → value_of m [] ≡ None
matches_no_root units (run p low m rest h l within node e) =
    let f = run_first units p (low - 0x2f) (omega arith) within in
    rw (e, f.2) (value_under f.0 f.1 rest)
matches_no_root units (branch p low n arms m lt len many part up c) = children_no_root units c

abbrev pub HasEntry : List (List ℕ × ℤ) → Type 0
HasEntry m = (e : List ℕ × ℤ) × (rest : List (List ℕ × ℤ)) × (m ≡ e ∷ rest)

pub no_cons : {a : ℕ × ℕ} {rest : List (ℕ × ℕ)} → ◌≡◌ {A = List (ℕ × ℕ)} [] (a ∷ rest) → ⊥
no_cons h = cc

abbrev HasArm : List (ℕ × ℕ) → Type 0
HasArm arms = (a : ℕ × ℕ) × (rest : List (ℕ × ℕ)) × (arms ≡ a ∷ rest)

pub part_has : (units : List ℕ) {p n : ℕ} {arms : List (ℕ × ℕ)} → Part units p n arms → HasArm arms
part_has units (last p n u arms e g a) = ((u, p + 1), [], a)
part_has units (entry p n u v child rest arms many le5 g g' c r a) = ((u, child), rest, a)
part_has units (split p n s d low lower upper arms many g g' c l r b f a) =
    let h = part_has units l in (h.0, h.1 ++ upper, a ∙ ap (λ z. z ++ upper) h.2)

pub under_has : (front : List ℕ) (m others all : List (List ℕ × ℤ)) → all ≡ under front m ++ others → HasEntry m → HasEntry all
under_has front m others all e t = ((front ++ t.0.0, t.0.1), under front t.1 ++ others, e ∙ ap (λ z. under front z ++ others) t.2)

mutual
  pub holds_has : (units : List ℕ) {p : ℕ} {m : List (List ℕ × ℤ)} → Holds units p m → HasEntry m
  holds_has units (final p lead n m g le s e) = (([], cast_signed w32 n), [], e)
  holds_has units (plain p lead m g lt node) = matches_has units node
  holds_has units (valued p lead n m rest g ge lt s node e) = (([], cast_signed w32 n), rest, e)

  matches_has : (units : List ℕ) {p low : ℕ} {m : List (List ℕ × ℤ)} → Matches units p low m → HasEntry m
  matches_has units (run p low m rest h l within node e) =
      under_has (take (low - 0x2f) (drop p units)) rest [] m (e ∙ sym (append-nil (under (take (low - 0x2f) (drop p units)) rest)))
      (holds_has units node)
  matches_has units (branch p low n arms m lt len many part up c) = children_has units c (part_has units part)

  children_has : (units : List ℕ) {arms : List (ℕ × ℕ)} {m : List (List ℕ × ℤ)} → Children units arms m → HasArm arms → HasEntry m
  children_has units (none arms m a e) h = absurd (no_cons (rw a at h.2))
  children_has units (more x q rest arms m others all a node c e) h =
      under_has (x ∷ []) m others all e (holds_has units node)

first_on : (e : List ℕ × ℤ) (rest : List (List ℕ × ℤ)) → value_of (e ∷ rest) [] ≡ None → goes_on (e ∷ rest) [] ≡ true
unfolding value_of same_key goes_on key_goes_on
first_on ([], v) rest h = cc
first_on (x ∷ key, v) rest h = refl

root_or_on : (m : List (List ℕ × ℤ)) → value_of m [] ≡ None → HasEntry m → goes_on m [] ≡ true
root_or_on m h t = rw t.2 (first_on t.0 t.1 (rw t.2 at h))

-- Some key of a match node is not empty.
pub matches_on : (units : List ℕ) {p low : ℕ} {m : List (List ℕ × ℤ)} → Matches units p low m → goes_on m [] ≡ true
matches_on units node = root_or_on _ (matches_no_root units node) (matches_has units node)

pub run_keys_first : (units : List ℕ) (p left : ℕ) (m : List (List ℕ × ℤ)) → (r : InRun units p (left + 1) m)
    → (x : ℕ) × (front : List ℕ) × (m ≡ under (x ∷ front) r.rest)
run_keys_first units p left m r =
    let f = run_first units p (left + 1) (omega arith) r.within in
    (f.0, f.1, r.keys ∙ ap (λ z. under z r.rest) f.2)
