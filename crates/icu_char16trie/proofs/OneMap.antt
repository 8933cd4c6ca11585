-- Units are a trie of at most one map, whose keys ascend.
use Rattle.std.proofs.Common.{◌≡◌, ℕ, ℤ, ◌+◌, ◌-◌, ◌≤◌, List, [], ◌∷◌, ◌++◌, slice_get, take, drop, refl, sym, ap, ◌∙◌, arith, inl, inr}
use Rattle.std.specs.Int.{cast_signed, w32}
use Rattle.std.proofs.lemmas.Option.{same_Some}
use Rattle.icu_char16trie.specs.Grammar.{Part, last, entry, split, UnitsFrom, IsAscending, Holds, final, plain, valued, Matches, run, branch, Children, none, more, IsTrieOf}
use Rattle.icu_char16trie.specs.Grammar as grammar
use Rattle.icu_char16trie.specs.UnitPlaces.{Stands}
use Rattle.icu_char16trie.specs.declared.place.Place.{Place}
use Rattle.icu_char16trie.specs.declared.place.Place.TheVariants.{Nowhere, Node, Run}
use Rattle.icu_char16trie.specs.UnitMap.{under, KeyBelow, KeyBelowAll, IsAscendingKeys}
use Rattle.icu_char16trie.proofs.PartLemmas.{last_is, entry_found, split_found}
use Rattle.icu_char16trie.proofs.NodeLemmas.{run_first, matches_run, matches_branch, holds_final, holds_plain, holds_valued, holds_within}
use Rattle.icu_char16trie.proofs.EntryLemmas.{children_cons, children_nil}

-- ---- one map

pub part_one : (units : List ℕ) {p n : ℕ} {arms arms' : List (ℕ × ℕ)} → Part units p n arms → Part units p n arms' → arms ≡ arms'
part_one units (last p n u arms few g a) y = a ∙ sym (last_is units y (omega arith) u g)
part_one units (entry p n u v child rest arms many few g g' c r a) y =
    let e = entry_found units y many few u v g g' in
    let same : child ≡ e.child = same_Some child e.child (sym c ∙ e.at) in
    a ∙ ap (λ z. (u, z) ∷ rest) same ∙ ap (λ z. (u, e.child) ∷ z) (part_one units r e.others) ∙ sym e.is
part_one units (split p n s d low lower upper arms many g g' c l r b f a) y =
    let e = split_found units y many s d g g' in
    let same : e.low ≡ low = same_Some e.low low (sym e.at ∙ c) in
    a ∙ ap (λ z. z ++ upper) (part_one units l (rw same at e.below)) ∙ ap (λ z. e.lower ++ z) (part_one units r e.above) ∙ sym e.is

mutual
  pub holds_one : (units : List ℕ) {p : ℕ} {m m' : List (List ℕ × ℤ)} → Holds units p m → Holds units p m' → m ≡ m'
  holds_one units (final p lead n m g big s e) y =
      let f = holds_final units y lead g big in
      let same : n ≡ f.0 = same_Some n f.0 (sym s ∙ f.1) in
      e ∙ ap (λ z. ([], cast_signed w32 z) ∷ []) same ∙ sym f.2
  holds_one units (plain p lead m g small h) y = matches_one units h (holds_plain units y lead g small)
  holds_one units (valued p lead n m rest g big small s h e) y =
      let f = holds_valued units y lead g big small in
      let same : n ≡ f.n = same_Some n f.n (sym s ∙ f.number) in
      e ∙ ap (λ z. ([], cast_signed w32 z) ∷ rest) same ∙ ap (λ z. ([], cast_signed w32 f.n) ∷ z) (matches_one units h f.node) ∙ sym f.is

  matches_one : (units : List ℕ) {p low : ℕ} {m m' : List (List ℕ × ℤ)} → Matches units p low m → Matches units p low m' → m ≡ m'
  matches_one units (run p low m rest big small within h e) y =
      let r = matches_run units y big in
      e ∙ ap (under (take (low - 0x2f) (drop p units))) (holds_one units h r.node) ∙ sym r.keys
  matches_one units (branch p low n arms m small len many part up c) y =
      let b = matches_branch units y small in
      let same : b.n ≡ n = same_Some b.n n (sym b.len ∙ len) in
      let arms_same : arms ≡ b.arms = part_one units part (rw same at b.part) in
      children_one units c (rw arms_same b.children)

  children_one : (units : List ℕ) {arms : List (ℕ × ℕ)} {m m' : List (List ℕ × ℤ)} → Children units arms m → Children units arms m' → m ≡ m'
  children_one units (none arms m a e) y = e ∙ sym (children_nil units y a)
  children_one units (more u q rest arms m others all a h c e) y =
      let f = children_cons units y u q rest a in
      e ∙ ap (λ z. under (u ∷ []) z ++ others) (holds_one units h f.node)
      ∙ ap (λ z. under (u ∷ []) f.first ++ z) (children_one units c f.children) ∙ sym f.is

no_root : (units : List ℕ) (m : List (List ℕ × ℤ)) → units ≡ [] → Holds units 0 m → ⊥
no_root units m e h = holds_within units h (ap (λ z. slice_get z 0) e)

pub trie_one : (units : List ℕ) (m m' : List (List ℕ × ℤ)) → IsTrieOf units m → IsTrieOf units m' → m ≡ m'
trie_one units m m' (grammar.node h) (grammar.node h') = holds_one units h h'
trie_one units m m' (grammar.node h) (grammar.empty u' e') = absurd (no_root units m u' h)
trie_one units m m' (grammar.empty u e) (grammar.node h') = absurd (no_root units m' u h')
trie_one units m m' (grammar.empty u e) (grammar.empty u' e') = e ∙ sym e'

-- ---- ascending keys

-- The keys start with a unit that is not below s.
abbrev BeginsFrom : ℕ → List ℕ → Type 0
BeginsFrom s [] = ⊥
BeginsFrom s (x ∷ key) = s ≤ x

abbrev AllBeginFrom : ℕ → List (List ℕ × ℤ) → Type 0
AllBeginFrom s [] = Unit {0}
AllBeginFrom s (e ∷ m) = BeginsFrom s e.0 × AllBeginFrom s m

under_begins : (x : ℕ) (front : List ℕ) (m : List (List ℕ × ℤ)) (s : ℕ) → s ≤ x → AllBeginFrom s (under (x ∷ front) m)
under_begins x front [] s h = tt
under_begins x front (e ∷ m) s h = (h, under_begins x front m s h)

append_begins : (s : ℕ) (m n : List (List ℕ × ℤ)) → AllBeginFrom s m → AllBeginFrom s n → AllBeginFrom s (m ++ n)
append_begins s [] n b c = c
append_begins s (e ∷ m) n b c = (b.0, append_begins s m n b.1 c)

pub from_more : (s t : ℕ) (arms : List (ℕ × ℕ)) → s ≤ t → UnitsFrom t arms → UnitsFrom s arms
from_more s t [] h f = tt
from_more s t (a ∷ arms) h f = (omega (arith, f.0), from_more s t arms h f.1)

children_begin : (units : List ℕ) {arms : List (ℕ × ℕ)} {m : List (List ℕ × ℤ)} → Children units arms m → (s : ℕ)
    → UnitsFrom s arms → AllBeginFrom s m
children_begin units (none arms m a e) s f = rw e tt
children_begin units (more u q rest arms m others all a h c e) s f =
    let f' : (s ≤ u) × UnitsFrom s rest = rw a at f in
    rw e (append_begins s (under (u ∷ []) m) others (under_begins u [] m s f'.0) (children_begin units c s f'.1))

pub any_from : (arms : List (ℕ × ℕ)) → UnitsFrom 0 arms
any_from [] = tt
any_from (a ∷ arms) = (omega arith, any_from arms)

matches_begin : (units : List ℕ) {p low : ℕ} {m : List (List ℕ × ℤ)} → Matches units p low m → AllBeginFrom 0 m
matches_begin units (run p low m rest big small within h e) =
    let f = run_first units p (low - 0x2f) (omega arith) within in
    rw (e, f.2) (under_begins f.0 f.1 rest 0 (omega arith))
matches_begin units (branch p low n arms m small len many part up c) = children_begin units c 0 (any_from arms)

empty_below : (s : ℕ) (m : List (List ℕ × ℤ)) → AllBeginFrom s m → KeyBelowAll [] m
empty_below s [] b = tt
empty_below s (([], v) ∷ m) b = absurd b.0
empty_below s ((x ∷ key, v) ∷ m) b = (tt, empty_below s m b.1)

key_below_under : (front a b : List ℕ) → KeyBelow a b → KeyBelow (front ++ a) (front ++ b)
key_below_under [] a b h = h
key_below_under (x ∷ front) a b h = inr (refl, key_below_under front a b h)

below_under : (front key : List ℕ) (m : List (List ℕ × ℤ)) → KeyBelowAll key m → KeyBelowAll (front ++ key) (under front m)
below_under front key [] h = tt
below_under front key (e ∷ m) h = (key_below_under front key e.0 h.0, below_under front key m h.1)

under_ascends : (front : List ℕ) (m : List (List ℕ × ℤ)) → IsAscendingKeys m → IsAscendingKeys (under front m)
under_ascends front [] h = tt
under_ascends front (e ∷ m) h = (below_under front e.0 m h.0, under_ascends front m h.1)

below_append : (key : List ℕ) (m n : List (List ℕ × ℤ)) → KeyBelowAll key m → KeyBelowAll key n → KeyBelowAll key (m ++ n)
below_append key [] n h k = k
below_append key (e ∷ m) n h k = (h.0, below_append key m n h.1 k)

-- A key that starts with u is before all that start with a greater unit.
first_below : (u : ℕ) (key : List ℕ) (m : List (List ℕ × ℤ)) → AllBeginFrom (u + 1) m → KeyBelowAll (u ∷ key) m
first_below u key [] b = tt
first_below u key (([], v) ∷ m) b = absurd b.0
first_below u key ((x ∷ rest, v) ∷ m) b = (inl (omega (arith, b.0)), first_below u key m b.1)

append_ascends : (u : ℕ) (m n : List (List ℕ × ℤ)) → IsAscendingKeys (under (u ∷ []) m) → IsAscendingKeys n
    → AllBeginFrom (u + 1) n → IsAscendingKeys (under (u ∷ []) m ++ n)
append_ascends u [] n h k b = k
append_ascends u (e ∷ m) n h k b =
    (below_append (u ∷ e.0) (under (u ∷ []) m) n h.0 (first_below u e.0 n b), append_ascends u m n h.1 k b)

mutual
  holds_ascends : (units : List ℕ) {p : ℕ} {m : List (List ℕ × ℤ)} → Holds units p m → IsAscendingKeys m
  holds_ascends units (final p lead n m g big s e) = rw e (tt, tt)
  holds_ascends units (plain p lead m g small h) = matches_ascends units h
  holds_ascends units (valued p lead n m rest g big small s h e) =
      rw e (empty_below 0 rest (matches_begin units h), matches_ascends units h)

  matches_ascends : (units : List ℕ) {p low : ℕ} {m : List (List ℕ × ℤ)} → Matches units p low m → IsAscendingKeys m
  matches_ascends units (run p low m rest big small within h e) =
      rw e (under_ascends (take (low - 0x2f) (drop p units)) rest (holds_ascends units h))
  matches_ascends units (branch p low n arms m small len many part up c) = children_ascend units c up

  children_ascend : (units : List ℕ) {arms : List (ℕ × ℕ)} {m : List (List ℕ × ℤ)} → Children units arms m
      → IsAscending arms → IsAscendingKeys m
  children_ascend units (none arms m a e) up = rw e tt
  children_ascend units (more u q rest arms m others all a h c e) up =
      let up' : UnitsFrom (u + 1) rest × IsAscending rest = rw a at up in
      rw e (append_ascends u m others (under_ascends (u ∷ []) m (holds_ascends units h))
      (children_ascend units c up'.1) (children_begin units c (u + 1) up'.0))

pub trie_ascends : (units : List ℕ) (m : List (List ℕ × ℤ)) → IsTrieOf units m → IsAscendingKeys m
trie_ascends units m (grammar.node h) = holds_ascends units h
trie_ascends units m (grammar.empty u e) = rw e tt

-- So do those of the entries at a cursor's position.
pub stands_ascends : (units : List ℕ) (place : Place) (m : List (List ℕ × ℤ)) → Stands units place m → IsAscendingKeys m
stands_ascends units Nowhere m h = rw h tt
stands_ascends units (Node p) m (inl h) = holds_ascends units h
stands_ascends units (Node p) m (inr h) = rw h.1 tt
stands_ascends units (Run p left) m h =
    rw h.keys (under_ascends (take (left + 1) (drop p units)) h.rest (holds_ascends units h.node))
