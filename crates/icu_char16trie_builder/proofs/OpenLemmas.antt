-- A node is opened into the steps that write it.
use Rattle.std.proofs.Common.{◌≡◌, ℕ, ℤ, suc, ◌+◌, ◌-◌, ◌*◌, ◌/◌, ◌<◌, ◌≤◌, List, [], ◌∷◌, ◌++◌, Option, Some, None, refl, sym, ap, subst, ◌∙◌, arith, length, take, drop, slice_get, reverse, append-nil, length-append, inl, inr}
use Rattle.std.proofs.lemmas.Bool.{cases_lt}
use Rattle.std.proofs.lemmas.List.{length-take-le, length-drop, nil_from_length, take_all}
use Rattle.std.proofs.lemmas.Option.{none-some, same_Some}
use Rattle.std.specs.Borrow.{Bor}
use Rattle.icu_char16trie.specs.Grammar.{Holds}
use Rattle.icu_char16trie.specs.UnitMap.{UnitMap, under, IsAscendingKeys}
use Rattle.icu_char16trie_builder.specs.Inside.Cuts.{cut, room, AllLonger, IsBelow, arm_units, arm_map, arm_room, AreBelow, AllShare, IsGroup, ArmsSoFar}
use Rattle.icu_char16trie_builder.specs.Inside.Written.{Ascends, own_entry, Grew}
use Rattle.icu_char16trie_builder.specs.Inside.Steps.{Piece, nothing, node, part, State, Stands, AreSaved, Leads, TakesJump, TakesValue, TakesSplit, TakesRun, Gives, cost, lead_cost}
use Rattle.icu_char16trie_builder.specs.declared.entry.Entry.{Entry}
use Rattle.icu_char16trie_builder.specs.declared.entry.Arm.{Arm}
use Rattle.icu_char16trie_builder.specs.declared.known.KnownNode.{KnownNode}
use Rattle.icu_char16trie_builder.specs.declared.step.Step.{Step}
use Rattle.icu_char16trie_builder.specs.declared.step.Step.TheVariants as steps
use Rattle.icu_char16trie_builder.proofs.CutLemmas.{below_all_longer, cut_own, cut_shared, ascends_strip, drop_here, first_at}
use Rattle.icu_char16trie_builder.proofs.ArmLemmas.{arm_units_append, arm_map_append, arm_room_append, split_arms}
use Rattle.icu_char16trie_builder.proofs.StepLemmas.{pushed, cost_pushed, led, grew_length}

-- The part of a branch with these arms.
abbrev pub part_of : ℕ → List Arm → Piece
part_of d arms = part (length arms) (arm_units arms) (arm_map d arms)

abbrev pub state : Piece → List Piece → State
state x saved = record { front = x; saved = saved }

pub room_some : (d : ℕ) (es : List Entry) → 0 < length es → 16 ≤ room d es
room_some d [] h = absurd (omega arith)
room_some d (e ∷ es) h = omega arith

-- ---- the steps of the part of a branch

one_less : (n : ℕ) → n ≡ suc n - 1
one_less n = omega arith

takes_value : (d : ℕ) (v : ℤ) (a : Arm) (rest : List Arm) (saved : List Piece) → 0 < length rest → length (a ∷ rest) ≤ 5
    → cut d a.entries.now ≡ ([], v) ∷ []
    → TakesValue a.unit v (state (part_of d rest) saved) (state (part_of d (a ∷ rest)) saved)
takes_value d v a rest saved some few e = record {
  n = length (a ∷ rest);
  us = arm_units rest;
  m = arm_map d rest;
  many = omega (arith, some);
  few = few;
  was = ap (λ z. part z (arm_units rest) (arm_map d rest)) (one_less (length rest));
  is = ap (λ z. state (part (length (a ∷ rest)) (arm_units (a ∷ rest)) (under (a.unit ∷ []) z ++ arm_map d rest)) saved) e;
}

pub gives_value : (d : ℕ) (v : ℤ) (old mid new : List Step) (a : Arm) (arms rest : List Arm) (s : State) (goal : UnitMap) → arms ≡ a ∷ rest
    → 0 < length rest → length arms ≤ 5
    → mid ≡ old ++ steps.Value a.unit v ∷ [] → cut d a.entries.now ≡ ([], v) ∷ []
    → ((s : State) (goal : UnitMap) → Gives (reverse mid) (state (part_of d rest) s.saved) goal → Gives (reverse new) s goal)
    → Gives (reverse old) (state (part_of d arms) s.saved) goal → Gives (reverse new) s goal
gives_value d v old mid new a arms rest s goal e some few f is rec h =
    rec s goal (pushed old mid (steps.Value a.unit v) (state (part_of d rest) s.saved) (state (part_of d (a ∷ rest)) s.saved) goal f
    (takes_value d v a rest s.saved some (subst (λ z. length z ≤ 5) e few) is)
    (subst (λ z. Gives (reverse old) (state (part_of d z) s.saved) goal) e h))

takes_jump : (d : ℕ) (a : Arm) (rest : List Arm) (saved : List Piece) → 0 < length rest → length (a ∷ rest) ≤ 5
    → TakesJump a.unit (state (part_of d rest) (node (cut d a.entries.now) ∷ saved)) (state (part_of d (a ∷ rest)) saved)
takes_jump d a rest saved some few = record {
  n = length (a ∷ rest);
  us = arm_units rest;
  m1 = cut d a.entries.now;
  m2 = arm_map d rest;
  rest = saved;
  many = omega (arith, some);
  few = few;
  was = ap (λ z. state (part z (arm_units rest) (arm_map d rest)) (node (cut d a.entries.now) ∷ saved)) (one_less (length rest));
  is = refl;
}

pub gives_jump : (d : ℕ) (old one two new : List Step) (a : Arm) (arms rest : List Arm) (s : State) (goal : UnitMap) → arms ≡ a ∷ rest
    → 0 < length rest → length arms ≤ 5
    → one ≡ old ++ steps.Jump a.unit ∷ [] → ((s : State) (goal : UnitMap) → Gives (reverse one) (state (part_of d rest) s.saved) goal
    → Gives (reverse two) s goal)
    → new ≡ two ++ steps.Place a.entries d ∷ [] → IsBelow d a.entries.now
    → Gives (reverse old) (state (part_of d arms) s.saved) goal → Gives (reverse new) s goal
gives_jump d old one two new a arms rest s goal e some few f rec k below h =
    let here : Piece = node (cut d a.entries.now) in
    let g1 : Gives (reverse one) (state (part_of d rest) (here ∷ s.saved)) goal =
    pushed old one (steps.Jump a.unit) (state (part_of d rest) (here ∷ s.saved)) (state (part_of d (a ∷ rest)) s.saved) goal f
    (takes_jump d a rest s.saved some (subst (λ z. length z ≤ 5) e few))
    (subst (λ z. Gives (reverse old) (state (part_of d z) s.saved) goal) e h) in
    let g2 : Gives (reverse two) (state nothing (here ∷ s.saved)) goal = rec (state nothing (here ∷ s.saved)) goal g1 in
    pushed two new (steps.Place a.entries d) s (state nothing (here ∷ s.saved)) goal k (below, refl) g2

takes_split : (d : ℕ) (arms lower upper rest : List Arm) (a : Arm) (saved : List Piece) → arms ≡ lower ++ upper → upper ≡ a ∷ rest
    → length lower ≡ length arms / 2
    → 5 < length arms → Ascends (arm_units arms)
    → TakesSplit a.unit (state (part_of d upper) (part_of d lower ∷ saved)) (state (part_of d arms) saved)
takes_split d arms lower upper rest a saved e f half many up =
    let split = split_arms arms lower upper rest a e f up in
    let total : length arms ≡ length lower + length upper = ap length e ∙ length-append lower upper in
    let high : length upper ≡ length arms - length arms / 2 = omega (arith, total, half) in
    record {
      n = length arms;
      us1 = arm_units lower;
      us2 = arm_units upper;
      m1 = arm_map d lower;
      m2 = arm_map d upper;
      rest = saved;
      many = many;
      was = ap (λ z. state (part z (arm_units upper) (arm_map d upper)) (part_of d lower ∷ saved)) high
          ∙ ap (λ z. state (part (length arms - length arms / 2) (arm_units upper) (arm_map d upper))
          (part z (arm_units lower) (arm_map d lower) ∷ saved)) half;
      below = split.below;
      from = split.from;
      is = ap (λ z. state (part (length arms) z (arm_map d arms)) saved) (ap arm_units e ∙ arm_units_append lower upper)
          ∙ ap (λ z. state (part (length arms) (arm_units lower ++ arm_units upper) z) saved)
          (ap (arm_map d) e ∙ arm_map_append d lower upper);
    }

pub gives_split : (d : ℕ) (old one two three new : List Step) (arms lower upper rest : List Arm) (a : Arm) (s : State) (goal : UnitMap)
    → arms ≡ lower ++ upper → upper ≡ a ∷ rest
    → length lower ≡ length arms / 2 → 5 < length arms → Ascends (arm_units arms) → one ≡ old ++ steps.Split a.unit ∷ []
    → ((s : State) (goal : UnitMap) → Gives (reverse one) (state (part_of d upper) s.saved) goal → Gives (reverse two) s goal)
    → three ≡ two ++ steps.Save ∷ [] → ((s : State) (goal : UnitMap) → Gives (reverse three) (state (part_of d lower) s.saved) goal
    → Gives (reverse new) s goal)
    → Gives (reverse old) (state (part_of d arms) s.saved) goal → Gives (reverse new) s goal
gives_split d old one two three new arms lower upper rest a s goal e f half many up k rec g rec' h =
    let low : Piece = part_of d lower in
    let g1 : Gives (reverse one) (state (part_of d upper) (low ∷ s.saved)) goal =
    pushed old one (steps.Split a.unit) (state (part_of d upper) (low ∷ s.saved))
    (state (part_of d arms) s.saved) goal k (takes_split d arms lower upper rest a s.saved e f half many up) h in
    let g2 : Gives (reverse two) (state low (low ∷ s.saved)) goal = rec (state low (low ∷ s.saved)) goal g1 in
    rec' s goal (pushed two three steps.Save (state low s.saved) (state low (low ∷ s.saved)) goal g refl g2)

-- ---- a linear match

share_with_first : (d u j : ℕ) (units : List ℕ) (es : List Entry) → IsGroup d u es → AllShare (d + 1) j units es
    → AllShare d (suc j) (u ∷ units) es
share_with_first d u j units [] g a = tt
share_with_first d u j units (e ∷ es) g a =
    (ap (take (suc j)) (drop_here e.key.now d u g.0) ∙ ap (λ z. u ∷ z) a.0, share_with_first d u j units es g.1 a.1)

shared_long : (d k : ℕ) (first key : List ℕ) → 0 < k → k ≤ length first → take k (drop d key) ≡ take k first → d + k ≤ length key
shared_long d k first key some le e =
    let a : length (take k (drop d key)) ≡ k = ap length e ∙ length-take-le k first le in
    elim (cases_lt (length (drop d key)) k) [
      | inl lt ↦ absurd (short (drop d key) lt a)
      | inr ge ↦ omega (arith, length-drop d key, ge, some)
    ]
  where
    short : (xs : List ℕ) → length xs < k → length (take k xs) ≡ k → ⊥
    short xs lt a = let b : length (take k xs) ≡ length xs = ap length (take_all k xs (omega (arith, lt))) in omega (arith, a, b, lt)

pub record IsRun (d k : ℕ) (front : List ℕ) (es : List Entry) : Type 0 where
  pub some : 0 < length front
  pub few : length front ≤ 16
  pub len : length front ≡ k
  pub map : cut d es ≡ under front (cut (d + k) es)
  pub share : (e : Entry) (rest : List Entry) → es ≡ e ∷ rest → d + k ≤ length e.key.now
  pub second : (e f : Entry) (rest : List Entry) → es ≡ e ∷ f ∷ rest → d + k ≤ length f.key.now

pub run_is : (d u j : ℕ) (es : List Entry) (first : Entry) (units rest front : List ℕ) → IsGroup d u es → slice_get es 0 ≡ Some first
    → units ≡ drop d first.key.now → rest ≡ drop 1 units
    → j ≤ 15 → j ≤ length rest → AllShare (d + 1) j rest es → front ≡ take (1 + j) units → IsRun d (1 + j) front es
run_is d u j [] first units rest front g at e f few le a is = absurd (none-some _ at)
run_is d u j (x ∷ es) first units rest front g at e f few le a is =
    let same : x ≡ first = same_Some _ _ at in
    let units_is : units ≡ u ∷ rest =
    let h : units ≡ u ∷ drop (d + 1) x.key.now = e ∙ ap (λ z. drop d z.key.now) (sym same) ∙ drop_here x.key.now d u g.0 in
    h ∙ ap (λ z. u ∷ z) (sym (f ∙ ap (drop 1) h)) in
    let share : AllShare d (suc j) (u ∷ rest) (x ∷ es) = share_with_first d u j rest (x ∷ es) g a in
    let count : 1 + j ≡ suc j = omega arith in
    let front_is : front ≡ take (suc j) (u ∷ rest) = is ∙ ap (λ z. take z units) count ∙ ap (take (suc j)) units_is in
    let len : length front ≡ suc j = ap length front_is ∙ length-take-le (suc j) (u ∷ rest) (omega (arith, le)) in
    record {
      some = omega (arith, len);
      few = omega (arith, len, few);
      len = len ∙ sym count;
      map = cut_shared d (suc j) (u ∷ rest) (x ∷ es) (omega (arith, le)) share
          ∙ ap (λ z. under z (cut (d + suc j) (x ∷ es))) (sym front_is)
          ∙ ap (λ z. under front (cut (d + z) (x ∷ es))) (sym count);
      share = λ y ys s. rw count (shared_long d (suc j) (u ∷ rest) y.key.now (omega arith) (omega (arith, le))
          (subst (λ z. AllShare d (suc j) (u ∷ rest) z) s share).0);
      second = λ y z ys s. rw count (shared_long d (suc j) (u ∷ rest) z.key.now (omega arith) (omega (arith, le))
          (subst (λ w. AllShare d (suc j) (u ∷ rest) w) s share).1.0);
    }

-- The entries of a linear match, as a step has them.
pub gives_run : (d k : ℕ) (value : Option ℤ) (old mid new : List Step) (front : Bor (List ℕ)) (es : Bor (List Entry)) (s : State)
    (goal : UnitMap)
    → mid ≡ old ++ steps.Run front value ∷ [] → new ≡ mid ++ steps.Node es (d + k) ∷ [] → IsRun d k front.now es.now → 0 < length es.now
    → IsAscendingKeys (cut d es.now)
    → Gives (reverse old) (state (node (own_entry value ++ cut d es.now)) s.saved) goal → Gives (reverse new) s goal
gives_run d k value old mid new front es s goal e f run some up h =
    let m : UnitMap = cut (d + k) es.now in
    let below : IsBelow (d + k) es.now = (some, ascends_strip front.now m (subst (λ z. IsAscendingKeys z) run.map up)) in
    let takes : TakesRun front.now value (state (node m) s.saved) (state (node (own_entry value ++ cut d es.now)) s.saved) =
    record { m = m; some = run.some; few = run.few; was = refl; is = ap (λ z. state (node (own_entry value ++ z)) s.saved) run.map } in
    pushed mid new (steps.Node es (d + k)) s (state (node m) s.saved) goal f (below, refl)
    (pushed old mid (steps.Run front value) (state (node m) s.saved)
    (state (node (own_entry value ++ cut d es.now)) s.saved) goal e takes h)

room_less : (d k : ℕ) (es : List Entry) → room (d + k) es ≤ room d es
room_less d k [] = omega arith
room_less d k (e ∷ es) = omega (arith, room_less d k es)

-- By how much the bound of the entries of a linear match shrinks.
run_spares : (d k : ℕ) (front : List ℕ) (es : List Entry) → IsRun d k front es → 0 < length es → room (d + k) es + 2 * k ≤ room d es
run_spares d k front [] run some = absurd (omega arith)
run_spares d k front (e ∷ es) run some = omega (arith, run.share e es refl, room_less d k es)

run_spares_two : (d k : ℕ) (front : List ℕ) (es : List Entry) → IsRun d k front es → 1 < length es → room (d + k) es + 4 * k ≤ room d es
run_spares_two d k front [] run some = absurd (omega arith)
run_spares_two d k front (e ∷ []) run some = absurd (omega arith)
run_spares_two d k front (e ∷ f ∷ es) run some = omega (arith, run.share e (f ∷ es) refl, run.second e f es refl, room_less d k es)

pub run_cost : (d k : ℕ) (value : Option ℤ) (front : List ℕ) (es : List Entry) → IsRun d k front es → 0 < length es
    → 1 < length (own_entry value) + length es
    → lead_cost value + length front + (1 + (room (d + k) es - 7)) + 7 ≤ 16 * length (own_entry value) + room d es
run_cost d k None front es run some many =
    omega (arith, run_spares_two d k front es run (omega (arith, many)), run.len, run.some, room_some (d + k) es some)
run_cost d k (Some v) front es run some many = omega (arith, run_spares d k front es run some, run.len, run.some, room_some (d + k) es some)

-- ---- a branch

pub branch_cost : (value : Option ℤ) → lead_cost value + 1 ≤ 2 + 16 * length (own_entry value)
branch_cost None = omega arith
branch_cost (Some v) = omega arith

-- With one arm all keys continue with one unit.
group_of_cut : (d u : ℕ) (es : List Entry) (m : UnitMap) → cut d es ≡ under (u ∷ []) m → IsGroup d u es
group_of_cut d u [] m h = tt
group_of_cut d u (e ∷ es) [] h = absurd (cons_nil h)
  where
    cons_nil : {x : List ℕ × ℤ} {m : UnitMap} → ◌≡◌ {A = UnitMap} (x ∷ m) [] → ⊥
    cons_nil h = cc
group_of_cut d u (e ∷ es) (x ∷ m) h =
    let one : drop d e.key.now ≡ u ∷ x.0 = heads h in
    (sym (first_at e.key.now d) ∙ ap (λ z. slice_get z 0) one, group_of_cut d u es m (tails h))
  where
    tails : {x y : List ℕ × ℤ} {m n : UnitMap} → ◌≡◌ {A = UnitMap} (x ∷ m) (y ∷ n) → m ≡ n
    tails h = cc

    firsts : {x y : List ℕ × ℤ} {m n : UnitMap} → ◌≡◌ {A = UnitMap} (x ∷ m) (y ∷ n) → x ≡ y
    firsts h = cc

    heads : {a b : List ℕ} {v w : ℤ} {m n : UnitMap} → ◌≡◌ {A = UnitMap} ((a, v) ∷ m) ((b, w) ∷ n) → a ≡ b
    heads h = ap (λ p. p.0) (firsts h)

pub one_group : (d count : ℕ) (es : List Entry) (arms : List Arm) → ArmsSoFar d es [] arms → count ≡ length arms → count ≤ 1 → 0 < length es
    → (u : ℕ) × IsGroup d u es
one_group d count [] arms so len few some = absurd (omega arith)
one_group d count (e ∷ es) [] so len few some = absurd (nil_cons so.map)
  where
    nil_cons : {x : List ℕ × ℤ} {m : UnitMap} → ◌≡◌ {A = UnitMap} [] (x ∷ m) → ⊥
    nil_cons h = cc
one_group d count (e ∷ es) (a ∷ []) so len few some =
    let one : List (List ℕ × ℤ) = under (a.unit ∷ []) (cut (d + 1) a.entries.now) in
    (a.unit, group_of_cut d a.unit (e ∷ es) (cut (d + 1) a.entries.now) (sym so.map ∙ append-nil (one ++ []) ∙ append-nil one))
one_group d count (e ∷ es) (a ∷ b ∷ arms) so len few some = absurd (omega (arith, len, few))

-- ---- the cost of the steps of a part

pub split_cost : (d x : ℕ) (old one two three new : List Step) (arms lower upper : List Arm) → arms ≡ lower ++ upper
    → one ≡ old ++ steps.Split x ∷ [] → cost two + 5 ≤ cost one + arm_room d upper
    → three ≡ two ++ steps.Save ∷ [] → cost new + 5 ≤ cost three + arm_room d lower → cost new + 5 ≤ cost old + arm_room d arms
split_cost d x old one two three new arms lower upper e f g h k =
    omega (
      arith,
      cost_pushed old one (steps.Split x) f,
      cost_pushed two three steps.Save h,
      ap (arm_room d) e,
      arm_room_append d lower upper,
      g,
      k,
    )

pub last_cost : (d u : ℕ) (old mid new : List Step) (arms : List Arm) (a : Arm) → arms ≡ a ∷ [] → mid ≡ old ++ steps.Last u ∷ []
    → new ≡ mid ++ steps.Node a.entries d ∷ []
    → 0 < length a.entries.now → cost new + 5 ≤ cost old + arm_room d arms
last_cost d u old mid new arms a e f g some =
    omega (
      arith,
      cost_pushed old mid (steps.Last u) f,
      cost_pushed mid new (steps.Node a.entries d) g,
      ap (arm_room d) e,
      room_some d a.entries.now some,
    )

pub value_cost : (d u : ℕ) (v : ℤ) (old mid new : List Step) (arms rest : List Arm) (a : Arm) → arms ≡ a ∷ rest
    → mid ≡ old ++ steps.Value u v ∷ [] → cost new + 5 ≤ cost mid + arm_room d rest
    → 0 < length a.entries.now → cost new + 5 ≤ cost old + arm_room d arms
value_cost d u v old mid new arms rest a e f g some =
    omega (arith, cost_pushed old mid (steps.Value u v) f, ap (arm_room d) e, room_some d a.entries.now some, g)

pub jump_cost : (d u : ℕ) (old one two new : List Step) (arms rest : List Arm) (a : Arm) → arms ≡ a ∷ rest → one ≡ old ++ steps.Jump u ∷ []
    → cost two + 5 ≤ cost one + arm_room d rest
    → new ≡ two ++ steps.Place a.entries d ∷ [] → 0 < length a.entries.now → cost new + 5 ≤ cost old + arm_room d arms
jump_cost d u old one two new arms rest a e f g k some =
    omega (
      arith,
      cost_pushed old one (steps.Jump u) f,
      cost_pushed two new (steps.Place a.entries d) k,
      ap (arm_room d) e,
      room_some d a.entries.now some,
      g,
    )

pub first_below : (d : ℕ) (arms rest : List Arm) (a : Arm) → arms ≡ a ∷ rest → AreBelow d arms → IsBelow d a.entries.now
first_below d arms rest a e h = let k : AreBelow d (a ∷ rest) = subst (λ z. AreBelow d z) e h in k.0

-- ---- entries, in the form that the functions use that open a node

pub rest_longer : (d : ℕ) (es rest : List Entry) (e : Entry) → es ≡ e ∷ rest → IsAscendingKeys (cut d es) → AllLonger d rest
rest_longer d es rest e f h =
    let up : IsAscendingKeys (cut d (e ∷ rest)) = subst (λ z. IsAscendingKeys (cut d z)) f h in
    below_all_longer d (drop d e.key.now) rest up.0

pub all_longer : (d : ℕ) (es rest : List Entry) (e : Entry) → es ≡ e ∷ rest → d < length e.key.now → IsAscendingKeys (cut d es)
    → AllLonger d es
all_longer d es rest e f l h = subst (λ z. AllLonger d z) (sym f) (l, rest_longer d es rest e f h)

pub own_gives : (d : ℕ) (v : ℤ) (old : List Step) (es rest : List Entry) (e : Entry) (saved : List Piece) (goal : UnitMap) → es ≡ e ∷ rest
    → length e.key.now ≤ d → v ≡ e.value
    → Gives (reverse old) (state (node (cut d es)) saved) goal → Gives (reverse old) (state (node (([], v) ∷ cut d rest)) saved) goal
own_gives d v old es rest e saved goal f le same h =
    subst (λ z. Gives (reverse old) (state (node z) saved) goal)
    (ap (cut d) f ∙ cut_own d e rest le ∙ ap (λ z. ([], z) ∷ cut d rest) (sym same)) h

-- A node of one entry was written.
pub tail_led : (d k : ℕ) (v : ℤ) (units new places tail : List ℕ) (known : List KnownNode) (es : Bor (List Entry)) (rest : List Entry)
    (e : Entry) (others : List Step) (goal : UnitMap) → es.now ≡ e ∷ rest → length rest ≡ 0
    → tail ≡ drop d e.key.now → v ≡ e.value → Holds new 0 ((tail, v) ∷ []) → Grew k units new
    → Leads units places known (steps.Node es d ∷ others) goal → Leads new places known others goal
tail_led d k v units new places tail known es rest e others goal f none t same h g leads =
    let map : cut d es.now ≡ (tail, v) ∷ [] =
    ap (cut d) f ∙ ap (λ z. (drop d e.key.now, e.value) ∷ cut d z) (nil_from_length rest none) ∙ ap (λ z. (z, e.value) ∷ []) (sym t)
    ∙ ap (λ z. (tail, z) ∷ []) (sym same) in
    led k units new places places known (steps.Node es d) others goal g
    (λ s u stands saved takes. (
      subst (λ z. Stands new 0 z.front) (sym takes.1) (subst (λ z. Holds new 0 z) (sym map) h),
      subst (λ z. AreSaved units places z.saved) (sym takes.1) saved,
    )) leads

pub tail_spent : (d : ℕ) (old new tail : List ℕ) (es rest : List Entry) (e : Entry) → es ≡ e ∷ rest → length rest ≡ 0
    → tail ≡ drop d e.key.now
    → Grew (3 + 2 * length tail) (reverse old) (reverse new) → length new + 6 ≤ length old + room d es
tail_spent d old new tail es rest e f none t g =
    omega (arith, grew_length (3 + 2 * length tail) old new g, ap (room d) f, ap length t, length-drop d e.key.now)

pub first_deep : (d : ℕ) (es : List Entry) (e : Entry) → slice_get es 0 ≡ Some e → AllLonger d es → d < length e.key.now
first_deep d [] e at h = absurd (none-some _ at)
first_deep d (x ∷ es) e at h = subst (λ z. d < length z.key.now) (same_Some _ _ at) h.0
