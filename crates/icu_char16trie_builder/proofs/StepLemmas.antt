-- What was saved stays valid when more units are written, and a step makes what its definition
-- says.
use Rattle.std.proofs.Common.{◌≡◌, ℕ, ℤ, zero, suc, Some, slice_get, ◌+◌, ◌-◌, ◌/◌, ◌<◌, ◌≤◌, List, [], ◌∷◌, ◌++◌, Option, refl, sym, ap, subst, ◌∙◌, arith, length, length-append, reverse}
use Rattle.std.proofs.lemmas.List.{length-reverse, reverse-append}
use Rattle.std.proofs.lemmas.Option.{none-some, same_Some}
use Rattle.icu_char16trie.specs.Grammar.{Holds}
use Rattle.icu_char16trie.specs.UnitMap.{UnitMap, under}
use Rattle.icu_char16trie_builder.specs.Inside.Written.{PartAt, Below, From, Ascends, Grew, own_entry}
use Rattle.icu_char16trie_builder.specs.Inside.Steps.{Piece, nothing, node, part, Stands, IsSaved, AreSaved, AreKnown, State, TakesLast, TakesJump, TakesValue, TakesSplit, TakesRun, TakesBranch, Takes, Gives, Leads, cost, step_cost}
use Rattle.std.specs.Borrow.{Bor}
use Rattle.icu_char16trie_builder.specs.Inside.Cuts.{cut, IsBelow}
use Rattle.icu_char16trie_builder.specs.declared.entry.Entry.{Entry}
use Rattle.icu_char16trie_builder.specs.declared.known.KnownNode.{KnownNode}
use Rattle.icu_char16trie_builder.specs.declared.step.Step.{Step}
use Rattle.icu_char16trie_builder.specs.declared.step.Step.TheVariants as steps
use Rattle.icu_char16trie_builder.proofs.ShiftLemmas.{holds_behind, part_at_behind}

stands_behind : (front units : List ℕ) (p : ℕ) (x : Piece) → Stands units p x → Stands (front ++ units) (length front + p) x
stands_behind front units p nothing h = tt
stands_behind front units p (node m) h = holds_behind front units h
stands_behind front units p (part n us m) h = part_at_behind front units h

saved_behind : (front units : List ℕ) (e : ℕ) (x : Piece) → IsSaved units e x → IsSaved (front ++ units) e x
saved_behind front units e x h =
    let len : length (front ++ units) ≡ length front + length units = length-append front units in
    let place : length front + (length units - e) ≡ length (front ++ units) - e = omega (arith, len, h.within) in
    record {
      within = omega (arith, len, h.within);
      stands =
          subst (λ p. Stands (front ++ units) p x) place (stands_behind front units (length units - e) x h.stands);
    }

all_saved_behind : (front units places : List ℕ) (saved : List Piece) → AreSaved units places saved → AreSaved (front ++ units) places saved
all_saved_behind front units [] [] h = tt
all_saved_behind front units [] (x ∷ saved) h = absurd h
all_saved_behind front units (p ∷ places) [] h = absurd h
all_saved_behind front units (p ∷ places) (x ∷ saved) h = (saved_behind front units p x h.0, all_saved_behind front units places saved h.1)

all_known_behind : (front units : List ℕ) (known : List KnownNode) → AreKnown units known → AreKnown (front ++ units) known
all_known_behind front units [] h = tt
all_known_behind front units (k ∷ known) h =
    (saved_behind front units k.place (node (cut k.depth k.entries.now)) h.0, all_known_behind front units known h.1)

known_more : (units : List ℕ) (known : List KnownNode) (k : KnownNode) → AreKnown units known
    → IsSaved units k.place (node (cut k.depth k.entries.now)) → AreKnown units (known ++ k ∷ [])
known_more units [] k h i = (i, tt)
known_more units (x ∷ known) k h i = (h.0, known_more units known k h.1 i)

-- What a step leaves: a piece in front, and pieces at indices before more units were written.
abbrev pub Makes : List ℕ → List ℕ → List ℕ → State → Type 0
Makes units new places t = Stands new 0 t.front × AreSaved units places t.saved

-- One step was taken.
pub led : (k : ℕ) (units new places kept : List ℕ) (known : List KnownNode) (x : Step) (others : List Step) (goal : UnitMap)
    → Grew k units new
    → ((s t : State) → Stands units 0 s.front → AreSaved units places s.saved → Takes x s t → Makes units new kept t)
    → Leads units places known (x ∷ others) goal → Leads new kept known others goal
led k units new places kept known x others goal g f h =
    let t : State = h.3.0 in
    let made : Makes units new kept t = f h.0 t h.1 h.2 h.3.1 in (
      t,
      made.0,
      subst (λ z. AreSaved z kept t.saved) (sym g.1) (all_saved_behind g.0 units kept t.saved made.1),
      h.3.2,
      subst (λ z. AreKnown z known) (sym g.1) (all_known_behind g.0 units known h.4),
    )

module _ (units new places : List ℕ) where
  pub last_takes : (u : ℕ) → ((m : UnitMap) → Holds units 0 m → PartAt new 0 1 (u ∷ []) (under (u ∷ []) m))
      → (s t : State) → Stands units 0 s.front → AreSaved units places s.saved → TakesLast u s t → Makes units new places t
  last_takes u f s t h k a = subst (λ z. Makes units new places z) (sym a.is) (f a.m (subst (λ z. Stands units 0 z) a.was h), k)

  pub value_takes : (u : ℕ) (v : ℤ) → ((n : ℕ) (us : List ℕ) (m : UnitMap) → 1 < n → n ≤ 5 → PartAt units 0 (n - 1) us m
      → PartAt new 0 n (u ∷ us) ((u ∷ [], v) ∷ m))
      → (s t : State) → Stands units 0 s.front → AreSaved units places s.saved → TakesValue u v s t → Makes units new places t
  value_takes u v f s t h k a =
      subst (λ z. Makes units new places z) (sym a.is) (f a.n a.us a.m a.many a.few (subst (λ z. Stands units 0 z) a.was h), k)

  pub run_takes : (front : List ℕ) (value : Option ℤ) → ((m : UnitMap) → Holds units 0 m → Holds new 0 (own_entry value ++ under front m))
      → (s t : State) → Stands units 0 s.front → AreSaved units places s.saved → TakesRun front value s t → Makes units new places t
  run_takes front value f s t h k a = subst (λ z. Makes units new places z) (sym a.is) (f a.m (subst (λ z. Stands units 0 z) a.was h), k)

  pub branch_takes : (count : ℕ) (value : Option ℤ)
      → ((us : List ℕ) (m : UnitMap) → PartAt units 0 count us m → Ascends us → Holds new 0 (own_entry value ++ m))
      → (s t : State) → Stands units 0 s.front → AreSaved units places s.saved → TakesBranch count value s t → Makes units new places t
  branch_takes count value f s t h k a =
      subst (λ z. Makes units new places z) (sym a.is) (f a.us a.m (subst (λ z. Stands units 0 z) a.was h) a.ascends, k)

  pub jump_takes : (u p len : ℕ) → len ≡ length units
      → ((n : ℕ) (us : List ℕ) (m1 m2 : UnitMap) → 1 < n → n ≤ 5 → Holds units (len - p) m1 → PartAt units 0 (n - 1) us m2
      → PartAt new 0 n (u ∷ us) (under (u ∷ []) m1 ++ m2))
      → (s t : State) → Stands units 0 s.front → AreSaved units (p ∷ places) s.saved → TakesJump u s t → Makes units new places t
  jump_takes u p len same f s t h k a =
      let front : PartAt units 0 (a.n - 1) a.us a.m2 = subst (λ z. Stands units 0 z.front) a.was h in
      let saved : IsSaved units p (node a.m1) × AreSaved units places a.rest = subst (λ z. AreSaved units (p ∷ places) z.saved) a.was k in
      let at : Holds units (len - p) a.m1 = subst (λ z. Holds units (z - p) a.m1) (sym same) saved.0.stands in
      subst (λ z. Makes units new places z) (sym a.is) (f a.n a.us a.m1 a.m2 a.many a.few at front, saved.1)

  pub split_takes : (u p len : ℕ) → len ≡ length units
      → ((n : ℕ) (us1 us2 : List ℕ) (m1 m2 : UnitMap) → 5 < n → PartAt units (len - p) (n / 2) us1 m1
      → PartAt units 0 (n - n / 2) us2 m2 → Below u us1 → From u us2 → PartAt new 0 n (us1 ++ us2) (m1 ++ m2))
      → (s t : State) → Stands units 0 s.front → AreSaved units (p ∷ places) s.saved → TakesSplit u s t → Makes units new places t
  split_takes u p len same f s t h k a =
      let front : PartAt units 0 (a.n - a.n / 2) a.us2 a.m2 = subst (λ z. Stands units 0 z.front) a.was h in
      let saved : IsSaved units p (part (a.n / 2) a.us1 a.m1) × AreSaved units places a.rest =
      subst (λ z. AreSaved units (p ∷ places) z.saved) a.was k in
      let at : PartAt units (len - p) (a.n / 2) a.us1 a.m1 =
      subst (λ z. PartAt units (z - p) (a.n / 2) a.us1 a.m1) (sym same) saved.0.stands in
      subst (λ z. Makes units new places z) (sym a.is) (f a.n a.us1 a.us2 a.m1 a.m2 a.many at front a.below a.from, saved.1)

saved_here : (units : List ℕ) (len : ℕ) (x : Piece) → len ≡ length units → Stands units 0 x → IsSaved units len x
saved_here units len x same h =
    let here : length units - len ≡ 0 = omega arith in
    record { within = omega arith; stands = subst (λ z. Stands units z x) (sym here) h }

-- What is in front is saved.
pub save_led : (units places : List ℕ) (known : List KnownNode) (len : ℕ) (others : List Step) (goal : UnitMap) → len ≡ length units
    → Leads units places known (steps.Save ∷ others) goal → Leads units (len ∷ places) known others goal
save_led units places known len others goal same h =
    let t : State = h.3.0 in
    let now : AreSaved units (len ∷ places) (h.0.front ∷ h.0.saved) = (saved_here units len h.0.front same h.1, h.2) in
    (t, subst (λ z. Stands units 0 z.front) (sym h.3.1) h.1, subst (λ z. AreSaved units (len ∷ places) z.saved) (sym h.3.1) now, h.3.2, h.4)

-- The node in front becomes known and is saved.
pub keep_led : (units places : List ℕ) (known known' : List KnownNode) (len d : ℕ) (es : Bor (List Entry)) (others : List Step)
    (goal : UnitMap) → len ≡ length units
    → known' ≡ known ++ record { entries = es; depth = d; place = len } ∷ []
    → Leads units places known (steps.Keep es d ∷ others) goal → Leads units (len ∷ places) known' others goal
keep_led units places known known' len d es others goal same more h =
    let t : State = h.3.0 in
    let is : IsSaved units len (node (cut d es.now)) =
    saved_here units len (node (cut d es.now)) same (subst (λ z. Stands units 0 z) h.3.1.0 h.1) in
    let now : AreSaved units (len ∷ places) (node (cut d es.now) ∷ h.0.saved) = (is, h.2) in (
      t,
      subst (λ z. Stands units 0 z.front) (sym h.3.1.1) tt,
      subst (λ z. AreSaved units (len ∷ places) z.saved) (sym h.3.1.1) now,
      h.3.2,
      subst (λ z. AreKnown units z) (sym more) (known_more units known (record { entries = es; depth = d; place = len }) h.4 is),
    )

-- ---- stacks, whose last item is the next one

pub turned : {A : Type 0} (new old : List A) (a : A) → old ≡ new ++ a ∷ [] → reverse old ≡ a ∷ reverse new
turned new old a e = ap reverse e ∙ reverse-append new (a ∷ [])

-- A step was pushed.
pub pushed : (old new : List Step) (x : Step) (s t : State) (goal : UnitMap) → new ≡ old ++ x ∷ [] → Takes x s t
    → Gives (reverse old) t goal → Gives (reverse new) s goal
pushed old new x s t goal e h g = rw (turned old new x e) (t, h, g)

pub cost_append : (a b : List Step) → cost (a ++ b) ≡ cost a + cost b
cost_append [] b = omega arith
cost_append (x ∷ a) b = omega (arith, cost_append a b)

pub cost_pushed : (old new : List Step) (x : Step) → new ≡ old ++ x ∷ [] → cost new ≡ cost old + step_cost x
cost_pushed old new x e = ap cost e ∙ cost_append old (x ∷ []) ∙ omega arith

pub grew_length : (k : ℕ) (before now : List ℕ) → Grew k (reverse before) (reverse now) → length now ≤ length before + k
grew_length k before now g =
    let a : length (reverse now) ≡ length (g.0 ++ reverse before) = ap length g.1 in
    omega (arith, a, length-append g.0 (reverse before), length-reverse now, length-reverse before, g.2)

-- ---- all steps

pub start_leads : (es : Bor (List Entry)) → IsBelow 0 es.now → Leads [] [] [] (steps.Node es 0 ∷ []) (cut 0 es.now)
start_leads es below =
    (record { front = nothing; saved = [] }, tt, tt, (record { front = node (cut 0 es.now); saved = [] }, (below, refl), refl), tt)

-- A node of a list of known ones.
pub known_at : (units : List ℕ) (known : List KnownNode) (i : ℕ) (k : KnownNode) (m : UnitMap) → AreKnown units known
    → slice_get known i ≡ Some k → cut k.depth k.entries.now ≡ m → IsSaved units k.place (node m)
known_at units [] i k m h g e = absurd (none-some _ g)
known_at units (x ∷ known) zero k m h g e =
    subst (λ z. IsSaved units k.place (node z)) e
    (subst (λ z. IsSaved units z.place (node (cut z.depth z.entries.now))) (same_Some _ _ g) h.0)
known_at units (x ∷ known) (suc i) k m h g e = known_at units known i k m h.1 g e
