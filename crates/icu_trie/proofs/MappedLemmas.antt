-- The mapped ranges of a trie.
use Rattle.std.proofs.Common.{◌≡◌, ℕ, ◌+◌, ◌<◌, ◌≤◌, List, [], ◌∷◌, map, Option, Some, None, Bool, true, false, inl, inr, refl, sym, ap, subst, ◌∙◌, arith, eq-eqb}
use Rattle.std.specs.List.{All}
use Rattle.std.specs.Range.{range_inclusive_start, range_inclusive_end, range_inclusive_exhausted}
use Rattle.std.proofs.lemmas.Bool.Decides.{nat_tests}
use Rattle.std.proofs.lemmas.List.Elements.{All-cons}
use Rattle.std.specs.declared.ops.RangeInclusive.{RangeInclusive}
use Rattle.std.specs.Iterator.{Yields, Drains, DrainsIf}
use Rattle.std.proofs.iter.runs.Made.{run, took, seen, to_end}
use Rattle.std.proofs.lemmas.Bool.{cases_lt, lt-ltb}
use Rattle.itertools.specs.Adaptor.{EachRunBehind, Gives}
use Rattle.icu_trie_core.specs.Runs.{LongestRun, AreRunsFrom}
use Rattle.icu_trie_core.specs.declared.range.CodePointMapRange.{CodePointMapRange}
use Rattle.icu_trie.specs.declared.ranges.CodePointMapRangeIterator.{CodePointMapRangeIterator}
use Rattle.icu_trie_core.specs.Range.{first_of, last_of, run_of}
use Rattle.icu_trie.specs.Ranges.{IsRangeOfCodePoints}
use Rattle.icu_trie.specs.Iterators.{GivesNextRange}
use Rattle.icu_trie.specs.JoinedRanges.{continues, merged_range, joined_ranges_from, joined_ranges}
use Rattle.icu_trie.specs.MappedRanges.{MapsTo, AreMappedRunsFrom, Answers, AreAnswered, IsAnswered, GivesMapped, mapped_source, mapped_callee}
use Rattle.icu_trie.specs.declared.mapped_ranges.MappedRanges.{MappedRanges}
use Rattle.icu_trie.proofs.GivenRanges.{AreOfCodePoints}

-- What a wrapper yields, its inner iterator yields.
module _ {S T A : Type 0} {steps : S → Option A → S → Type 0} (inner : T → Option A → T → Type 0) (inside : S → T)
    (through : (s : S) (r : Option A) (t : S) → steps s r t → inner (inside s) r (inside t)) where
  Yields-inside : (s : S) (xs : List A) (t : S) → Yields steps s xs t → Yields inner (inside s) xs (inside t)
  Yields-inside s [] t y = ap inside y
  Yields-inside s (x ∷ xs) t y = (inside y.0, through s (Some x) y.0 y.1, Yields-inside y.0 xs t y.2)

  pub Drains-inside : (s : S) (xs : List A) → Drains steps s xs → Drains inner (inside s) xs
  Drains-inside s xs d = (inside d.0, (inside d.1.0, Yields-inside s xs d.1.0 d.1.1, through d.1.0 None d.0 d.1.2))

-- What an adaptor yields comes from what its source yields.
pub Drains-behind : {S T A B : Type 0} {steps : S → Option B → S → Type 0} {source : T → Option A → T → Type 0} {s : S} {from : T}
    (f : List A → List B)
    → EachRunBehind steps s source from (λ p q. Gives p q f) → (ys : List B) → Drains steps s ys
    → (zs : List A) × Drains source from zs × (ys ≡ f zs)
Drains-behind {steps = steps} {source = source} {s = s} {from = from} f runs ys d =
    let r = runs (run steps s ys true (to_end steps s ys d)) (seen _) refl in
    let q = r.0 in
    let whole = r.2.0 refl in
    let t : DrainsIf source (q.whole ≡ true) from q.items = subst (λ k. DrainsIf source (q.whole ≡ true) k q.items) r.1 (took q) in
    let u = t.2 whole in
    (q.items, (u.0, (t.0, t.1, u.1)), r.2.1 refl)

-- A range with the mapped value.
abbrev pub mapped : {A B : Type 0} → (A → B) → CodePointMapRange A → CodePointMapRange B
mapped h x = record { range = x.range; value = h x.value }

module _ {F A B : Type 0} (post : F → A → B → Type 0) (f : F) where
  -- If a closure computes h, its results are h of the values.
  pub AreAnswered-by : (h : A → B) → Answers post f h → (xs : List (CodePointMapRange A)) (ys : List (CodePointMapRange B))
      → AreAnswered post f xs ys → ys ≡ map (mapped h) xs
  AreAnswered-by h by [] [] a = refl
  AreAnswered-by h by [] (y ∷ ys) a = absurd a
  AreAnswered-by h by (x ∷ xs) [] a = absurd a
  AreAnswered-by h by (x ∷ xs) (y ∷ ys) a =
      let value = by x.value y.value a.1 in
      let range = a.0 in
      let rest = AreAnswered-by h by xs ys a.2 in
      λ i. record { range = range i; value = value i } ∷ rest i

module _ {F A B : Type 0} {m : _} (of_number : ℕ → Option A) (post : F → A → B → Type 0) (f : F) where
  taken_some : (taken : Option (CodePointMapRange A)) (z : CodePointMapRange B) (s t : CodePointMapRangeIterator A m)
      → IsAnswered post f taken (Some z) → GivesNextRange of_number s taken t
      → (x : CodePointMapRange A) × ((z.range ≡ x.range) × post f x.value z.value) × GivesNextRange of_number s (Some x) t
  taken_some None z s t a g = absurd a
  taken_some (Some x) z s t a g = (x, a, g)

  taken_none : (taken : Option (CodePointMapRange A)) (s t : CodePointMapRangeIterator A m) → IsAnswered post f taken None
      → GivesNextRange of_number s taken t → GivesNextRange of_number s None t
  taken_none None s t a g = g
  taken_none (Some x) s t a g = absurd a

  -- What the mapped ranges yield comes from what the ranges yield.
  pub answered-from_run : (zs : List (CodePointMapRange B)) (s t u : MappedRanges A F m) → mapped_callee s ≡ f
      → Yields (GivesMapped of_number post) s zs t → GivesMapped of_number post t None u
      → (xs : List (CodePointMapRange A)) × Drains (GivesNextRange of_number) (mapped_source s) xs × AreAnswered post f xs zs
  answered-from_run [] s t u is y none' =
      let none : GivesMapped of_number post s None u = rw y none' in
      let a : IsAnswered post f none.taken None = rw (sym is) none.gives in
      ([], (mapped_source u, (mapped_source s, refl, taken_none none.taken (mapped_source s) (mapped_source u) a none.step)), tt)
  answered-from_run (z ∷ zs) s t u is y none =
      let step = y.1 in
      let a : IsAnswered post f step.taken (Some z) = rw (sym is) step.gives in
      let x = taken_some step.taken z (mapped_source s) (mapped_source y.0) a step.step in
      let rest = answered-from_run zs y.0 t u (step.same ∙ is) y.2 none in
      (x.0 ∷ rest.0, (rest.1.0, (rest.1.1.0, (mapped_source y.0, x.2, rest.1.1.1), rest.1.1.2)), (x.1.0, x.1.1, rest.2))

-- ---- Each joined range is a range of code points.
pub AreOfCodePoints-answered : {F A B : Type 0} (post : F → A → B → Type 0) (f : F) (xs : List (CodePointMapRange A))
    (ys : List (CodePointMapRange B)) → AreAnswered post f xs ys → AreOfCodePoints xs → AreOfCodePoints ys
AreOfCodePoints-answered post f [] [] a are = tt
AreOfCodePoints-answered post f [] (y ∷ ys) a are = absurd a
AreOfCodePoints-answered post f (x ∷ xs) [] a are = absurd a
AreOfCodePoints-answered post f (x ∷ xs) (y ∷ ys) a are =
    let P : RangeInclusive ℕ → Type 0 = λ r. (range_inclusive_start r ≤ range_inclusive_end r) × (range_inclusive_end r < 0x110000)
    × (range_inclusive_exhausted r ≡ false) in
    (subst P (sym a.0) are.0, AreOfCodePoints-answered post f xs ys a.2 are.1)

module _ {B : Type 0} (eq : B → B → Bool) where
  continues-starts : (r x : CodePointMapRange B) → continues eq r x ≡ true → first_of x ≡ last_of r + 1
  continues-starts r x on = grind (arith, nat_tests)

  merged_range-range : (r x : CodePointMapRange B) → continues eq r x ≡ true → IsRangeOfCodePoints r → IsRangeOfCodePoints x
      → IsRangeOfCodePoints (merged_range eq r x)
  merged_range-range r x on first second =
      let next = continues-starts r x on in
      let up = first.0 in let on_up = second.0 in
      (omega (arith, next, up, on_up), second.1, refl)

  joined_ranges-ranges : (r x : CodePointMapRange B) (xs : List (CodePointMapRange B)) (b : Bool) → continues eq r x ≡ b
      → IsRangeOfCodePoints r
      → (continues eq r x ≡ true → All IsRangeOfCodePoints (joined_ranges_from eq (merged_range eq r x) xs))
      → All IsRangeOfCodePoints (joined_ranges_from eq x xs)
      → All IsRangeOfCodePoints (joined_ranges_from eq r (x ∷ xs))
  joined_ranges-ranges r x xs true on here more other = rw on (more on)
  joined_ranges-ranges r x xs false off here more other = rw off (All-cons IsRangeOfCodePoints r (joined_ranges_from eq x xs) here other)

  joined_ranges_from-ranges : (xs : List (CodePointMapRange B)) (r : CodePointMapRange B) → IsRangeOfCodePoints r → AreOfCodePoints xs
      → All IsRangeOfCodePoints (joined_ranges_from eq r xs)
  joined_ranges_from-ranges [] r here rest = All-cons IsRangeOfCodePoints r [] here (λ k d lt. absurd (omega (arith, lt)))
  joined_ranges_from-ranges (x ∷ xs) r here rest =
      joined_ranges-ranges r x xs (continues eq r x) refl here
      (λ on. joined_ranges_from-ranges xs (merged_range eq r x) (merged_range-range r x on here rest.0) rest.1)
      (joined_ranges_from-ranges xs x rest.0 rest.1)

  pub All-joined_ranges : (xs : List (CodePointMapRange B)) → AreOfCodePoints xs → All IsRangeOfCodePoints (joined_ranges eq xs)
  All-joined_ranges [] are = λ k d lt. absurd (omega (arith, lt))
  All-joined_ranges (x ∷ xs) are = joined_ranges_from-ranges xs x are.0 are.1

-- ---- Over a coherent trie.
module _ {A B : Type 0} (eq : B → B → Bool) (same : (y : B) → eq y y ≡ true) (h : A → B) (answer : ℕ → Option A) where
  -- A range of equal look-up results, mapped.
  maps_run : (first last : ℕ) (x : A) → LongestRun answer first last (Some x) → MapsTo eq h answer first last (h x)
  maps_run first last x run =
      let ordered = run.ordered in
      record {
        ordered = run.ordered;
        within = run.within;
        starts = λ y is. ap h (let e = run.equal first (omega arith) ordered in let k : Some x ≡ Some y = sym e ∙ is in
            let r : x ≡ y = cc in r);
        equal = λ u y from to is. let e = run.equal u from to in let k : Some x ≡ Some y = sym e ∙ is in let r : x ≡ y = cc in
            rw (sym r) (same (h x));
      }

  -- A run and the next one, with equal mapped values.
  maps_more : (first mid last : ℕ) (value : B) (x : A) → MapsTo eq h answer first mid value → LongestRun answer (mid + 1) last (Some x)
      → eq (h x) value ≡ true → MapsTo eq h answer first last value
  maps_more first mid last value x maps run on =
      let ordered = maps.ordered in let more = run.ordered in
      record {
        ordered = omega (arith, ordered, more);
        within = run.within;
        starts = maps.starts;
        equal = λ u y from to is. elim (cases_lt mid u) [
          | inl p ↦ let e = run.equal u (omega (arith, p)) to in let k : Some x ≡ Some y = sym e ∙ is in let r : x ≡ y = cc in rw (sym r) on
          | inr p ↦ maps.equal u y from p is
        ];
      }

  continues_is : (r : CodePointMapRange B) (x : CodePointMapRange A) → last_of r < 0x110000 → first_of x ≡ last_of r + 1
      → continues eq r (mapped h x) ≡ eq (h x.value) r.value
  continues_is r x within next = rw (
    lt-ltb (last_of r) 4294967295 (omega (arith, within)),
    next,
    eq-eqb (last_of r + 1) (last_of r + 1) refl,
  ) refl

  -- The range so far and the next one: either they are joined, or the first is a run.
  joined_ranges-step : (r : CodePointMapRange B) (x : CodePointMapRange A) (rest : List (CodePointMapRange B))
      → range_inclusive_exhausted r.range ≡ false → MapsTo eq h answer (first_of r) (last_of r) r.value
      → first_of x ≡ last_of r + 1 → LongestRun answer (first_of x) (last_of x) (Some x.value)
      → (MapsTo eq h answer (first_of r) (last_of x) r.value
      → AreMappedRunsFrom eq h answer (first_of r) (joined_ranges_from eq (merged_range eq r (mapped h x)) rest))
      → (MapsTo eq h answer (first_of x) (last_of x) (h x.value)
      → AreMappedRunsFrom eq h answer (first_of x) (joined_ranges_from eq (mapped h x) rest))
      → (b : Bool) → eq (h x.value) r.value ≡ b → AreMappedRunsFrom eq h answer (first_of r) (joined_ranges_from eq r (mapped h x ∷ rest))
  joined_ranges-step r x rest fresh maps next run more other true on =
      let c = continues_is r x maps.within next ∙ on in
      rw c (more (maps_more (first_of r) (last_of r) (last_of x) r.value x.value maps (rw (sym next) run) on))
  joined_ranges-step r x rest fresh maps next run more other false off =
      let c = continues_is r x maps.within next ∙ off in
      let ordered = run.ordered in
      rw c (
        refl,
        fresh,
        record {
          maps = maps;
          ends = λ y lt is. let e : answer (last_of r + 1) ≡ Some x.value = rw (sym next) (run.equal (first_of x) (omega arith) ordered) in
              let k : Some x.value ≡ Some y = sym e ∙ is in let s : x.value ≡ y = cc in rw (sym s) off;
        },
        rw (sym next) (other (maps_run (first_of x) (last_of x) x.value run)),
      )

  -- Joining, from the range so far on.
  joined_ranges_from-maximal : (rest : List (CodePointMapRange A)) (r : CodePointMapRange B) → range_inclusive_exhausted r.range ≡ false
      → MapsTo eq h answer (first_of r) (last_of r) r.value
      → AreOfCodePoints rest → AreRunsFrom answer (last_of r + 1) (map run_of rest)
      → AreMappedRunsFrom eq h answer (first_of r) (joined_ranges_from eq r (map (mapped h) rest))
  joined_ranges_from-maximal [] r fresh maps are end =
      (refl, fresh, record { maps = maps; ends = λ x lt. absurd (omega (arith, end, lt)) }, end)
  joined_ranges_from-maximal (x ∷ rest) r fresh maps are runs =
      joined_ranges-step r x (map (mapped h) rest) fresh maps runs.0 runs.1
      (λ more. joined_ranges_from-maximal rest (merged_range eq r (mapped h x)) refl more are.1 runs.2)
      (λ other. joined_ranges_from-maximal rest (mapped h x) are.0.2 other are.1 runs.2)
      (eq (h x.value) r.value) refl

  pub joined_ranges-maximal : (xs : List (CodePointMapRange A)) → AreOfCodePoints xs → AreRunsFrom answer 0 (map run_of xs)
      → AreMappedRunsFrom eq h answer 0 (joined_ranges eq (map (mapped h) xs))
  joined_ranges-maximal [] are runs = runs
  joined_ranges-maximal (x ∷ xs) are runs = rw (sym runs.0)
      (joined_ranges_from-maximal xs (mapped h x) are.0.2 (maps_run (first_of x) (last_of x) x.value runs.1) are.1 runs.2)
