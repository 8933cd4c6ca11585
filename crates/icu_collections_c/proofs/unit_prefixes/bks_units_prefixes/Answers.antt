use Rattle.std.proofs.Common.{◌≡◌, ◌∙◌, ◌+◌, [], ℕ, ℤ, List, refl, sym, subst, true, false, length, take, get_or, arith}
use Rattle.std.proofs.lemmas.List.{take_more}
use Rattle.icu_char16trie.specs.Steps.{StepsTo}
use Rattle.icu_char16trie.specs.UnitMap.{UnitMap, goes_on}
use Rattle.icu_char16trie.specs.UnitPlaces.{HasPassed, is_empty_at}
use Rattle.icu_char16trie.specs.declared.place.Place.TheVariants.{Node}
use Rattle.icu_char16trie.proofs.CallerLemmas.{front_more}
use Rattle.icu_collections_c.specs.UnitPrefixes.{HasFound}
use Rattle.icu_collections_c.specs.UnitTries.{units_of}
use Rattle.icu_collections_c.proofs.UnitLemmas.{along_push}
use Rattle.icu_collections_c.proofs.UnitPrefixLemmas.{HasAll, HasFound-none, few-looked, looked_all, looked_ends, looked_first, looked_next, no_more}
use Rattle.icu_collections_c.proofs.unit_prefixes.bks_units_prefixes.Goals as goal

pub loop-i-init : goal.loop-i-init
loop-i-init c = record {
  within = omega arith;
  looked = looked_first (units_of c.args.units.now) (λ k. take k c.args.text.now) (λ k. k) c.cursor-cursor.result
      (λ xs. HasFound xs c.args.found.now c.put-count.new.found c.put-count.result) c.value-value.result
      (c.cursor-cursor.ensures.units ∙ c.trie_in-trie.ensures) refl
      c.cursor-cursor.ensures.place (λ m h. c.cursor-cursor.ensures.root m (rw c.trie_in-trie.ensures h)) c.value-value.ensures.exact
      c.value-value.ensures.value (c.put-count.ensures [] c.args.found.now (HasFound-none c.args.found.now));
}

pub put-count-requires-in-loop-i : goal.put-count-requires-in-loop-i
put-count-requires-in-loop-i c =
    let was = c.loop-i.invariant.looked in
    omega (arith, few-looked was, was.are.count, c.loop-i-test.true)

pub loop-i-preserved : goal.loop-i-preserved
loop-i-preserved c =
    let was = c.loop-i.invariant.looked in
    let i = c.loop-i.i in
    let all = units_of c.args.units.now in
    let text = c.args.text.now in
    let more = take_more text i 0 c.loop-i-test.true in
    let step : StepsTo all c.loop-i.cursor.place (get_or text i 0) c.step16.new.self.place =
    subst (λ z. StepsTo z c.loop-i.cursor.place (get_or text i 0) c.step16.new.self.place) was.units_are c.step16.ensures.exact in
    record {
      within = omega (arith, c.loop-i-test.true);
      looked = looked_next all (λ k. take k text) (λ k. k) i (i + 1) (omega arith) c.loop-i.cursor c.step16.new.self
          (λ xs. HasFound xs c.args.found.now c.loop-i.found c.loop-i.count)
          (λ xs. HasFound xs c.args.found.now c.put-count-in-loop-i.new.found c.put-count-in-loop-i.result)
          c.value-value-in-loop-i.result was
          (c.step16.ensures.units ∙ was.units_are)
          (rw more (along_push all (Node 0) c.loop-i.cursor.place c.step16.new.self.place _ _ was.steps step))
          (λ m h. rw more (c.step16.ensures.after m _ (was.after m h)))
          c.value-value-in-loop-i.ensures.exact c.value-value-in-loop-i.ensures.value
          (λ xs are. c.put-count-in-loop-i.ensures xs c.args.found.now are);
    }

pub returns-then-is_empty : goal.returns-then-is_empty
returns-then-is_empty c =
    let was = c.loop-i.invariant.looked in
    let i = c.loop-i.i in
    let text = c.args.text.now in
    let ends : is_empty_at c.loop-i.cursor.units c.loop-i.cursor.place ≡ true = sym c.is_empty.ensures.exact ∙ c.if-is_empty.true in
    let none : (m : UnitMap) (w : List ℕ) → HasPassed c.loop-i.cursor m w → goes_on m w ≡ false =
    λ m w h. no_more _ (sym (c.is_empty.ensures.empty m w h) ∙ c.if-is_empty.true) in
    let all = looked_ends (units_of c.args.units.now) (λ k. take k text) (λ k. k) i c.loop-i.cursor
    (λ xs. HasFound xs c.args.found.now c.loop-i.found c.loop-i.count) was (length text) c.loop-i.invariant.within ends none
    (front_more text i) in
    record { keys = all.keys; exact = all.exact }

pub returns : goal.returns
returns c =
    let was = c.loop-i.invariant.looked in
    let text = c.args.text.now in
    let over : c.loop-i.i ≡ length text = omega (arith, c.loop-i-test.false, c.loop-i.invariant.within) in
    let Found : List (ℕ × ℤ) → Type 0 = λ xs. HasFound xs c.args.found.now c.loop-i.found c.loop-i.count in
    let all = subst (λ k. HasAll (units_of c.args.units.now) (λ j. take j text) (λ j. j) k Found) over
    (looked_all (units_of c.args.units.now) (λ k. take k text) (λ k. k) c.loop-i.i c.loop-i.cursor Found was) in
    record { keys = all.keys; exact = all.exact }
