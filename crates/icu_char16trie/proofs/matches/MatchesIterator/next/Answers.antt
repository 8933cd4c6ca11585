use Rattle.std.proofs.Common.{◌≡◌, ℕ, ℤ, ◌+◌, ◌-◌, List, ◌++◌, Some, length, sym, ap, subst, ◌∙◌, arith, rules, to_z, of_z, w32}
use Rattle.std.proofs.lemmas.Int.{to_z-of_z}
use Rattle.std.proofs.lemmas.Option.{none-some}
use Rattle.icu_char16trie.specs.UnitMap.{UnitMap}
use Rattle.icu_char16trie.specs.Matches.{match_at, matches_from}
use Rattle.icu_char16trie.specs.MatchesLeft.{AreLeft, AreLeftAt, fronts_by, fronts_left}
use Rattle.icu_char16trie.proofs.MatchLemmas.{first_left}
use Rattle.icu_char16trie.proofs.matches.MatchesIterator.next.Goals as goal
use Rattle.icu_char16trie.proofs.matches.MatchesIterator.next.Goals.{After-go_on}

-- The match at the reported prefix comes first, and those at the longer prefixes are left.
front_told : (c : After-go_on) (m : UnitMap) (xs : List (ℕ × ℤ)) → AreLeft c.args.self.now m xs
    → (rest : List (ℕ × ℤ)) × (xs ≡ match_at c.in-Some.length c.value-value.result ++ rest) × AreLeft c.go_on.new.self m rest
front_told c m xs are =
    let text : List ℕ = c.loop-self.self.text.now in
    let k : ℕ = c.in-Some.length in
    let at : AreLeftAt c.loop-self.self.cursor text (Some k) m xs =
    subst (λ z. AreLeftAt c.loop-self.self.cursor text z m xs) c.in-Some.is (c.loop-self.invariant.left m xs are) in (
      matches_from m text (k + 1) (length text - k),
      first_left m text k c.value-value.result xs at.0 (sym (c.value-value.ensures.value m _ at.1)) at.2,
      c.go_on.ensures.left m at.0 at.1,
    )

pub returns-in-Some-value-clause-steps : goal.returns-in-Some-value-clause-steps
returns-in-Some-value-clause-steps c =
    let v : ℤ = c.in-Some-value.value in
    let same : to_z w32 (of_z w32 v) ≡ v = to_z-of_z w32 v (search rules) in
    record {
      items = λ m xs are.
          let t = front_told (goal.at.returns-in-Some-value-clause-steps c).After-go_on m xs are in
          (t.0, t.1 ∙ ap (λ z. match_at c.in-Some.length z ++ t.0) (c.in-Some-value.is ∙ ap Some (sym same)), t.2);
      done = λ d. absurd (none-some _ (sym (c.loop-self.invariant.done d) ∙ c.in-Some.is));
      ended = tt;
    }

pub loop-self-preserved : goal.loop-self-preserved
loop-self-preserved c = record {
  left = λ m xs are.
      let t = front_told (goal.at.loop-self-preserved c).After-go_on m xs are in
      subst (AreLeft c.go_on.new.self m) (sym (t.1 ∙ ap (λ z. match_at c.in-Some.length z ++ t.0) c.in_default-value.is)) t.2;
  done = λ d. absurd (none-some _ (sym (c.loop-self.invariant.done d) ∙ c.in-Some.is));
  fewer =
      let here : fronts_left c.loop-self.self ≡ length c.loop-self.self.text.now - c.in-Some.length + 1 =
      ap (fronts_by (length c.loop-self.self.text.now)) c.in-Some.is in
      omega (arith, here, c.go_on.ensures.fewer, c.loop-self.invariant.fewer);
}
