-- The matches that are left, prefix by prefix.
use Rattle.std.proofs.Common.{◌≡◌, ℕ, ℤ, zero, suc, ◌+◌, ◌-◌, ◌<◌, ◌≤◌, false, List, [], ◌∷◌, ◌++◌, Option, Some, None, length, take, sym, ap, subst, refl, ◌∙◌, arith}
use Rattle.std.specs.Iterator.{Yields, Drains}
use Rattle.icu_char16trie.specs.UnitMap.{UnitMap, goes_on, value_of}
use Rattle.icu_char16trie.specs.UnitPlaces.{At, HasPassed}
use Rattle.icu_char16trie.specs.Matches.{match_at, matches_from}
use Rattle.icu_char16trie.specs.MatchesLeft.{AreLeft, AreLeftAt, GivesMatch}
use Rattle.icu_char16trie.specs.declared.matches.Matches.{Matches}
use Rattle.icu_char16trie.proofs.FrontLemmas.{no_longer_front}

-- If no key continues after a prefix, no longer prefix is a match.
none_from : (m : UnitMap) (text : List ℕ) (i : ℕ) → goes_on m (take i text) ≡ false → (n j : ℕ) → i < j → j + n ≤ length text + 1
    → matches_from m text j n ≡ []
none_from m text i ends zero j above within = refl
none_from m text i ends (suc n) j above within =
    let here : j ≤ length text = omega arith in
    let next : j + 1 + n ≤ length text + 1 = omega arith in
    ap (λ v. match_at j v ++ matches_from m text (j + 1) n) (no_longer_front m text i j ends above here)
    ∙ none_from m text i ends n (j + 1) (omega arith) next

pub none_beyond_front : (m : UnitMap) (text : List ℕ) (k : ℕ) → k ≤ length text → goes_on m (take k text) ≡ false
    → matches_from m text (k + 1) (length text - k) ≡ []
none_beyond_front m text k within ends = none_from m text k ends (length text - k) (k + 1) (omega arith) (omega (arith, within))

-- There is no prefix beyond the whole text.
pub none_beyond_text : (m : UnitMap) (text : List ℕ) (k : ℕ) → length text ≤ k → matches_from m text (k + 1) (length text - k) ≡ []
none_beyond_text m text k past =
    let none : length text - k ≡ 0 = omega (arith, past) in ap (λ (n : ℕ). matches_from m text (k + 1) n) none

-- The cursor is at the next prefix.
pub next_left : (cursor : At) (text : List ℕ) (k : ℕ) (m : UnitMap) → k < length text → HasPassed cursor m (take (k + 1) text)
    → AreLeftAt cursor text (Some (k + 1)) m (matches_from m text (k + 1) (length text - k))
next_left cursor text k m within after =
    let count : length text - k ≡ length text + 1 - (k + 1) = omega arith in
    (omega (arith, within), after, ap (λ (n : ℕ). matches_from m text (k + 1) n) count)

-- A prefix is reported.
pub first_left : (m : UnitMap) (text : List ℕ) (k : ℕ) (v : Option ℤ) (xs : List (ℕ × ℤ)) → k ≤ length text → value_of m (take k text) ≡ v
    → xs ≡ matches_from m text k (length text + 1 - k) → xs ≡ match_at k v ++ matches_from m text (k + 1) (length text - k)
first_left m text k v xs within value is =
    let count : length text + 1 - k ≡ suc (length text - k) = omega (arith, within) in
    is ∙ ap (λ (n : ℕ). matches_from m text k n) count ∙ ap (λ z. match_at k z ++ matches_from m text (k + 1) (length text - k)) value

-- ---- a whole run

run_gives : (xs : List (ℕ × ℤ)) (s t u : Matches) (m : UnitMap) (left : List (ℕ × ℤ)) → AreLeft s m left
    → Yields GivesMatch s xs t → GivesMatch t None u → xs ≡ left
run_gives [] s t u m left are y last = sym (last.items m left (subst (λ z. AreLeft z m left) y are))
run_gives (x ∷ xs) s t u m left are (j, step, others) last =
    let g = step.items m left are in
    ap (λ z. x ∷ z) (run_gives xs j t u m g.0 g.2 others last) ∙ sym g.1

pub drain_matches : (s : Matches) (xs : List (ℕ × ℤ)) (m : UnitMap) (left : List (ℕ × ℤ)) → AreLeft s m left
    → Drains GivesMatch s xs → xs ≡ left
drain_matches s xs m left are d = run_gives xs s d.1.0 d.0 m left are d.1.1 d.1.2
