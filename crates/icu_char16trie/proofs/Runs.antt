-- A whole run of the iterator.
use Rattle.std.proofs.Common.{◌≡◌, ℕ, ℤ, Bool, true, false, List, [], ◌∷◌, None, Result, Ok, Err, String, Global, subst, refl, ◌⊎◌, inl, inr}
use Rattle.std.specs.Iterator.{Yields, Drains}
use Rattle.icu_zerovec.specs.declared.memory.MemoryError.{MemoryError}
use Rattle.icu_char16trie.specs.Entries.{IsLeft, IsDone, GivesNext, AreEntries, AreCutShort}
use Rattle.icu_char16trie.specs.declared.entries.Iter2.{Iter2}

not_both : ◌≡◌ {A = Bool} true false → ⊥
not_both h = cc

-- No item comes if none is left.
none_comes : (xs : List (Result (String Global × ℤ) MemoryError)) (s t : Iter2) → IsDone s → Yields GivesNext s xs t → xs ≡ []
none_comes [] s t d y = refl
none_comes (x ∷ xs) s t d (j, step, others) = absurd (not_both (step.done d))

pub run_gives : (xs : List (Result (String Global × ℤ) MemoryError)) (s t u : Iter2) (m : List (List ℕ × ℤ)) → IsLeft s m
    → Yields GivesNext s xs t → GivesNext t None u
    → AreEntries xs m ⊎ AreCutShort xs m
run_gives [] s t u m left y last = inl (last.entries m (subst (λ z. IsLeft z m) y left))
run_gives (Ok x ∷ xs) s t u m left (j, step, others) last =
    let g = step.entries m left in
    elim (run_gives xs j t u g.1 g.4 others last) [ inl all ↦ inl (g.0, g.1, g.2, g.3, all) | inr cut ↦ inr (g.0, g.1, g.2, g.3, cut) ]
run_gives (Err e ∷ xs) s t u m left (j, step, others) last = inr (none_comes xs j t (step.ended refl) others)

pub drain_gives : (s : Iter2) (xs : List (Result (String Global × ℤ) MemoryError)) (m : List (List ℕ × ℤ)) → IsLeft s m
    → Drains GivesNext s xs → AreEntries xs m ⊎ AreCutShort xs m
drain_gives s xs m left d = run_gives xs s d.1.0 d.0 m left d.1.1 d.1.2
