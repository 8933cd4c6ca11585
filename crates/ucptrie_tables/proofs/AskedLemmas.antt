-- The numbers of a range, and those of the lines of a text.
use Rattle.std.proofs.Common.{◌≡◌, ℕ, zero, suc, ◌+◌, ◌-◌, ◌≤◌, false, append_assoc, List, [], ◌∷◌, ◌++◌, take, drop, Option, Some, None, refl, sym, ap, ◌∙◌, unwrap_or, is_some, arith}
use Rattle.std.specs.Prelude.{All, slice_get}
use Rattle.std.specs.List.{flat_map}
use Rattle.std.specs.Str.Lines.{lines}
use Rattle.std.proofs.lemmas.List.{append-nil, flat_map_more, take-append-drop}
use Rattle.std.proofs.lemmas.List.Elements.{All-push}
use Rattle.ucptab_table.proofs.CallerLemmas.{slice_get_left, front}
use Rattle.ucptrie_tables.specs.Asked.{asked_by_line, numbers_from, AreAsked, IsAsking, IsFirstUnasked}

-- One number more of a range.
pub numbers_from-last : (first n : ℕ) → numbers_from first (suc n) ≡ numbers_from first n ++ (first + n) ∷ []
numbers_from-last first zero = let same : first + 0 ≡ first = omega arith in rw same refl
numbers_from-last first (suc n) =
    let same : first + 1 + n ≡ first + suc n = omega arith in
    ap (λ ns. first ∷ ns) (numbers_from-last (first + 1) n ∙ ap (λ m. numbers_from (first + 1) n ++ m ∷ []) same)

-- A number pushed after those before it.
pub numbers_from-more : (first n : ℕ) (old items new : List ℕ) → first ≤ n → items ≡ old ++ numbers_from first (n - first)
    → new ≡ items ++ n ∷ [] → new ≡ old ++ numbers_from first (n + 1 - first)
numbers_from-more first n old items new from so_far is =
    let count : n + 1 - first ≡ suc (n - first) = omega (arith, from) in
    let last : first + (n - first) ≡ n = omega (arith, from) in
    let more : numbers_from first (n + 1 - first) ≡ numbers_from first (n - first) ++ n ∷ [] =
    ap (numbers_from first) count
    ∙ (numbers_from-last first (n - first) ∙ ap (λ m. numbers_from first (n - first) ++ m ∷ []) last) in
    is ∙ (ap (λ xs. xs ++ n ∷ []) so_far
    ∙ (append_assoc old (numbers_from first (n - first)) (n ∷ []) ∙ ap (λ xs. old ++ xs) (sym more)))

-- No value, by its test.
pub none-false : (o : Option (List ℕ)) → false ≡ is_some o → o ≡ None
none-false None e = refl
none-false (Some x) e = absurd (cc)

-- The numbers of a line.
abbrev pub numbers_of : List ℕ → List ℕ
numbers_of line = unwrap_or (asked_by_line line) []

module _ (text : List ℕ) (n : ℕ) (line : List ℕ) (more : List (List ℕ)) (left : drop n (lines text) ≡ line ∷ more) where
  pub asking_more : IsAsking line → All IsAsking (take n (lines text)) → All IsAsking (take (n + 1) (lines text))
  asking_more is asking = rw (front (lines text) n line more left) (All-push IsAsking (take n (lines text)) line asking is)

  pub numbers_more : (old items new : List ℕ) → items ≡ old ++ flat_map numbers_of (take n (lines text)) → new ≡ items ++ numbers_of line
      → new ≡ old ++ flat_map numbers_of (take (n + 1) (lines text))
  numbers_more old items new so_far is =
      is ∙ (ap (λ xs. xs ++ numbers_of line) so_far ∙ (flat_map_more numbers_of old (take n (lines text)) line
      ∙ ap (λ xs. old ++ flat_map numbers_of xs) (sym (front (lines text) n line more left))))

  pub first_unasked : asked_by_line line ≡ None → All IsAsking (take n (lines text)) → IsFirstUnasked text (n + 1)
  first_unasked is asking =
      let back : n + 1 - 1 ≡ n = omega arith in
      let here : slice_get (lines text) n ≡ Some line = slice_get_left (lines text) n line more left in
      record { counted = omega arith; unasked = rw (back, here) is; before = rw back asking }

-- All lines.
pub all_asked : (text : List ℕ) (n : ℕ) (old new : List ℕ) → drop n (lines text) ≡ [] → All IsAsking (take n (lines text))
    → new ≡ old ++ flat_map numbers_of (take n (lines text)) → AreAsked text old new
all_asked text n old new left asking numbers =
    let whole : take n (lines text) ≡ lines text =
    sym (append-nil (take n (lines text)))
    ∙ (ap (λ rest. take n (lines text) ++ rest) (sym left) ∙ take-append-drop n (lines text)) in
    record { all = rw whole at asking; numbers = rw whole at numbers }
