-- Lists to which cells are appended.
use Rattle.std.proofs.Common.{◌≡◌, ℕ, ◌+◌, ◌-◌, ◌<◌, List, [], ◌∷◌, ◌++◌, length, get_or, arith, ap, ◌∙◌, below_more, refl, Some, slice_get, inl, inr}
use Rattle.std.proofs.lemmas.Bool.{cases_lt}
use Rattle.std.proofs.lemmas.List.{length-append, get_or_append_left, get_or_at}
use Rattle.std.proofs.lemmas.Option.{slice_get-get_or}
use Rattle.icu_trie_builder.specs.Inside.Index.IndexParts.{IsGrown}

-- A list with no cells appended is itself.
pub grown-none : (f : ℕ → ℕ) (old : List ℕ) → IsGrown 0 f old old
grown-none f old = record { len = omega arith; kept = λ i l. refl; more = λ j l. absurd (omega (arith, l)) }

-- One more cell.
pub grown-push : (n x : ℕ) (f : ℕ → ℕ) (old now new : List ℕ) → IsGrown n f old now → new ≡ now ++ x ∷ [] → x ≡ f n
    → IsGrown (n + 1) f old new
grown-push n x f old now new g is value =
    let len : length new ≡ length now + 1 = omega (arith, ap length is, length-append now (x ∷ [])) in
    let same : (i : ℕ) → i < length now → get_or new i 0 ≡ get_or now i 0 =
    λ i l. ap (λ xs. get_or xs i 0) is ∙ get_or_append_left now (x ∷ []) 0 i l in
    record {
      len = omega (arith, len, g.len);
      kept = λ i l. same i (omega (arith, l, g.len)) ∙ g.kept i l;
      more = below_more (λ j. get_or new (length old + j) 0 ≡ f j) n
          (λ j l. same (length old + j) (omega (arith, l, g.len)) ∙ g.more j l)
          (ap (λ xs. get_or xs (length old + n) 0) is ∙ (get_or_at now x [] 0 (length old + n) g.len ∙ value));
    }

-- m more cells after n more.
pub grown-more : (n m : ℕ) (f g : ℕ → ℕ) (old now new : List ℕ) → IsGrown n f old now → IsGrown m g now new
    → ((j : ℕ) → j < m → g j ≡ f (n + j)) → IsGrown (n + m) f old new
grown-more n m f g old now new a b same = record {
  len = omega (arith, a.len, b.len);
  kept = λ i l. b.kept i (omega (arith, l, a.len)) ∙ a.kept i l;
  more = λ j l. elim (cases_lt j n) [
    | inl lt ↦ b.kept (length old + j) (omega (arith, lt, a.len)) ∙ a.more j lt
    | inr from ↦ ap (λ i. get_or new i 0) (omega (arith, from, a.len))
        ∙ (b.more (j - n) (omega (arith, from, l)) ∙ (same (j - n) (omega (arith, from, l)) ∙ ap f (omega (arith, from))))
  ];
}

-- A cell that exists.
pub cell_there : (xs : List ℕ) (i x : ℕ) → i < length xs → get_or xs i 0 ≡ x → slice_get xs i ≡ Some x
cell_there xs i x l e = slice_get-get_or xs i 0 l ∙ ap (λ y. Some y) e
