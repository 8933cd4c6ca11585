-- Equal entries, one after the other.
use Rattle.std.proofs.Common.{◌≡◌, ℕ, zero, suc, add-one, ◌+◌, List, [], ◌∷◌, ◌++◌, refl, sym, ap, ◌∙◌, take, drop}
use Rattle.icu_char16trie_builder.specs.Inside.Cuts.{cut}
use Rattle.icu_char16trie_builder.specs.declared.entry.Entry.{Entry}
use Rattle.icu_char16trie_builder.proofs.CutLemmas.{cut_append}

front_more : (i : ℕ) (es : List Entry) → take (suc i) es ≡ take i es ++ take 1 (drop i es)
front_more zero es = refl
front_more (suc i) [] = refl
front_more (suc i) (x ∷ es) = ap (λ z. x ∷ z) (front_more i es)

cut_more : (d i : ℕ) (es : List Entry) → cut d (take (i + 1) es) ≡ cut d (take i es) ++ cut d (take 1 (drop i es))
cut_more d i es = rw add-one (ap (cut d) (front_more i es) ∙ cut_append d (take i es) (take 1 (drop i es)))

-- One more entry is equal.
pub alike_more : (d e i : ℕ) (a b a' b' : List Entry) → a' ≡ drop i a → b' ≡ drop i b → cut d (take i a) ≡ cut e (take i b)
    → cut d (take 1 a') ≡ cut e (take 1 b')
    → cut d (take (i + 1) a) ≡ cut e (take (i + 1) b)
alike_more d e i a b a' b' f g so here =
    cut_more d i a ∙ ap (λ z. z ++ cut d (take 1 (drop i a))) so
    ∙ ap (λ z. cut e (take i b) ++ z) (ap (λ z. cut d (take 1 z)) (sym f) ∙ here ∙ ap (λ z. cut e (take 1 z)) g)
    ∙ sym (cut_more e i b)
