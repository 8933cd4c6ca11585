-- Lemmas that other crates may use: a trie that has the numbers of another one over numbers is that trie.
use Rattle.std.proofs.Common.{◌≡◌, ℕ, List, [], ◌∷◌, map, Some, refl, ap, ◌∙◌, arith}
use Rattle.icu_trie_core.specs.ValueNumbers.{fitting}
use Rattle.icu_trie.specs.Parts.{Parts}
use Rattle.icu_trie.specs.Conversion.{with_null_value}
use Rattle.ucptrie_tables.specs.Numbers.{HasNumbersOf}

pub fitted : (limit n m : ℕ) → fitting limit n ≡ Some m → m ≡ n
fitted limit n m e = grind (arith, e)

same_list : (limit : ℕ) (xs ys : List ℕ) → map Some ys ≡ map (fitting limit) xs → ys ≡ xs
same_list limit [] [] e = refl
same_list limit (x ∷ xs) [] e = absurd (cc)
same_list limit [] (y ∷ ys) e = absurd (cc)
same_list limit (x ∷ xs) (y ∷ ys) e =
    let here : fitting limit x ≡ Some y = cc in
    let rest : map Some ys ≡ map (fitting limit) xs = cc in
    λ i. fitted limit x y here i ∷ same_list limit xs ys rest i

pub HasNumbersOf-same : (a b : ℕ) (p t : Parts ℕ) → HasNumbersOf (λ n. n) (fitting a) (λ n. n) (fitting b) p t → t ≡ p
HasNumbersOf-same a b p t h =
    let null = fitted b h.old_null h.null h.null_is ∙ fitted a p.header.null_value h.old_null h.old_null_is in
    let header : t.header ≡ p.header = h.header ∙ ap (with_null_value p.header) null in
    let values = same_list b p.values t.values h.values in
    λ i. record { header = header i; index = h.index i; values = values i }
