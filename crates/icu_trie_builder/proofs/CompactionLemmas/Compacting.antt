-- Placing blocks anywhere among some cells.
use Rattle.std.proofs.Common.{◌≡◌, ℕ, ◌+◌, ◌-◌, ◌*◌, ◌<◌, ◌≤◌, ◌≢◌, ◌&&◌, Bool, true, false, not, true≢false, List, [], ◌∷◌, ◌++◌, length, get_or, take, drop, map, replicate, refl, arith, ◌∙◌, sym, ap, subst, inl, inr}
use Rattle.std.specs.Prelude.{nat_eq}
use Rattle.std.specs.Cmp.Lexicographic.{pointwise}
use Rattle.std.specs.List.{range_with_len, filter, Contains, IsDistinct, AllPass}
use Rattle.std.specs.Set.{unique_keys, is_member}
use Rattle.std.proofs.lemmas.Map.Made.{is_member-filter, is_member-Decides}
use Rattle.std.proofs.lemmas.List.FromFn.{length-map-range_with_len, get_or-map-range_with_len}
use Rattle.std.proofs.Math.Nat.{mul-le-mul_left}
use Rattle.std.proofs.lemmas.Bool.{cases_lt, false_from_ne_true, or_cases}
use Rattle.std.proofs.lemmas.List.{take_all, take-take, length-append, length-replicate, length-take, length-drop, get_or_append_left, get_or-append_right, get_or-replicate}
use Rattle.icu_trie_core.specs.Blocks.{window, count_different}
use Rattle.icu_trie_builder.specs.Different.{count_different_but}
use Rattle.icu_trie_builder.specs.Inside.Compaction.Placed.{AllStandIn, IsPlaced, IsPlacedBlock, OccursNowhere}
use Rattle.icu_trie_builder.specs.Inside.Compaction.Windows.{IsLeast}
use Rattle.icu_trie_builder.proofs.CompactionLemmas.Counts.{length-le-distinct_count, unique_keys-member, unique_keys-apart, absent-apart, distinct_count-mono}
use Rattle.icu_trie_builder.proofs.CompactionLemmas.Windows.{list_laws, list_decides, window-append, times-below}
use Rattle.icu_trie_builder.proofs.CompactionLemmas.TableLemmas.{append-kept, least-same, least-kept}

and-both : (a b : Bool) → a ≡ true → b ≡ false → (a && not b) ≡ true
and-both true false h g = refl
and-both true true h g = sym g
and-both false b h g = h

and-parts : (a b : Bool) → (a && not b) ≡ true → (a ≡ true) × (b ≡ false)
and-parts true false h = (refl, refl)
and-parts true true h = absurd (true≢false (sym h))
and-parts false b h = absurd (true≢false (sym h))

-- The blocks for which p is false, as a list.
abbrev left_out : (List ℕ → Bool) → (ℕ → List ℕ) → ℕ → ℕ → List (List ℕ)
left_out p b first count = filter (λ x. not (p x)) (map b (range_with_len first count))

filtered : (p : List ℕ → Bool) (xs : List (List ℕ)) (q : List ℕ)
    → is_member (pointwise nat_eq) (filter (λ x. not (p x)) xs) q ≡ (is_member (pointwise nat_eq) xs q && not (p q))
filtered p xs q = is_member-filter list_laws (λ x. not (p x)) q (λ x e. ap (λ y. not (p y)) ((list_decides q x).0 e)) xs

in-left_out : (p : List ℕ → Bool) (b : ℕ → List ℕ) (first count j : ℕ) → first ≤ j → j < first + count → p (b j) ≡ false
    → is_member (pointwise nat_eq) (left_out p b first count) (b j) ≡ true
in-left_out p b first count j le lt h =
    let i : ℕ = j - first in
    let is : first + i ≡ j = omega (arith, le) in
    let l : i < count = omega (arith, le, lt) in
    let there : Contains (map b (range_with_len first count)) (b j) =
    (i, omega (arith, l, length-map-range_with_len b first count), get_or-map-range_with_len b first count i j (b j) l is) in
    let m = (is_member-Decides list_decides (map b (range_with_len first count)) (b j)).1 there in
    filtered p (map b (range_with_len first count)) (b j)
    ∙ and-both (is_member (pointwise nat_eq) (map b (range_with_len first count)) (b j)) (p (b j)) m h

-- A block in that list.
of-left_out : (p : List ℕ → Bool) (b : ℕ → List ℕ) (first count : ℕ) (q : List ℕ)
    → is_member (pointwise nat_eq) (left_out p b first count) q ≡ true → (j : ℕ) × (first ≤ j) × (j < first + count) × (b j ≡ q)
    × (p q ≡ false)
of-left_out p b first count q h =
    let both = and-parts (is_member (pointwise nat_eq) (map b (range_with_len first count)) q) (p q)
    (sym (filtered p (map b (range_with_len first count)) q) ∙ h) in
    let w = (is_member-Decides list_decides (map b (range_with_len first count)) q).0 both.0 in
    let l : w.0 < count = omega (arith, w.1, length-map-range_with_len b first count) in
    (first + w.0, omega arith, omega (arith, l), sym (get_or-map-range_with_len b first count w.0 (first + w.0) q l refl) ∙ w.2, both.1)

-- If each block of b for which p is false is a block of b' for which p' is false, there are at most
-- as many distinct ones of b.
pub count_different_but-within : (p p' : List ℕ → Bool) (b b' : ℕ → List ℕ) (first count first' count' : ℕ)
    → ((j : ℕ) → first ≤ j → j < first + count → p (b j) ≡ false → (j' : ℕ) × (first' ≤ j') × (j' < first' + count') × (b j ≡ b' j')
    × (p' (b' j') ≡ false))
    → count_different_but p b first count ≤ count_different_but p' b' first' count'
unfolding count_different_but
count_different_but-within p p' b b' first count first' count' h =
    distinct_count-mono list_laws list_decides (left_out p b first count) (left_out p' b' first' count')
    (λ q m.
    let w = of-left_out p b first count q ((is_member-Decides list_decides (left_out p b first count) q).1 m) in
    let v = h w.0 w.1 w.2 (ap p w.3 ∙ w.4) in
    (is_member-Decides list_decides (left_out p' b' first' count') q).0
    (subst (λ x. is_member (pointwise nat_eq) (left_out p' b' first' count') x ≡ true) (sym v.3 ∙ w.3)
    (in-left_out p' b' first' count' v.0 v.1 v.2 v.4)))

-- There are at most as many blocks for which p is false as blocks in all.
pub count_different_but-le : (p : List ℕ → Bool) (b : ℕ → List ℕ) (first count : ℕ)
    → count_different_but p b first count ≤ count_different b first count
unfolding count_different_but count_different
count_different_but-le p b first count = distinct_count-mono list_laws list_decides (left_out p b first count)
    (map b (range_with_len first count))
    (λ q m.
    let t = (is_member-Decides list_decides (left_out p b first count) q).1 m in
    (is_member-Decides list_decides (map b (range_with_len first count)) q).0
    (and-parts (is_member (pointwise nat_eq) (map b (range_with_len first count)) q) (p q)
    (sym (filtered p (map b (range_with_len first count)) q) ∙ t)).0)

pub count_different_but-mono : (p : List ℕ → Bool) (b : ℕ → List ℕ) (first count count' : ℕ) → count ≤ count'
    → count_different_but p b first count ≤ count_different_but p b first count'
count_different_but-mono p b first count count' le =
    count_different_but-within p p b b first count first count' (λ j l l' h. (j, l, omega (arith, l', le), refl, h))

-- A block for which p is false and that differs from the earlier ones.
pub count_different_but-more : (p : List ℕ → Bool) (b : ℕ → List ℕ) (first j : ℕ) → p (b (first + j)) ≡ false
    → ((i : ℕ) → i < j → b (first + i) ≢ b (first + j)) → count_different_but p b first j < count_different_but p b first (j + 1)
unfolding count_different_but IsDistinct
count_different_but-more p b first j h fresh =
    let x : List ℕ = b (first + j) in
    let xs : List (List ℕ) = left_out p b first j in
    let us : List (List ℕ) = unique_keys (pointwise nat_eq) xs in
    let ys : List (List ℕ) = left_out p b first (j + 1) in
    let absent : is_member (pointwise nat_eq) us x ≡ false = false_from_ne_true (is_member (pointwise nat_eq) us x) (λ t.
    let w = of-left_out p b first j x (unique_keys-member list_laws list_decides xs x t) in
    let is : first + (w.0 - first) ≡ w.0 = omega (arith, w.1) in
    fresh (w.0 - first) (omega (arith, w.1, w.2)) (ap b is ∙ w.3)) in
    length-le-distinct_count list_laws list_decides (x ∷ us) ys
    (absent-apart list_laws list_decides x us absent, unique_keys-apart list_laws list_decides xs)
    (λ q m. elim (or_cases (pointwise nat_eq q x) (is_member (pointwise nat_eq) us q) m) [
      | inl t ↦ subst (λ y. is_member (pointwise nat_eq) ys y ≡ true) (sym ((list_decides q x).0 t))
          (in-left_out p b first (j + 1) (first + j) (omega arith) (omega arith) h)
      | inr t ↦ let w = of-left_out p b first j q (unique_keys-member list_laws list_decides xs q t) in
          subst (λ y. is_member (pointwise nat_eq) ys y ≡ true) w.3
          (in-left_out p b first (j + 1) w.0 w.1 (omega (arith, w.2)) (ap p w.3 ∙ w.4))
    ])

-- The blocks b first, .., b (first + j - 1) of k cells are in `stored`, each at the first position
-- of its cells.
pub record Compacting (k first j : ℕ) (b : ℕ → List ℕ) (before stored offsets : List ℕ) : Type 0 where
  pub kept : take (length before) stored ≡ before
  pub count : length offsets ≡ j
  pub least : (i : ℕ) → i < j → IsLeast k (get_or offsets i 0) stored (b (first + i))
  pub short : (p : List ℕ → Bool) → AllStandIn k before p → length stored ≤ length before + k * count_different_but p b first j
  pub drawn : (p : ℕ → Bool) → ((i : ℕ) → i < j → AllPass p (b (first + i))) → AllPass p before → AllPass p stored

-- No block yet.
pub compacting-none : (k first : ℕ) (b : ℕ → List ℕ) (before offsets : List ℕ) → offsets ≡ [] → Compacting k first 0 b before before offsets
compacting-none k first b before offsets none = record {
  kept = take_all (length before) before (omega arith);
  count = ap length none;
  least = λ i lt. absurd (omega (arith, lt));
  short = λ p st. omega arith;
  drawn = λ p all pass. pass;
}

-- A block that occurs in the cells still occurs at the same position after cells are appended.
stands-kept : (k q : ℕ) (before stored x : List ℕ) → take (length before) stored ≡ before → length x ≡ k → 0 < k → window k q before ≡ x
    → window k q stored ≡ x
stands-kept k q before stored x h len pos is =
    let fits : q + k ≤ length before = omega (arith, ap length is, length-take k (drop q before), length-drop q before, len, pos) in
    sym (ap (λ ys. window k q ys) (append-kept before stored h)) ∙ window-append k q before (drop (length before) stored) fits ∙ is

module _ (k first j : ℕ) (b : ℕ → List ℕ) (before stored offsets : List ℕ) (l : Compacting k first j b before stored offsets) (pos : 0 < k)
    (len : length (b (first + j)) ≡ k) where
  -- A block that does not occur counts as a new one.
  compacting-fresh : OccursNowhere (b (first + j)) stored
      → (p : List ℕ → Bool) → AllStandIn k before p → length stored + k ≤ length before + k * count_different_but p b first (j + 1)
  compacting-fresh none p st =
      let x : List ℕ = b (first + j) in
      let out : p x ≡ false = false_from_ne_true (p x)
      (λ t. let w = st x t in (rw len at none) w.0 (stands-kept k w.0 before stored x l.kept len pos w.1)) in
      let more = count_different_but-more p b first j out (λ i lt e. (rw len at none) (get_or offsets i 0) ((l.least i lt).here ∙ e)) in
      omega (arith, l.short p st, times-below k (count_different_but p b first j) (count_different_but p b first (j + 1)) more)

  -- More blocks, all equal.
  pub compacting-run : (limit at m : ℕ) (stored' offsets' : List ℕ) → IsPlacedBlock limit (b (first + j)) stored stored' at
      → 0 < m → ((i : ℕ) → i < m → b (first + j + i) ≡ b (first + j))
      → offsets' ≡ offsets ++ replicate m at → Compacting k first (j + m) b before stored' offsets'
  compacting-run limit at m stored' offsets' placed some same o =
      let longer : length before ≤ length stored = omega (arith, ap length l.kept, length-take (length before) stored) in
      record {
        kept = sym (take-take (length before) (length stored) stored' longer) ∙ ap (λ xs. take (length before) xs) placed.kept ∙ l.kept;
        count = omega (arith, ap length o, length-append offsets (replicate m at), length-replicate m at, l.count);
        least = λ i lt. elim (cases_lt i j) [
          | inl below ↦ rw (ap (λ os. get_or os i 0) o, get_or_append_left offsets (replicate m at) 0 i (omega (arith, below, l.count)))
              (least-kept k (get_or offsets i 0) stored stored' (b (first + i)) placed.kept (l.least i below))
          | inr from ↦
              let is : b (first + i) ≡ b (first + j) = ap b (omega (arith, from)) ∙ same (i - j) (omega (arith, lt, from)) in
              rw (
                ap (λ os. get_or os i 0) o,
                get_or-append_right offsets (replicate m at) j i 0 l.count from,
                get_or-replicate m (i - j) at 0 (omega (arith, lt, from)),
                is,
              ) (rw len at placed.least)
        ];
        short = λ p st.
            let more = count_different_but-mono p b first (j + 1) (j + m) (omega (arith, some)) in
            let t : k * count_different_but p b first (j + 1) ≤ k * count_different_but p b first (j + m) = mul-le-mul_left k more in
            elim (cases_lt (length stored) (length stored')) [
              | inl lt ↦ let g = placed.grown lt in omega (arith, g.0, len, compacting-fresh g.1 p st, t)
              | inr ge ↦
                  let e = count_different_but-mono p b first j (j + 1) (omega arith) in
                  let u : k * count_different_but p b first j ≤ k * count_different_but p b first (j + 1) = mul-le-mul_left k e in
                  omega (arith, ge, l.short p st, t, u)
            ];
        drawn = λ p all pass. placed.drawn p (all j (omega (arith, some))) (l.drawn p (λ i lt. all i (omega (arith, lt))) pass);
      }

  -- One more block.
  pub compacting-step : (limit at : ℕ) (stored' offsets' : List ℕ) → IsPlacedBlock limit (b (first + j)) stored stored' at
      → offsets' ≡ offsets ++ at ∷ [] → Compacting k first (j + 1) b before stored' offsets'
  compacting-step limit at stored' offsets' placed o =
      compacting-run limit at 1 stored' offsets' placed (omega arith) (λ i lt. ap b (omega (arith, lt))) o

  -- The limit is exceeded.
  pub compacting-full : (m limit : ℕ) → j < m → OccursNowhere (b (first + j)) stored → limit < length stored
      → limit + k < length before + k * count_different b first m
  compacting-full m limit lt none over =
      let no : List ℕ → Bool = λ x. false in
      let one = compacting-fresh none no (λ x t. absurd (true≢false (sym t))) in
      let a = mul-le-mul_left k (count_different_but-mono no b first (j + 1) m (omega (arith, lt))) in
      let c = mul-le-mul_left k (count_different_but-le no b first m) in
      omega (arith, one, a, c, over)

-- Every block of the range is placed.
pub compacting-done : (k first j : ℕ) (b : ℕ → List ℕ) (before stored offsets : List ℕ) → Compacting k first j b before stored offsets
    → IsPlaced k first b before stored offsets
compacting-done k first j b before stored offsets l = record {
  kept = l.kept;
  copied = record {
    inside = λ i h. (l.least i (omega (arith, h, l.count))).inside;
    copies = λ i h. (l.least i (omega (arith, h, l.count))).here;
  };
  shared = λ i i' h h' e. least-same k (get_or offsets i 0) (get_or offsets i' 0) stored (b (first + i'))
      (subst (λ x. IsLeast k (get_or offsets i 0) stored x) e (l.least i (omega (arith, h, l.count))))
      (l.least i' (omega (arith, h', l.count)));
  drawn = λ p all. l.drawn p (λ i lt. all i (omega (arith, lt, l.count)));
}

-- The number of appended cells is at most that of the distinct blocks' cells.
pub compacting-short : (k first j : ℕ) (b : ℕ → List ℕ) (before stored offsets : List ℕ) → Compacting k first j b before stored offsets
    → length stored ≤ length before + k * count_different b first j
compacting-short k first j b before stored offsets l =
    let none : List ℕ → Bool = λ x. false in
    let m = mul-le-mul_left k (count_different_but-le none b first j) in
    omega (arith, m, l.short none (λ x t. absurd (true≢false (sym t))))
