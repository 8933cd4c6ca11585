-- Maintaining a table of windows.
use Rattle.std.proofs.Common.{◌≡◌, ◌≢◌, ℕ, ◌+◌, ◌-◌, ◌*◌, ◌/◌, ◌^◌, ◌<◌, ◌≤◌, ◌⊎◌, List, [], ◌∷◌, ◌++◌, length, get_or, set, take, drop, refl, arith, ◌∙◌, sym, ap, subst, inl, inr, below_more}
use Rattle.std.proofs.lemmas.Bool.{cases_eq, cases_lt}
use Rattle.std.proofs.lemmas.List.{take-append-drop, take-append-le, drop-append-le, take_all, take-take, length-drop, length-append, get_or_append_left, get_or_at, length-set, get_or-set_same, get_or-set_other}
use Rattle.icu_trie_core.specs.Blocks.{window}
use Rattle.icu_trie_builder.specs.Inside.Compaction.Hashes.{bucket, cells_hash, leaving_factor}
use Rattle.icu_trie_builder.specs.Inside.Compaction.Windows.{AreTables, IsLeast, IsChained, IsTable, entry, entry_count}
use Rattle.icu_trie_builder.specs.declared.compaction.window_table.WindowTable.{WindowTable}
use Rattle.icu_trie_builder.proofs.CompactionLemmas.Windows.{window-append}

-- There is only one first position.
pub least-same : (k a b : ℕ) (cells x : List ℕ) → IsLeast k a cells x → IsLeast k b cells x → a ≡ b
least-same k a b cells x l m =
    let up : a < b → ⊥ = λ lt. m.least a lt l.here in
    let down : b < a → ⊥ = λ lt. l.least b lt m.here in
    omega (arith, up, down)

-- Appending cells does not change the first position.
pub least-append : (k at : ℕ) (cells ys x : List ℕ) → IsLeast k at cells x → IsLeast k at (cells ++ ys) x
least-append k at cells ys x l = record {
  inside = omega (arith, length-append cells ys, l.inside);
  here = window-append k at cells ys l.inside ∙ l.here;
  least = λ q lt e. l.least q lt (sym (window-append k q cells ys (omega (arith, l.inside, lt))) ∙ e);
}

-- Cells with a prefix are the prefix and more cells.
pub append-kept : (before after : List ℕ) → take (length before) after ≡ before → before ++ drop (length before) after ≡ after
append-kept before after h = ap (λ ys. ys ++ drop (length before) after) (sym h) ∙ take-append-drop (length before) after

pub least-kept : (k at : ℕ) (cells more x : List ℕ) → take (length cells) more ≡ cells → IsLeast k at cells x → IsLeast k at more x
least-kept k at cells more x h l = subst (λ ys. IsLeast k at ys x) (append-kept cells more h)
    (least-append k at cells (drop (length cells) more) x l)

-- A list that does not occur and is appended, overlapping the longest tail that equals a prefix of
-- it.
pub least-overlap : (k c : ℕ) (cells wanted : List ℕ) → length wanted ≡ k → c < length wanted → c ≤ length cells
    → drop (length cells - c) cells ≡ take c wanted
    → ((m : ℕ) → c < m → m < length wanted → m ≤ length cells → drop (length cells - m) cells ≢ take m wanted)
    → ((q : ℕ) → q + k ≤ length cells → window k q cells ≢ wanted)
    → IsLeast k (length cells - c) (cells ++ drop c wanted) wanted
least-overlap k c cells wanted len below within tail longest none =
    let n : ℕ = length cells in
    let rest : List ℕ = drop c wanted in
    let at : ℕ = n - c in
    let whole : drop at (cells ++ rest) ≡ wanted = drop-append-le at cells rest (omega arith) ∙ ap (λ ys. ys ++ rest) tail
    ∙ take-append-drop c wanted in
    record {
      inside = omega (arith, length-append cells rest, length-drop c wanted, len, below, within);
      here = ap (λ ys. take k ys) whole ∙ take_all k wanted (omega (arith, len));
      least = λ q lt e. elim (split (q + k) n) [
        | inl le ↦ none q le (sym (window-append k q cells rest le) ∙ e)
        | inr gt ↦
            let m : ℕ = n - q in
            let lm : length (drop q cells) ≡ m = length-drop q cells in
            let one : take m (window k q (cells ++ rest)) ≡ drop q cells = take-take m k (drop q (cells ++ rest)) (omega (arith, gt, lt))
            ∙ ap (λ ys. take m ys) (drop-append-le q cells rest (omega (arith, lt)))
            ∙ take-append-le m (drop q cells) rest (omega (arith, lm)) ∙ take_all m (drop q cells) (omega (arith, lm)) in
            let back : n - m ≡ q = omega (arith, lt) in
            longest m (omega (arith, lt, within)) (omega (arith, gt, len, lt)) (omega arith)
            (ap (λ i. drop i cells) back ∙ sym one ∙ ap (λ ys. take m ys) e)
      ];
    }
  where
    split : (a b : ℕ) → (a ≤ b) ⊎ (b < a)
    split a b = search arith

module _ (h : List ℕ → ℕ) where
  -- Chains without any list.
  chained-none : (b : ℕ → List ℕ) (heads : List ℕ) → ((i : ℕ) → get_or heads i 0 ≡ 0) → IsChained h b 0 heads []
  chained-none b heads z = record {
    links = refl;
    head_bound = λ i. omega (arith, z i);
    head_all = λ q lt. absurd (omega (arith, lt));
    head_own = λ i p lt e. absurd (omega (arith, z i, e));
    next_bound = λ p lt. absurd (omega (arith, lt));
    next_all = λ p q a lt. absurd (omega (arith, lt));
    next_own = λ p q lt. absurd (omega (arith, lt));
  }

  -- The same lists from another function.
  chained-alike : (b b' : ℕ → List ℕ) (n : ℕ) (heads next : List ℕ) → IsChained h b n heads next → ((p : ℕ) → p < n → b' p ≡ b p)
      → IsChained h b' n heads next
  chained-alike b b' n heads next l e = record {
    links = l.links;
    head_bound = l.head_bound;
    head_all = λ q lt. rw (e q lt) (l.head_all q lt);
    head_own = λ i p lt a. ap h (e p (omega (arith, l.head_bound i, a))) ∙ l.head_own i p lt a;
    next_bound = l.next_bound;
    next_all = λ p q a lt s. l.next_all p q a lt (sym (ap h (e q (omega (arith, a, lt)))) ∙ s ∙ ap h (e p lt));
    next_own = λ p q lt a. ap h (e q (omega (arith, l.next_bound p lt, a, lt))) ∙ l.next_own p q lt a ∙ sym (ap h (e p lt));
  }

  -- List n becomes the head of its chain.
  chained-added : (b : ℕ → List ℕ) (n i : ℕ) (heads next : List ℕ) → IsChained h b n heads next → i ≡ h (b n) → i < length heads
      → IsChained h b (n + 1) (set heads i (n + 1)) (next ++ (get_or heads i 0) ∷ [])
  chained-added b n i heads next l is lt =
      let old : ℕ = get_or heads i 0 in
      let heads' : List ℕ = set heads i (n + 1) in
      let next' : List ℕ = next ++ old ∷ [] in
      let here : (j : ℕ) → ((j ≡ i) × (get_or heads' j 0 ≡ n + 1)) ⊎ ((j ≡ i → ⊥) × (get_or heads' j 0 ≡ get_or heads j 0)) =
      λ j. look j (cases_eq j i) in
      let before : (p : ℕ) → p < n → get_or next' p 0 ≡ get_or next p 0 =
      λ p a. get_or_append_left next (old ∷ []) 0 p (omega (arith, a, l.links)) in
      let newest : get_or next' n 0 ≡ old = get_or_at next old [] 0 n l.links in
      record {
        links = omega (arith, length-append next (old ∷ []), l.links);
        head_bound = λ j. elim (here j) [ inl w ↦ omega (arith, w.1) | inr w ↦ omega (arith, w.1, l.head_bound j) ];
        head_all = λ q a. elim (here (h (b q))) [
          | inl w ↦ omega (arith, w.1, a)
          | inr w ↦ let ne : q ≡ n → ⊥ = λ e. w.0 (ap (λ x. h (b x)) e ∙ sym is) in omega (arith, w.1, l.head_all q (omega (arith, a, ne)))
        ];
        head_own = λ j p a e. elim (here j) [
          | inl w ↦ let same : p ≡ n = omega (arith, w.1, e) in ap (λ x. h (b x)) same ∙ sym is ∙ sym w.0
          | inr w ↦ l.head_own j p (omega (arith, a, length-set heads i (n + 1))) (sym w.1 ∙ e)
        ];
        next_bound = λ p a. elim (cases_eq p n) [
          | inl e ↦ omega (arith, e, newest, ap (λ x. get_or next' x 0) e, l.head_bound i)
          | inr ne ↦ omega (arith, before p (omega (arith, a, ne)), l.next_bound p (omega (arith, a, ne)))
        ];
        next_all = λ p q less a s. elim (cases_eq p n) [
          | inl e ↦
              let own : h (b q) ≡ i = s ∙ ap (λ x. h (b x)) e ∙ sym is in
              omega (arith, newest, ap (λ x. get_or next' x 0) e, l.head_all q (omega (arith, less, e)), ap (λ x. get_or heads x 0) own)
          | inr ne ↦ omega (arith, before p (omega (arith, a, ne)), l.next_all p q less (omega (arith, a, ne)) s)
        ];
        next_own = λ p q a e. elim (cases_eq p n) [
          | inl m ↦ l.head_own i q lt (sym newest ∙ sym (ap (λ x. get_or next' x 0) m) ∙ e) ∙ is ∙ sym (ap (λ x. h (b x)) m)
          | inr ne ↦ l.next_own p q (omega (arith, a, ne)) (sym (before p (omega (arith, a, ne))) ∙ e)
        ];
      }
    where
      look : (j : ℕ) → (j ≡ i) ⊎ (j ≡ i → ⊥) → ((j ≡ i) × (get_or (set heads i (n + 1)) j 0 ≡ n + 1))
          ⊎ ((j ≡ i → ⊥) × (get_or (set heads i (n + 1)) j 0 ≡ get_or heads j 0))
      look j (inl e) = inl (e, ap (λ x. get_or (set heads i (n + 1)) x 0) e ∙ get_or-set_same heads i (n + 1) 0 (omega (arith, lt)))
      look j (inr ne) = inr (ne, get_or-set_other heads i j (n + 1) 0 ne)

-- A table without any window.
pub table-none : (cells : List ℕ) (t : WindowTable) → 0 < t.size → t.leaving ≡ leaving_factor t.size → 0 < length t.heads.items
    → length t.heads.items ≤ 2 ^ 24
    → ((i : ℕ) → get_or t.heads.items i 0 ≡ 0) → t.entered ≡ 0 → t.starts.items ≡ [] → t.next.items ≡ [] → IsTable cells t
table-none cells t pos factor some few zero none starts next =
    let len : length t.starts.items ≡ 0 = ap length starts in
    record {
      some_cells = pos;
      factor = factor;
      some_buckets = some;
      few_buckets = few;
      within = omega (arith, none);
      few = omega (arith, len);
      chained = rw (len, next) (chained-none (bucket (length t.heads.items)) (entry t.size t.starts.items cells) t.heads.items zero);
      below = λ e lt. absurd (omega (arith, lt, len));
      least = λ e lt. absurd (omega (arith, lt, len));
      all = λ q lt. absurd (omega (arith, lt, none));
    }

-- A window that is already in the table.
pub table-again : (cells : List ℕ) (t : WindowTable) (entered : ℕ) → IsTable cells t → entered ≡ t.entered + 1
    → t.entered + t.size ≤ length cells
    → (e : ℕ) × (e < entry_count t) × (entry t.size t.starts.items cells e ≡ window t.size t.entered cells)
    → IsTable cells (record t { entered = entered })
table-again cells t entered l is fits w = record {
  some_cells = l.some_cells;
  factor = l.factor;
  some_buckets = l.some_buckets;
  few_buckets = l.few_buckets;
  within = omega (arith, is, fits);
  few = omega (arith, is, l.few);
  chained = l.chained;
  below = λ e lt. omega (arith, is, l.below e lt);
  least = l.least;
  all = λ q lt. below_more (λ q. (e : ℕ) × (e < entry_count t) × (entry t.size t.starts.items cells e ≡ window t.size q cells)) t.entered
      l.all w q (omega (arith, lt, is));
}

-- A table whose lists of windows were restored.
pub table-restored : (cells : List ℕ) (t u : WindowTable) → u.starts.items ≡ t.starts.items → u.next.items ≡ t.next.items → IsTable cells t
    → IsTable cells (record t { starts = u.starts; next = u.next })
table-restored cells t u s n l = record {
  some_cells = l.some_cells;
  factor = l.factor;
  some_buckets = l.some_buckets;
  few_buckets = l.few_buckets;
  within = l.within;
  few = rw s l.few;
  chained = rw (s, n) l.chained;
  below = rw s l.below;
  least = rw s l.least;
  all = rw s l.all;
}

-- A window that differs from all earlier ones.
pub table-added : (cells : List ℕ) (t t' : WindowTable) (i : ℕ) → IsTable cells t → t'.size ≡ t.size → t'.leaving ≡ t.leaving
    → t'.entered ≡ t.entered + 1
    → t'.starts.items ≡ t.starts.items ++ t.entered ∷ [] → t'.heads.items ≡ set t.heads.items i (entry_count t + 1)
    → t'.next.items ≡ t.next.items ++ (get_or t.heads.items i 0) ∷ []
    → t.entered + t.size ≤ length cells → ((q : ℕ) → q < t.entered → window t.size q cells ≢ window t.size t.entered cells)
    → i ≡ bucket (length t.heads.items) (window t.size t.entered cells) → i < length t.heads.items → IsTable cells t'
table-added cells t t' i l size leaving entered starts heads next fits fresh is lt =
    let k : ℕ = t.size in
    let n : ℕ = t.entered in
    let m : ℕ = entry_count t in
    let h : List ℕ → ℕ = bucket (length t.heads.items) in
    let m' : entry_count t' ≡ m + 1 = omega (arith, ap length starts, length-append t.starts.items (n ∷ [])) in
    let buckets : length t'.heads.items ≡ length t.heads.items = ap length heads ∙ length-set t.heads.items i (m + 1) in
    let old : (e : ℕ) → e < m → get_or t'.starts.items e 0 ≡ get_or t.starts.items e 0 =
    λ e a. ap (λ xs. get_or xs e 0) starts ∙ get_or_append_left t.starts.items (n ∷ []) 0 e a in
    let new : get_or t'.starts.items m 0 ≡ n = ap (λ xs. get_or xs m 0) starts ∙ get_or_at t.starts.items n [] 0 m refl in
    let same : (e : ℕ) → e < m → entry k t'.starts.items cells e ≡ entry k t.starts.items cells e =
    λ e a. ap (λ x. window k x cells) (old e a) in
    let end : entry k t'.starts.items cells m ≡ window k n cells = ap (λ x. window k x cells) new in
    let chain = chained-added h (entry k t'.starts.items cells) m i t.heads.items t.next.items
    (chained-alike h (entry t.size t.starts.items cells) (entry k t'.starts.items cells) m t.heads.items t.next.items l.chained same)
    (is ∙ sym (ap h end)) lt in
    let chain' : IsChained h (entry k t'.starts.items cells) (entry_count t') t'.heads.items t'.next.items = rw (m', heads, next) chain in
    record {
      some_cells = omega (arith, size, l.some_cells);
      factor = leaving ∙ (l.factor ∙ ap leaving_factor (sym size));
      some_buckets = omega (arith, buckets, l.some_buckets);
      few_buckets = omega (arith, buckets, l.few_buckets);
      within = omega (arith, entered, size, fits);
      few = omega (arith, entered, m', l.few);
      chained = subst (λ b. IsChained (bucket b) (entry t'.size t'.starts.items cells) (entry_count t') t'.heads.items t'.next.items)
          (sym buckets)
          (subst (λ k. IsChained h (entry k t'.starts.items cells) (entry_count t') t'.heads.items t'.next.items) (sym size) chain');
      below = λ e a. below_more (λ e. get_or t'.starts.items e 0 < t'.entered) m (λ e a. omega (arith, old e a, l.below e a, entered))
          (omega (arith, new, entered)) e (omega (arith, a, m'));
      least = λ e a. subst (λ k. IsLeast k (get_or t'.starts.items e 0) cells (window k (get_or t'.starts.items e 0) cells)) (sym size)
          (below_more (λ e. IsLeast k (get_or t'.starts.items e 0) cells (window k (get_or t'.starts.items e 0) cells)) m
          (λ e a. subst (λ x. IsLeast k x cells (window k x cells)) (sym (old e a)) (l.least e a))
          (subst (λ x. IsLeast k x cells (window k x cells)) (sym new) (record { inside = fits; here = refl; least = fresh })) e
          (omega (arith, a, m')));
      all = λ q a. subst (λ k. (e : ℕ) × (e < entry_count t') × (entry k t'.starts.items cells e ≡ window k q cells)) (sym size)
          (below_more (λ q. (e : ℕ) × (e < entry_count t') × (entry k t'.starts.items cells e ≡ window k q cells)) n
          (λ q a. let w = l.all q a in (w.0, omega (arith, w.1, m'), same w.0 w.1 ∙ w.2))
          (m, omega (arith, m'), end) q (omega (arith, a, entered)));
    }

-- Cells were appended.
pub table-append : (cells ys : List ℕ) (t : WindowTable) → IsTable cells t → IsTable (cells ++ ys) t
table-append cells ys t l =
    let k : ℕ = t.size in
    let same : (e : ℕ) → e < entry_count t → entry t.size t.starts.items (cells ++ ys) e ≡ entry t.size t.starts.items cells e =
    λ e a. window-append k (get_or t.starts.items e 0) cells ys (l.least e a).inside in
    record {
      some_cells = l.some_cells;
      factor = l.factor;
      some_buckets = l.some_buckets;
      few_buckets = l.few_buckets;
      within = omega (arith, l.within, length-append cells ys);
      few = l.few;
      chained = chained-alike (bucket (length t.heads.items)) (entry t.size t.starts.items cells)
          (entry t.size t.starts.items (cells ++ ys)) (entry_count t) t.heads.items t.next.items l.chained same;
      below = l.below;
      least = λ e a. rw (same e a) (least-append k (get_or t.starts.items e 0) cells ys (entry t.size t.starts.items cells e)
          (l.least e a));
      all = λ q a. let w = l.all q a in
          (w.0, w.1, same w.0 w.1 ∙ w.2 ∙ sym (window-append k q cells ys (omega (arith, a, l.within, l.some_cells))));
    }

-- The bucket of some cells, by their hash.
pub bucket-is : (n i hash : ℕ) (xs : List ℕ) → i ≡ hash / 4294967296 * n / 4294967296 → hash ≡ cells_hash xs → i ≡ bucket n xs
unfolding bucket
bucket-is n i hash xs e h = e ∙ ap (λ x. x / 4294967296 * n / 4294967296) h

-- A part of a slice is a window.
pub part-window : (k at : ℕ) (xs : List ℕ) → take (at + k - at) (drop at xs) ≡ window k at xs
part-window k at xs = let n : at + k - at ≡ k = omega arith in ap (λ m. take m (drop at xs)) n

pub part-tail : (at : ℕ) (xs : List ℕ) → take (length xs - at) (drop at xs) ≡ drop at xs
part-tail at xs = take_all (length xs - at) (drop at xs) (omega (arith, length-drop at xs))

-- All tables stay valid when cells are appended, and when a valid table is added or replaces one.
pub tables-append : (cells ys : List ℕ) (ts : List WindowTable) → AreTables cells ts → AreTables (cells ++ ys) ts
tables-append cells ys ts all i d l = table-append cells ys (get_or ts i d) (all i d l)

pub tables-push : (cells : List ℕ) (ts : List WindowTable) (t : WindowTable) → AreTables cells ts → IsTable cells t
    → AreTables cells (ts ++ t ∷ [])
tables-push cells ts t all here i d l = elim (cases_lt i (length ts)) [
  | inl lt ↦ rw (get_or_append_left ts (t ∷ []) d i lt) (all i d lt)
  | inr ge ↦ rw (get_or_at ts t [] d i (omega (arith, ge, l, length-append ts (t ∷ [])))) here
]

pub tables-set : (cells : List ℕ) (ts : List WindowTable) (i : ℕ) (t : WindowTable) → AreTables cells ts → IsTable cells t
    → AreTables cells (set ts i t)
tables-set cells ts i t all here j d l = elim (cases_eq j i) [
  | inl e ↦ rw (e, get_or-set_same ts i t d (omega (arith, e, l, length-set ts i t))) here
  | inr ne ↦ rw (get_or-set_other ts i j t d ne) (all j d (omega (arith, l, length-set ts i t)))
]
