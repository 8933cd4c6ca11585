-- Cells after an index keep a trie coherent if the null value is unchanged, or if the header names no block
-- of the data.
use Rattle.std.proofs.Common.{◌≡◌, ℕ, ◌+◌, ◌*◌, ◌/◌, ◌%◌, ◌<◌, ◌≤◌, List, ◌++◌, length, slice_get, Option, Some, None, refl, arith, sym, ◌∙◌, ap}
use Rattle.std.specs.Prelude.{true, false, nat_lt, IsSome}
use Rattle.std.specs.Option.{option_and_then}
use Rattle.std.proofs.lemmas.Grind.{common_steps}
use Rattle.std.proofs.lemmas.Option.{slice_get_past}
use Rattle.icu_trie_core.specs.Contents.{contents_of}
use Rattle.icu_trie_core.specs.declared.header.CodePointTrieHeader.{CodePointTrieHeader}
use Rattle.icu_trie_core.specs.Format.{answer, place, fast_limit, fast_offset, small_offset, index2_cell, high_value}
use Rattle.icu_trie_core.specs.Coherence.{IsCoherent, AnswersNull}
use Rattle.icu_trie_core.proofs.CallerLemmas.{fast_answer, small_answer}
use Rattle.icu_trie_binary.proofs.PaddedAnswers.{Keeps, keeps_cell, keeps_small, keeps_index2, keeps_answer}

some_of : {A : Type 0} (o : Option A) → IsSome o → (x : A) × (o ≡ Some x)
some_of None h = cc
some_of (Some x) h = (x, refl)

is_some-kept : {A : Type 0} (o p : Option A) → Keeps o p → IsSome o → IsSome p
is_some-kept o p k s = let x = some_of o s in rw (k x.0 x.1) refl

-- If the first is Some, a value of the second is a value of the first.
back : {A : Type 0} (o p : Option A) (x : A) → Keeps o p → IsSome o → p ≡ Some x → o ≡ Some x
back o p x k s e = let y = some_of o s in y.1 ∙ (sym (k y.0 y.1) ∙ e)

same_kept : {A : Type 0} (o p q : Option A) → Keeps o p → IsSome q → o ≡ q → p ≡ q
same_kept o p q k s e = let x = some_of q s in k x.0 (e ∙ x.1) ∙ sym x.1

not_none : {A : Type 0} (o : Option A) → IsSome o → o ≡ None → ⊥
not_none None s e = cc
not_none (Some x) s e = cc

-- If the whole is Some, its first step is Some.
some_before : {A B : Type 0} (f : A → Option B) (o : Option A) → IsSome (option_and_then f o) → IsSome o
some_before f None s = s
some_before f (Some x) s = refl

module _ {T : Type 0} (of_number : ℕ → Option T) (h g : CodePointTrieHeader) (index behind : List ℕ) (values : List T)
    (same_type : g.trie_type ≡ h.trie_type) (same_start : g.high_start ≡ h.high_start)
    (same_data : g.data_null_offset ≡ h.data_null_offset) (same_index3 : g.index3_null_offset ≡ h.index3_null_offset)
    (good : IsCoherent of_number h (contents_of index values)) where
  kept : (u : ℕ) → Keeps (answer h (contents_of index values) u) (answer g (contents_of (index ++ behind) values) u)
  kept u = keeps_answer index behind h g values u same_type same_start

  -- Below the high start the cells of the index exist.
  some_fast : (u : ℕ) → u < fast_limit h.trie_type → u < h.high_start → IsSome (fast_offset index u)
  unfolding answer
  some_fast u l s =
      let low : nat_lt 0x10FFFF u ≡ false = let w = good.within in grind (arith, common_steps) in
      let fast : nat_lt u (fast_limit h.trie_type) ≡ true = grind (arith, common_steps) in
      let there : IsSome (place h index (length values) u) = some_before (slice_get values) _ (good.inside u s) in
      some_before _ (fast_offset index u) (rw (low, fast) at there)

  some_small : (u : ℕ) → fast_limit h.trie_type ≤ u → u < h.high_start → IsSome (small_offset h.trie_type index u)
  unfolding answer
  some_small u l s =
      let low : nat_lt 0x10FFFF u ≡ false = let w = good.within in grind (arith, common_steps) in
      let far : nat_lt u (fast_limit h.trie_type) ≡ false = grind (arith, common_steps) in
      let below : nat_lt u h.high_start ≡ true = grind (arith, common_steps) in
      let there : IsSome (place h index (length values) u) = some_before (slice_get values) _ (good.inside u s) in
      some_before _ (small_offset h.trie_type index u) (rw (low, far, below) at there)

  some_index2 : (u : ℕ) → fast_limit h.trie_type ≤ u → u < h.high_start → IsSome (index2_cell h.trie_type index u)
  unfolding small_offset
  some_index2 u l s = some_before _ (index2_cell h.trie_type index u) (some_small u l s)

  -- A block that is named as null with the cells after the index is named as null without them.
  named_64 : (b : ℕ) → b * 64 < fast_limit g.trie_type → b * 64 < g.high_start
      → fast_offset (index ++ behind) (b * 64) ≡ Some g.data_null_offset
      → (b * 64 < fast_limit h.trie_type) × (b * 64 < h.high_start) × (fast_offset index (b * 64) ≡ Some h.data_null_offset)
  named_64 b fast below named =
      let f : b * 64 < fast_limit h.trie_type = rw same_type at fast in
      let l : b * 64 < h.high_start = rw same_start at below in
      (f, l, back _ _ _ (keeps_cell index behind (b * 64 / 64)) (some_fast (b * 64) f l) (named ∙ ap Some same_data))

  named_16 : (b : ℕ) → fast_limit g.trie_type ≤ b * 16 → b * 16 < g.high_start
      → small_offset g.trie_type (index ++ behind) (b * 16) ≡ Some g.data_null_offset
      → (fast_limit h.trie_type ≤ b * 16) × (b * 16 < h.high_start) × (small_offset h.trie_type index (b * 16) ≡ Some h.data_null_offset)
  named_16 b far below named =
      let f : fast_limit h.trie_type ≤ b * 16 = rw same_type at far in
      let l : b * 16 < h.high_start = rw same_start at below in (
        f,
        l,
        back _ _ _ (keeps_small index behind h.trie_type (b * 16)) (some_small (b * 16) f l)
            ((rw same_type at named) ∙ ap Some same_data),
      )

  named_512 : (b : ℕ) → fast_limit g.trie_type ≤ b * 512 → b * 512 < g.high_start
      → index2_cell g.trie_type (index ++ behind) (b * 512) ≡ Some g.index3_null_offset
      → (fast_limit h.trie_type ≤ b * 512) × (b * 512 < h.high_start)
      × (index2_cell h.trie_type index (b * 512) ≡ Some h.index3_null_offset)
  named_512 b far below named =
      let f : fast_limit h.trie_type ≤ b * 512 = rw same_type at far in
      let l : b * 512 < h.high_start = rw same_start at below in (
        f,
        l,
        back _ _ _ (keeps_index2 index behind h.trie_type (b * 512)) (some_index2 (b * 512) f l)
            ((rw same_type at named) ∙ ap Some same_index3),
      )

  high_kept : (c : ℕ) → g.high_start ≤ c → c < 0x110000
      → (answer g (contents_of (index ++ behind) values) c ≡ high_value values) × IsSome (high_value values)
  high_kept c from below =
      let both = good.high c (rw same_start at from) below in
      (same_kept _ _ _ (kept c) both.1 both.0, both.1)

  inside_kept : (c : ℕ) → c < g.high_start → IsSome (answer g (contents_of (index ++ behind) values) c)
  inside_kept c below = is_some-kept _ _ (kept c) (good.inside c (rw same_start at below))

  module _ (same_null : g.null_value ≡ h.null_value) (valued : IsSome (of_number h.null_value)) where
    null_kept : (k b : ℕ) → AnswersNull of_number h (contents_of index values) k b
        → AnswersNull of_number g (contents_of (index ++ behind) values) k b
    null_kept k b n i l = same_kept _ _ _ (kept (b * k + i)) (rw same_null valued) (n i l ∙ ap of_number (sym same_null))

    pub coherent-padded : IsCoherent of_number g (contents_of (index ++ behind) values)
    coherent-padded = record {
      aligned = rw same_start good.aligned;
      within = rw same_start good.within;
      high = high_kept;
      inside = inside_kept;
      null_64 = λ b fast below named.
          let n = named_64 b fast below named in
          null_kept 64 b (good.null_64 b n.0 n.1 n.2);
      null_16 = λ b far below named.
          let n = named_16 b far below named in
          null_kept 16 b (good.null_16 b n.0 n.1 n.2);
      null_512 = λ b far below named.
          let n = named_512 b far below named in
          null_kept 512 b (good.null_512 b n.0 n.1 n.2);
    }

  -- The header names no block of the data, and no block of 512 is named as null.
  module _ (far : length values ≤ h.data_null_offset)
      (no_512 : (b : ℕ) → fast_limit h.trie_type ≤ b * 512 → b * 512 < h.high_start
      → index2_cell h.trie_type index (b * 512) ≡ Some h.index3_null_offset → ⊥) where
    past : (r : ℕ) → slice_get values (h.data_null_offset + r) ≡ None
    past r = slice_get_past values (h.data_null_offset + r) (omega (arith, far))

    within_space : (u : ℕ) → u < h.high_start → u < 0x110000
    within_space u l = omega (arith, l, good.within)

    no_64 : (b : ℕ) → b * 64 < fast_limit h.trie_type → b * 64 < h.high_start → fast_offset index (b * 64) ≡ Some h.data_null_offset → ⊥
    no_64 b l s is =
        not_none _ (good.inside (b * 64) s)
        (fast_answer h index values (b * 64) h.data_null_offset (within_space (b * 64) s) l is ∙ past (b * 64 % 64))

    no_16 : (b : ℕ) → fast_limit h.trie_type ≤ b * 16 → b * 16 < h.high_start
        → small_offset h.trie_type index (b * 16) ≡ Some h.data_null_offset → ⊥
    no_16 b l s is =
        not_none _ (good.inside (b * 16) s)
        (small_answer h index values (b * 16) h.data_null_offset (within_space (b * 16) s) l s is ∙ past (b * 16 % 16))

    pub coherent-far : IsCoherent of_number g (contents_of (index ++ behind) values)
    coherent-far = record {
      aligned = rw same_start good.aligned;
      within = rw same_start good.within;
      high = high_kept;
      inside = inside_kept;
      null_64 = λ b fast below named.
          let n = named_64 b fast below named in
          absurd (no_64 b n.0 n.1 n.2);
      null_16 = λ b low below named.
          let n = named_16 b low below named in
          absurd (no_16 b n.0 n.1 n.2);
      null_512 = λ b low below named.
          let n = named_512 b low below named in
          absurd (no_512 b n.0 n.1 n.2);
    }
