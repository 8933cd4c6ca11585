use Rattle.std.proofs.Common.{rules, ◌≡◌, ℕ, ◌+◌, ◌-◌, ◌*◌, ◌/◌, ◌≤◌, ◌∷◌, Err, Some, Bool, List, length, get_or, take, arith, ap, sym, subst, ◌∙◌, inl, inr}
use Rattle.std.specs.List.{AllPass}
use Rattle.std.proofs.lemmas.List.{length-take}
use Rattle.icu_trie_core.specs.Blocks.{block, block_of, count_different}
use Rattle.icu_trie_core.specs.Format.{fast_limit}
use Rattle.icu_trie_builder.specs.Bounds.{stands_below}
use Rattle.icu_trie_builder.specs.Inside.Data.{IsData}
use Rattle.icu_trie_builder.specs.Inside.FilledBlocks.{IsMoved, IsNull}
use Rattle.icu_trie_builder.specs.Inside.Index.Layout.{AllBelow}
use Rattle.icu_trie_builder.specs.Different.{count_different_but}
use Rattle.icu_trie_builder.specs.Inside.Compaction.Placed.{IsCopied, IsPlaced}
use Rattle.icu_trie_builder.specs.declared.error.BuildError.TheVariants.{TooLarge}
use Rattle.icu_trie_builder.proofs.DataLemmas.{fast_len, fast_one, fast_two, fast_three, small_three, fast_shared, small_shared, first_len, fast_cells, offsets_low, two-drawn, null-cases, null-number, NullOrNone, is_data, written-back}
use Rattle.icu_trie_builder.proofs.CompactionLemmas.Different.{count_different-le_count}
use Rattle.icu_trie_builder.proofs.IndexLemmas.Laying.{parts}
use Rattle.icu_trie_builder.proofs.Sizes.{fast_blocks-list, stands-found, lone_blocks-list, small_blocks-all}
use Rattle.icu_trie_builder.proofs.data.place_data.Goals as goal

pub new-store-requires : goal.new-store-requires
new-store-requires c = omega (arith, first_len c.args.numbers.now c.copy_block.new.room.items c.requires.all c.in_ok-copy_block.ensures)

pub place-requires-clause-room : goal.place-requires-clause-room
place-requires-clause-room c = omega
    (arith, first_len c.args.numbers.now c.new-store.result c.requires.all (c.new-store.ensures ∙ c.in_ok-copy_block.ensures))

pub place-requires-clause-blocks : goal.place-requires-clause-blocks
place-requires-clause-blocks c = record {
  some = omega arith;
  multiple = omega arith;
  range = omega (arith, c.fast_limit-limit.ensures.limit, (parts c.args.trie_type).2);
  whole = c.requires.all;
}

pub place-requires-2-clause-blocks : goal.place-requires-2-clause-blocks
place-requires-2-clause-blocks c = record {
  some = omega arith;
  multiple = omega arith;
  range = omega (
    arith,
    c.fast_limit-limit.ensures.limit,
    (parts c.args.trie_type).2,
    c.saturating_sub-small_len.ensures,
    c.requires.within,
  );
  whole = c.requires.all;
}

pub returns-in_err-rest-clause-too_large : goal.returns-in_err-rest-clause-too_large
returns-in_err-rest-clause-too_large c = λ e.
    let is : c.in_err-rest.field-0.0 ≡ TooLarge = search rules in
    let t = c.args.trie_type in
    let L : ℕ = fast_limit t in
    let numbers = c.args.numbers.now in
    let limit : c.fast_limit-limit.result ≡ L = c.fast_limit-limit.ensures.limit in
    let size = parts t in
    let first = c.new-store.result in
    let begin : first ≡ take 128 numbers = c.new-store.ensures ∙ c.in_ok-copy_block.ensures in
    let first_is : length first ≡ 128 = first_len numbers first c.requires.all begin in
    let large = rw limit at (c.in_err-rest.ensures.too_large (ap (λ x. Err x) is)) in
    absurd (omega (arith, large, first_is, size.2, count_different-le_count (block 64 numbers) 2 (L / 64 - 2)))

pub place-requires-2-clause-room : goal.place-requires-2-clause-room
place-requires-2-clause-room c =
    omega (
      arith,
      c.in_ok-rest.ensures.capped,
      first_len c.args.numbers.now c.new-store.result c.requires.all (c.new-store.ensures ∙ c.in_ok-copy_block.ensures),
    )

pub returns-in_err-small-clause-too_large : goal.returns-in_err-small-clause-too_large
returns-in_err-small-clause-too_large c = λ e.
    let is : c.in_err-small.field-0.0 ≡ TooLarge = search rules in
    let t = c.args.trie_type in
    let numbers = c.args.numbers.now in
    let limit : c.fast_limit-limit.result ≡ fast_limit t = c.fast_limit-limit.ensures.limit in
    let one = fast_cells t numbers c.new-store.result c.place.new.store c.requires.all (c.new-store.ensures ∙ c.in_ok-copy_block.ensures)
    (rw limit at c.in_ok-rest.ensures.short) in
    let count : c.saturating_sub-small_len.result ≡ c.args.high_start - fast_limit t =
    c.saturating_sub-small_len.ensures ∙ ap (λ n. c.args.high_start - n) limit in
    let large = rw (count, limit) at (c.in_err-small.ensures.too_large (ap (λ x. Err x) is)) in
    inr (omega (arith, large, one, small_blocks-all t numbers c.requires.all c.args.high_start c.requires.within))

pub place_null-requires-clause-room : goal.place_null-requires-clause-room
place_null-requires-clause-room c = omega (
  arith,
  ap length c.into_cells-values.ensures,
  c.in_ok-small.ensures.capped,
  c.in_ok-rest.ensures.capped,
  first_len c.args.numbers.now c.new-store.result c.requires.all (c.new-store.ensures ∙ c.in_ok-copy_block.ensures),
)

pub place_null-requires-clause-fast : goal.place_null-requires-clause-fast
place_null-requires-clause-fast c =
    let t = c.args.trie_type in
    let L : ℕ = fast_limit t in
    let numbers = c.args.numbers.now in
    let limit : c.fast_limit-limit.result ≡ L = c.fast_limit-limit.ensures.limit in
    let first = c.new-store.result in
    let begin : first ≡ take 128 numbers = c.new-store.ensures ∙ c.in_ok-copy_block.ensures in
    let one = c.place.new.store in
    let rest = c.in_ok-rest.rest.items in
    let p : IsPlaced 64 2 (block 64 numbers) first one rest = c.in_ok-rest.ensures.placed in
    let rest_len : length rest ≡ L / 64 - 2 = omega (arith, c.in_ok-rest.ensures.count, limit) in
    let fast = c.in_ok-fast.fast.items in
    let list : fast ≡ 0 ∷ 64 ∷ rest = c.in_ok-fast.ensures ∙ ap (λ r. 0 ∷ 64 ∷ r) c.deref.ensures.value in
    let two = c.into_cells-values.result.items in
    let old = c.in_ok-small.small.items in
    let count : c.saturating_sub-small_len.result ≡ c.args.high_start - L =
    c.saturating_sub-small_len.ensures ∙ ap (λ n. c.args.high_start - n) limit in
    let q : IsPlaced 16 (L / 16) (block 16 numbers) one two old =
    subst (λ xs. IsPlaced 16 (L / 16) (block 16 numbers) one xs old) (sym c.into_cells-values.ensures)
    (rw limit at c.in_ok-small.ensures.placed) in
    let old_len : length old ≡ (c.args.high_start - L) / 16 = c.in_ok-small.ensures.count ∙ ap (λ n. n / 16) count in
    rw c.deref-2.ensures.value (fast_two t c.args.high_start numbers first one two rest fast old c.requires.all begin p rest_len list q
    old_len).inside

pub returns-in_err-null-clause-too_large : goal.returns-in_err-null-clause-too_large
returns-in_err-null-clause-too_large c = λ e.
    let is : c.in_err-null.field-0.0 ≡ TooLarge = search rules in
    let t = c.args.trie_type in
    let numbers = c.args.numbers.now in
    let limit : c.fast_limit-limit.result ≡ fast_limit t = c.fast_limit-limit.ensures.limit in
    let one = fast_cells t numbers c.new-store.result c.place.new.store c.requires.all (c.new-store.ensures ∙ c.in_ok-copy_block.ensures)
    (rw limit at c.in_ok-rest.ensures.short) in
    let count : c.saturating_sub-small_len.result ≡ c.args.high_start - fast_limit t =
    c.saturating_sub-small_len.ensures ∙ ap (λ n. c.args.high_start - n) limit in
    let two = rw (count, limit) at c.in_ok-small.ensures.short in
    let held = ap length c.into_cells-values.ensures in
    let large = c.in_err-null.ensures.too_large (ap (λ x. Err x) is) in
    inr (omega (arith, large, held, two, one, small_blocks-all t numbers c.requires.all c.args.high_start c.requires.within))

pub finish-requires : goal.finish-requires
finish-requires c =
    let first = c.new-store.result in
    let one = c.place.new.store in
    let two = c.place-2.new.store in
    let three = c.place_null.new.stored.items in
    omega (
      arith,
      first_len c.args.numbers.now first c.requires.all (c.new-store.ensures ∙ c.in_ok-copy_block.ensures),
      ap length c.in_ok-rest.ensures.placed.kept,
      length-take (length first) one,
      ap length c.in_ok-small.ensures.placed.kept,
      length-take (length one) two,
      ap length c.into_cells-values.ensures,
      ap length c.in_ok-null.ensures.kept,
      length-take (length c.into_cells-values.result.items) three,
    )

-- The cells and offsets once the null block is placed, and what is known about them.
module _ (c : goal.After-drop-rest-2) where
  abbrev limit_at : ℕ
  limit_at = fast_limit c.args.trie_type

  abbrev numbers : List ℕ
  numbers = c.args.numbers.now

  abbrev first : List ℕ
  first = c.new-store.result

  abbrev one : List ℕ
  one = c.place.new.store

  abbrev rest : List ℕ
  rest = c.in_ok-rest.rest.items

  abbrev fast : List ℕ
  fast = c.in_ok-fast.fast.items

  abbrev two : List ℕ
  two = c.into_cells-values.result.items

  abbrev old : List ℕ
  old = c.in_ok-small.small.items

  abbrev three : List ℕ
  three = c.place_null.new.stored.items

  abbrev small : List ℕ
  small = c.place_null.new.small

  limit : c.fast_limit-limit.result ≡ limit_at
  limit = c.fast_limit-limit.ensures.limit

  begin : first ≡ take 128 numbers
  begin = c.new-store.ensures ∙ c.in_ok-copy_block.ensures

  placed-fast : IsPlaced 64 2 (block 64 numbers) first one rest
  placed-fast = c.in_ok-rest.ensures.placed

  rest_len : length rest ≡ limit_at / 64 - 2
  rest_len = omega (arith, c.in_ok-rest.ensures.count, limit)

  len_one : length one ≤ 128 + 64 * count_different (block 64 numbers) 2 (limit_at / 64 - 2)
  len_one =
      let short : length one ≤ length first + 64 * count_different (block 64 numbers) 2 (limit_at / 64 - 2) =
      rw limit at c.in_ok-rest.ensures.short in
      omega (arith, first_len numbers first c.requires.all begin, short)

  list : fast ≡ 0 ∷ 64 ∷ rest
  list = c.in_ok-fast.ensures ∙ ap (λ r. 0 ∷ 64 ∷ r) c.deref.ensures.value

  count : c.saturating_sub-small_len.result ≡ c.args.high_start - limit_at
  count = c.saturating_sub-small_len.ensures ∙ ap (λ n. c.args.high_start - n) limit

  placed-small : IsPlaced 16 (limit_at / 16) (block 16 numbers) one two old
  placed-small = subst (λ xs. IsPlaced 16 (limit_at / 16) (block 16 numbers) one xs old) (sym c.into_cells-values.ensures)
      (rw limit at c.in_ok-small.ensures.placed)

  old_len : length old ≡ (c.args.high_start - limit_at) / 16
  old_len = c.in_ok-small.ensures.count ∙ ap (λ n. n / 16) count

  moved : IsMoved two three old small
  moved = rw c.deref_mut.ensures.value at c.in_ok-null.ensures.moved

  null_is : NullOrNone fast small three c.null_or.result.offset c.null_or.result.value
  null_is =
      let offset : ℕ = c.null_or.result.offset in
      let value : ℕ = c.null_or.result.value in
      let held : c.deref-2.result.now ≡ fast = c.deref-2.ensures.value in
      let cases = null-cases c.deref-2.result.now small three c.args.default c.in_ok-null.null c.null_or.result c.in_ok-null.ensures.null
      c.in_ok-null.ensures.none c.null_or.ensures in
      let is : NullOrNone c.deref-2.result.now small three offset value = elim cases [ inl n ↦ inl n | inr none ↦ inr (none.0, none.1) ] in
      subst (λ os. NullOrNone os small three offset value) held is

  low : AllBelow 0x10000 fast
  low = offsets_low c.args.trie_type numbers first one rest fast c.requires.all begin placed-fast rest_len list len_one

  small_low : AllBelow 0x40000 small
  small_low =
      let few = count_different-le_count (block 64 numbers) 2 (limit_at / 64 - 2) in
      let size = parts c.args.trie_type in
      let len_two : length two ≤ 0x3ffff + 16 =
      omega (arith, ap length c.into_cells-values.ensures, c.in_ok-small.ensures.capped, len_one, few, size.2) in
      λ j l. omega (arith, moved.inside j l, c.in_ok-null.ensures.capped, len_two)

  fast_whole : IsCopied 64 0 (block 64 numbers) three fast
  fast_whole = fast_three c.args.trie_type c.args.high_start numbers first one two three rest fast old small c.requires.all begin
      placed-fast rest_len list placed-small old_len c.in_ok-null.ensures.kept moved

  drawn_null : (test : ℕ → Bool) → AllPass test numbers → AllPass test three
  drawn_null test pass = c.in_ok-null.ensures.drawn test
      (two-drawn c.args.trie_type c.args.high_start numbers first one two rest fast old c.requires.all begin placed-fast rest_len list
      placed-small old_len test pass)

pub returns-clause-placed : goal.returns-clause-placed
returns-clause-placed c =
    let t = c.args.trie_type in
    let high = c.args.high_start in
    let value : ℕ = c.null_or.result.value in
    let offset : ℕ = c.null_or.result.offset in
    let values = c.finish.new.values.items in
    let end = c.in_ok-finish.ensures in
    let m = moved c in
    let whole = is_data t high (numbers c) (three c) values (fast c)
    (small c) c.requires.all c.requires.aligned c.requires.within c.requires.high
    (fast_whole c) (fast_len t (numbers c) (first c) (one c) (rest c) (fast c) c.requires.all (begin c) (placed-fast c) (rest_len c)
    (list c))
    (small_three t high (numbers c) (first c) (one c) (two c) (three c) (rest c) (fast c) (old c) (small c) c.requires.all (begin c)
    (placed-fast c) (rest_len c) (list c) (placed-small c) (old_len c) c.in_ok-null.ensures.kept m)
    (m.count ∙ old_len c) end.kept (λ below. end.high below ∙ ap (λ x. Some x) c.last.ensures)
    offset value (null_is c) (low c) (small_low c)
    (fast_shared t high (numbers c) (first c) (one c) (two c) (three c) (rest c) (fast c) (old c) (small c) c.requires.all (begin c)
    (placed-fast c) (rest_len c) (list c) (placed-small c) (old_len c) c.in_ok-null.ensures.kept m)
    (small_shared t high (numbers c) (first c) (one c) (two c) (three c) (rest c) (fast c) (old c) (small c) c.requires.all (begin c)
    (placed-fast c) (rest_len c) (list c) (placed-small c) (old_len c) c.in_ok-null.ensures.kept m) in
    let full : c.in_ok-small.small.len ≡ length (old c) = search rules in
    subst (λ os. IsData t high offset value (λ n. get_or (numbers c) n 0) (fast c) os values)
    (sym (written-back c.in_ok-small.small.len (old c) (small c) full m.count)) whole

pub returns-clause-null_fit : goal.returns-clause-null_fit
returns-clause-null_fit c = elim (null_is c) [
  | inl n ↦ elim n.used [ inl w ↦ omega (arith, low c w.0 w.1, w.2) | inr w ↦ omega (arith, small_low c w.0 w.1, w.2) ]
  | inr none ↦ omega (arith, none.1)
]

pub returns-clause-null_default : goal.returns-clause-null_default
returns-clause-null_default c = λ never.
    let held : c.deref-2.result.now ≡ fast c = c.deref-2.ensures.value in
    let offset : ℕ = c.null_or.result.offset in
    let value : ℕ = c.null_or.result.value in
    let none = (returns-clause-placed c).no_null never in
    let cases = null-cases c.deref-2.result.now (small c)
    (three c) c.args.default c.in_ok-null.null c.null_or.result c.in_ok-null.ensures.null c.in_ok-null.ensures.none
    c.null_or.ensures in
    elim cases [
      | inl n ↦
          let used = (subst (λ os. IsNull os (small c) (three c) offset value) held n).used in
          absurd (elim used [
            | inl w ↦ omega (arith, none, low c w.0 w.1, w.2)
            | inr w ↦ omega (arith, none, small_low c w.0 w.1, w.2)
          ])
      | inr without ↦ without.2
    ]

pub returns-clause-null_drawn : goal.returns-clause-null_drawn
returns-clause-null_drawn c = λ test pass end.
    let offset : ℕ = c.null_or.result.offset in
    let value : ℕ = c.null_or.result.value in
    let held : c.deref-2.result.now ≡ fast c = c.deref-2.ensures.value in
    let cases = null-cases c.deref-2.result.now (small c)
    (three c) c.args.default c.in_ok-null.null c.null_or.result c.in_ok-null.ensures.null c.in_ok-null.ensures.none
    c.null_or.ensures in
    elim cases [
      | inl n ↦
          let here = null-number (fast c) (small c) (three c) offset value (subst (λ os. IsNull os (small c) (three c) offset value) held n)
          (fast_whole c).inside (moved c).inside in
          ap test (sym here.1) ∙ drawn_null c test pass offset 0 here.0
      | inr none ↦ ap test none.2 ∙ end
    ]

pub returns-clause-short : goal.returns-clause-short
returns-clause-short c =
    let t = c.args.trie_type in
    let all = c.requires.all in
    let stand = stands-found t (numbers c) all (one c) (fast c)
    (fast_one t (numbers c) (first c) (one c) (rest c) (fast c) all (begin c) (placed-fast c) (rest_len c) (list c))
    (fast_len t (numbers c) (first c) (one c) (rest c) (fast c) all (begin c) (placed-fast c) (rest_len c) (list c)) in
    let lone : List ℕ → Bool = stands_below (block_of 64 (λ n. get_or (numbers c) n 0)) (fast_limit t / 64) in
    let raw = c.in_ok-small.ensures.shorter lone stand in
    let from = subst (λ n. length c.place-2.new.store ≤ length (one c) + 16 * count_different_but lone (block 16 (numbers c)) (n / 16)
    (c.saturating_sub-small_len.result / 16)) (limit c) raw in
    let shorter = subst (λ n. length c.place-2.new.store
    ≤ length (one c) + 16 * count_different_but lone (block 16 (numbers c)) (fast_limit t / 16)
    (n / 16)) (count c) from in
    omega (
      arith,
      len_one c,
      ap length c.into_cells-values.ensures,
      shorter,
      c.in_ok-null.ensures.short,
      lone_blocks-list t (numbers c) all c.args.high_start c.requires.within,
      fast_blocks-list t (numbers c) all,
      c.in_ok-finish.ensures.short,
    )

pub returns-clause-drawn : goal.returns-clause-drawn
returns-clause-drawn c = λ test pass end.
    c.in_ok-finish.ensures.drawn test (drawn_null c test pass)
    (ap test c.last.ensures ∙ pass 0x10ffff 0 (omega (arith, c.requires.all))) end
