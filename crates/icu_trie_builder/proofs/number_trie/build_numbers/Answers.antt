use Rattle.std.proofs.Common.{rules, ◌≡◌, ℕ, ◌≤◌, length, Err, get_or, arith, ap, inl}
use Rattle.icu_trie_core.specs.declared.header.CodePointTrieHeader.{CodePointTrieHeader}
use Rattle.icu_trie_builder.specs.Bounds.{compact_data_bound}
use Rattle.icu_trie_builder.specs.Inside.Data.{IsData}
use Rattle.icu_trie_builder.specs.NullBlock.{HasDefaultNull}
use Rattle.icu_trie_builder.specs.Inside.Index.Layout.{IsIndex, IsNullIndex}
use Rattle.icu_trie_builder.specs.declared.error.BuildError.TheVariants.{TooLarge}
use Rattle.icu_trie_builder.proofs.Answering.{answers, coherent, shared, few_offsets, few_all, small_low, fast_within, names_no_null, names_null, names_null_index, fast_index_len-limit}
use Rattle.icu_trie_builder.proofs.IndexLemmas.Laying.{parts}
use Rattle.icu_trie_builder.proofs.DrawnLemmas.{all-drawn}
use Rattle.icu_trie_builder.proofs.Sizes.{lone_blocks-le}
use Rattle.icu_trie_builder.proofs.number_trie.build_numbers.Goals as goal

pub returns-in_err-built-clause-too_large : goal.returns-in_err-built-clause-too_large
returns-in_err-built-clause-too_large c = λ e.
    let is : c.in_err-built.field-0.0 ≡ TooLarge = search rules in
    let high = c.high_start-high_start in
    let fast = c.in_ok-values.field-0.fast.items in
    let small = c.in_ok-values.field-0.small.items in
    let null = c.in_ok-values.field-0.null in
    let held : c.deref-2.result.now ≡ small = search rules in
    let t = rw held at (c.in_err-built.ensures.too_large (ap (λ x. Err x) is)) in
    let limit = parts c.args.trie_type in
    inl (omega (
      arith,
      t,
      limit.2,
      high.ensures.within,
      few_all c.args.trie_type high.result null.offset null.value (λ n. get_or c.args.numbers.now n 0) fast small
          c.in_ok-values.field-0.values.items high.ensures.aligned high.ensures.within c.in_ok-values.ensures.placed,
    ))

pub returns-clause-null_default : goal.returns-clause-null_default
unfolding HasDefaultNull
returns-clause-null_default c = c.in_ok-values.ensures.null_default

pub returns-clause-built : goal.returns-clause-built
returns-clause-built c =
    let trie_type = c.args.trie_type in
    let numbers = c.args.numbers.now in
    let f : ℕ → ℕ = λ n. get_or numbers n 0 in
    let high = c.high_start-high_start in
    let fast = c.in_ok-values.field-0.fast.items in
    let small = c.in_ok-values.field-0.small.items in
    let values = c.in_ok-values.field-0.values.items in
    let null = c.in_ok-values.field-0.null in
    let index = c.in_ok-built.built.cells.items in
    let header : CodePointTrieHeader = record {
      high_start = high.result;
      shifted12_high_start = c.div_ceil.result;
      index3_null_offset =
          c.in_ok-built.built.null_offset;
      data_null_offset = null.offset;
      null_value = null.value;
      trie_type = trie_type;
    } in
    let whole : length numbers ≡ 0x110000 = search rules in
    let held : c.deref.result.now ≡ fast = search rules in
    let held2 : c.deref-2.result.now ≡ small = search rules in
    let aligned = high.ensures.aligned in
    let within = high.ensures.within in
    let placed : IsData trie_type high.result null.offset null.value f fast small values = c.in_ok-values.ensures.placed in
    let laid : IsIndex trie_type high.result fast small index = rw (← held, ← held2) c.in_ok-built.ensures.index in
    let cells : IsNullIndex trie_type high.result null.offset small index header.index3_null_offset =
    rw (← held2) c.in_ok-built.ensures.null in
    let short = rw held2 at c.in_ok-built.ensures.short in
    let tight = rw held2 at c.in_ok-built.ensures.tight in
    let compact : length values ≤ compact_data_bound trie_type f = c.in_ok-values.ensures.short in
    record {
      answers = answers header f fast small index values aligned within laid placed;
      error_value = c.in_ok-values.ensures.error_value;
      fast_index = omega (arith, laid.longer, placed.fast_len, fast_index_len-limit trie_type);
      fast_data = fast_within header f fast small index values aligned within laid placed;
      well_built = record {
        header = record { aligned = aligned; within = within; shifted = omega (arith, c.div_ceil.ensures) };
        coherent = coherent header f fast small index values aligned within laid placed cells;
        shared = shared header f fast small index values aligned within laid placed;
        drawn = all-drawn numbers values c.args.error whole c.in_ok-values.ensures.error_value c.in_ok-values.ensures.drawn;
        data_cells = omega (arith, compact, lone_blocks-le trie_type f);
        index_cells =
            omega (arith, short, few_offsets trie_type high.result null.offset null.value f fast small values aligned within placed);
        compact_data = compact;
        null_block = names_null header f fast small index values aligned within laid placed;
        no_null_block = names_no_null header f fast small index values aligned within laid placed;
        null_index = names_null_index header f fast small index values aligned within laid placed cells;
        tight = λ small_data. omega (
          arith,
          tight (small_low trie_type high.result null.offset null.value f fast small values aligned within placed
              (omega (arith, compact, small_data))),
          few_offsets trie_type high.result null.offset null.value f fast small values aligned within placed,
        );
      };
    }
