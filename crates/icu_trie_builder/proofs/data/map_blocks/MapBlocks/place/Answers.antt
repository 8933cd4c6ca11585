use Rattle.std.proofs.Common.{rules, ◌≡◌, ◌+◌, ◌-◌, ◌*◌, ◌<◌, ◌≤◌, ℕ, ◌++◌, Err, List, length, take, replicate, arith, ap, ◌∙◌}
use Rattle.std.proofs.lemmas.List.{take_all}
use Rattle.icu_zerovec.specs.CodePoints.{code_point_limit}
use Rattle.icu_trie_builder.specs.Inside.MapBlocks.{HasBlocks, numbers_of}
use Rattle.icu_trie_builder.specs.declared.data.map_blocks.MapBlocks.{MapBlocks}
use Rattle.icu_trie_builder.specs.declared.error.BuildError.TheVariants.{TooLarge}
use Rattle.icu_trie_builder.proofs.CompactionLemmas.Compacting.{compacting-run, compacting-done, compacting-short, compacting-full}
use Rattle.icu_trie_builder.proofs.CompactionLemmas.Windows.{length-window, times-below}
use Rattle.icu_trie_builder.proofs.data.map_blocks.MapBlocks.place.Goals as goal

-- A block of the range is within the map, and has its length.
within : (b : MapBlocks) (first j count : ℕ) → HasBlocks b (first + count) → j < count
    → (b.size ≤ code_point_limit) × (length (numbers_of b (first + j)) ≡ b.size)
within b first j count has lt =
    let fits = times-below b.size (first + j) (first + count) (omega (arith, lt)) in (
      omega (arith, fits, has.range),
      length-window b.size (b.size * (first + j)) b.map.now (omega (arith, fits, has.range, has.whole)),
    )

-- Resizing a list of n numbers to n + m appends m copies of the value.
resized : (xs ys : List ℕ) (n m len v : ℕ) → length xs ≡ n → len ≡ n → ys ≡ take (n + m) xs ++ replicate (n + m - len) v → ys ≡ xs ++ replicate m v
resized xs ys n m len v e l is =
    is ∙ ap (λ zs. zs ++ replicate (n + m - len) v) (take_all (n + m) xs (omega (arith, e))) ∙ ap (λ k. xs ++ replicate k v) (omega (arith, l))

pub place-requires-clause-some : goal.place-requires-clause-some
place-requires-clause-some c =
    let w = within c.args.self.now _ c.loop-j.j _ c.requires.blocks (omega arith) in
    omega (arith, ap length (c.deref.ensures.value ∙ c.in_ok-copy_block.ensures), w.1, c.requires.blocks.some)

pub place-requires-clause-limit : goal.place-requires-clause-limit
place-requires-clause-limit c =
    let w = within c.args.self.now _ c.loop-j.j _ c.requires.blocks (omega arith) in
    omega (arith, ap length (c.deref.ensures.value ∙ c.in_ok-copy_block.ensures), w.1, w.0)

pub returns-in_err-offset-clause-too_large : goal.returns-in_err-offset-clause-too_large
returns-in_err-offset-clause-too_large c = λ e.
    let is : c.in_err-offset.field-0.0 ≡ TooLarge = search rules in
    let w = within c.args.self.now _ c.loop-j.j _ c.requires.blocks (omega arith) in
    let t = rw (c.deref.ensures.value ∙ c.in_ok-copy_block.ensures) at (c.in_err-offset.ensures.too_large (ap (λ x. Err x) is)) in
    compacting-full _ _ _ _ _ _ _ c.loop-j.invariant.placed c.requires.blocks.some w.1
    c.args.count 0x3ffff (omega arith) t.1 t.0

pub overflow_cast-offset : goal.overflow_cast-offset
overflow_cast-offset c =
    let w = within c.args.self.now _ c.loop-j.j _ c.requires.blocks (omega arith) in
    let placed = rw (c.deref.ensures.value ∙ c.in_ok-copy_block.ensures) at c.in_ok-offset.ensures.placed in
    omega (arith, placed.least.inside, placed.capped, c.loop-j.invariant.capped, w.0, w.1, c.requires.room)

pub loop-j-preserved : goal.loop-j-preserved
loop-j-preserved c =
    let v = c.loop-j.invariant in
    let w = within c.args.self.now _ c.loop-j.j _ c.requires.blocks (omega arith) in
    let placed = rw (c.deref.ensures.value ∙ c.in_ok-copy_block.ensures) at c.in_ok-offset.ensures.placed in
    let grown : c.resize.new.self.items ≡ c.loop-j.offsets.items ++ replicate c.repeats.result c.in_ok-offset.field-0
    = resized c.loop-j.offsets.items c.resize.new.self.items c.loop-j.j c.repeats.result _ _ v.placed.count (omega (arith, v.placed.count)) c.in_ok-resize.ensures.items in
    record {
      within = omega (arith, c.repeats.ensures.within, c.loop-j-test.true);
      placed = compacting-run _ _ _ _ _ _ _ v.placed c.requires.blocks.some w.1
          0x3ffff c.in_ok-offset.field-0 c.repeats.result c.place.new.self _ placed c.repeats.ensures.some c.repeats.ensures.same grown;
      capped = omega (arith, placed.capped, v.capped, w.1);
    }

pub returns-clause-placed : goal.returns-clause-placed
returns-clause-placed c = compacting-done _ _ _ _ _ _ _ c.loop-j.invariant.placed

pub returns-clause-short : goal.returns-clause-short
returns-clause-short c =
    let n : c.loop-j.j ≡ c.args.count = omega arith in
    rw (← n) (compacting-short _ _ _ _ _ _ _ c.loop-j.invariant.placed)
