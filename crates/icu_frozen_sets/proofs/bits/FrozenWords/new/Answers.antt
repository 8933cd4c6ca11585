use Rattle.std.proofs.Common.{ℕ, List, ap, arith, set}
use Rattle.icu_frozen_sets.proofs.StartLemmas.{blocks_written, empty_offsets, empty_tables}
use Rattle.icu_frozen_sets.proofs.bits.FrozenWords.new.Goals as goal

pub returns-clause-filling : goal.returns-clause-filling
returns-clause-filling c =
    let n = c.args.offsets in
    let some = c.requires.some in
    let few = c.requires.few in
    let v = c.in_ok-words in
    let one = c.resize.new.self in
    let two = c.resize-2.new.self in
    let words = c.resize-3.new.self.items in
    let written = blocks_written n some few v.words.items one.items two.items words v.words.len one.len two.len v.ensures.items
    v.ensures.len (omega (arith, one.ok)) (omega (arith, two.ok)) c.in_ok-resize.ensures.items c.in_ok-resize-2.ensures.items
    c.in_ok-resize-3.ensures.items in
    empty_tables n some few (set words 0 n) (ap (λ (l : List ℕ). set l 0 n) written)

pub returns-clause-offsets : goal.returns-clause-offsets
returns-clause-offsets c =
    let n = c.args.offsets in
    let some = c.requires.some in
    let few = c.requires.few in
    let v = c.in_ok-words in
    let one = c.resize.new.self in
    let two = c.resize-2.new.self in
    let words = c.resize-3.new.self.items in
    let written = blocks_written n some few v.words.items one.items two.items words v.words.len one.len two.len v.ensures.items
    v.ensures.len (omega (arith, one.ok)) (omega (arith, two.ok)) c.in_ok-resize.ensures.items c.in_ok-resize-2.ensures.items
    c.in_ok-resize-3.ensures.items in
    empty_offsets n some few (set words 0 n) (ap (λ (l : List ℕ). set l 0 n) written)
