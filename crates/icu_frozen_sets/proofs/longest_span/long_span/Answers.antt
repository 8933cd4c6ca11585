use Rattle.icu_frozen_sets.proofs.longest_span.long_span.Goals as goal

pub returns-clause-exact : goal.returns-clause-exact
returns-clause-exact c = λ all.
    let passed = c.skip_two_byte-passed.ensures.passed c.args.table.now c.args.held c.short_words-words.ensures all in
    (rw c.new.ensures at c.span_from.ensures.exact) tt passed
