use Rattle.std.proofs.Common.{◌≡◌, ◌-◌, length, arith}
use Rattle.std.specs.Str.{chars}
use Rattle.icu_trie_text.specs.Inside.Lookup.{lookup_parts}
use Rattle.icu_trie_text.proofs.IndexLemmas.{index_runs, indices_fit, indices_of_drained}
use Rattle.icu_trie_text.proofs.indices.value_indices_of.Goals as goal

pub returns-clause-fits : goal.returns-clause-fits
returns-clause-fits g c =
    let start : length c.args.text.now - length c.args.text.now ≡ 0 = omega arith in
    rw (c.chars.ensures.rest, start) (omega (arith, indices_fit (lookup_parts c.new.result) c.args.text.now c.utf8.text))

pub returns-clause-values : goal.returns-clause-values
returns-clause-values g c =
    let start : length c.args.text.now - length c.args.text.now ≡ 0 = omega arith in
    rw (c.chars.ensures.rest, start) (λ items drained.
    rw (c.new.ensures) at (indices_of_drained (lookup_parts c.new.result) (chars c.args.text.now) items drained))

pub returns-clause-runs : goal.returns-clause-runs
returns-clause-runs g c = index_runs c.args.trie.now
