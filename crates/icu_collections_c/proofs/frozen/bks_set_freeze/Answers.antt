use Rattle.std.proofs.Common.{◌∙◌, ℕ, List, ap, length}
use Rattle.icu_collections_c.specs.Building.{written_whole}
use Rattle.icu_collections_c.proofs.FrozenLemmas.{answers_frozen}
use Rattle.icu_collections_c.proofs.frozen.bks_set_freeze.Goals as goal

pub returns-in-Ok : goal.returns-in-Ok
returns-in-Ok c =
    let w = c.write_words in
    let same = c.deref.ensures.value in
    answers_frozen c.args.ends.now c.in-Ok.words.items c.args.table.now w.new.buffer w.result c.in-Ok.ensures
    (w.ensures.count ∙ ap (λ (l : List ℕ). length l) same)
    (w.ensures.buffer ∙ ap (λ (l : List ℕ). written_whole l c.args.table.now) same)
