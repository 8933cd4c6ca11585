use Rattle.std.proofs.Common.{◌∙◌, ◌+◌, ℕ, List, ap, set}
use Rattle.icu_frozen_sets.specs.FrozenWords.{offset_words}
use Rattle.icu_frozen_sets.proofs.BlockLemmas.{sets_full}
use Rattle.icu_frozen_sets.proofs.bits.FrozenWords.set_full.Goals as goal

pub returns-clause-sets : goal.returns-clause-sets
returns-clause-sets c =
    let items = c.self.inside.words.items in
    let place = c.offset_count.ensures ∙ ap (λ (l : List ℕ). offset_words l) c.deref.ensures.value in
    rw (← c.self.view_is) (sets_full items (set items c.args.at (c.offset_count.result + 32)) c.args.at
    (rw (← c.self.view_is) at c.requires.filling) c.requires.some c.requires.there
    (ap (λ (n : ℕ). set items c.args.at (n + 32)) place))
