use Rattle.std.proofs.Common.{◌≡◌}
use Rattle.icu_frozen_sets.specs.FrozenWords.{IsFrozenOf}
use Rattle.ucptrie_sets.proofs.c_source.frozen_c_text.Goals as goal

pub returns : goal.returns
returns c =
    let held : IsFrozenOf c.args.set.now c.as_words.result.now = rw c.in_ok-frozen.ensures at c.as_words.ensures in
    record {
      words = c.as_words.result.now;
      held = held;
      whole = simp c.in_ok-text.ensures at c.in_ok-push_frozen.ensures;
    }
