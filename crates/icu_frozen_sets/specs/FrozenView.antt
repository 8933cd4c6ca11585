-- A view of the words of a frozen set.
use Rattle.std.specs.Prelude.{ℕ, List}
use Rattle.icu_frozen_sets.specs.declared.view.FrozenView.{FrozenView}

-- The words of a view.
abbrev pub view_words : FrozenView → List ℕ
view_words v = v.words.now
