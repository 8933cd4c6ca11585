use Rattle.icu_zerovec.specs.Slice.{slice_values}
use Rattle.std.proofs.Common.{◌≡◌, ℕ, ◌+◌, ◌<◌, ◌++◌, ◌∷◌, [], List, Some, slice_get, take, drop, length, get_or, ap, sym, subst, ◌∙◌, arith, length-drop}
use Rattle.std.proofs.lemmas.List.{take_more, get_or-drop}
use Rattle.std.proofs.lemmas.Option.{slice_get_within, get_or_from_slice_get}
use Rattle.icu_char16trie.specs.Inside.Opening.{SpellsOn}
use Rattle.icu_char16trie.proofs.SpellingLemmas.{on_nothing, on_then}
use Rattle.icu_char16trie.proofs.spelling.Spelling.push_run.Goals as goal

-- One more of the units.
one_more : (units : List ℕ) (p i x : ℕ) → slice_get units (p + i) ≡ Some x → take i (drop p units) ++ x ∷ [] ≡ take (i + 1) (drop p units)
one_more units p i x g =
    let here : p + i < length units = slice_get_within units (p + i) x g in
    let is : get_or (drop p units) i 0 ≡ x = get_or-drop p units i 0 ∙ get_or_from_slice_get units (p + i) x 0 g in
    sym (take_more (drop p units) i 0 (omega (arith, length-drop p units)) ∙ ap (λ z. take i (drop p units) ++ z ∷ []) is)

pub loop-i-init : goal.loop-i-init
loop-i-init c = on_nothing c.args.self.now

pub loop-i-preserved : goal.loop-i-preserved
loop-i-preserved c =
    subst (λ z. SpellsOn c.args.self.now z c.push.new.self)
    (one_more (slice_values c.args.units) c.args.place c.loop-i.i c.at.result c.at.ensures)
    (on_then c.args.self.now c.loop-i.self c.push.new.self _ _ c.loop-i.invariant c.in_ok-push.ensures)
