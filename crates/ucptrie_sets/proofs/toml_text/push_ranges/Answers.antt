use Rattle.std.proofs.Common.{◌≡◌, ◌∙◌, ◌++◌, ◌∷◌, string_bytes, append_assoc, append-nil, sym, ap}
use Rattle.std.specs.List.{flat_map}
use Rattle.icu_invlist.specs.InversionList.{ranges_of}
use Rattle.ucptrie_sets.specs.SetToml.{toml_range, toml_ranges}
use Rattle.ucptrie_sets.proofs.toml_text.push_ranges.Goals as goal

pub loop-range-init : goal.loop-range-init
loop-range-init c = ap (λ set. string_bytes c.args.text.now ++ toml_ranges set)
    (c.into_iter-range-iterator.ensures.into_iter_gives ∙ c.iter_ranges-range-items.ensures.gives)

pub loop-range-preserved : goal.loop-range-preserved
loop-range-preserved c =
    let text = string_bytes c.loop-range.text in
    let step : ranges_of c.loop-range.range-iterator ≡ c.in-Some.range ∷ ranges_of c.next.new.self = c.in-Some.ensures.steps in
    ap (λ t. t ++ toml_ranges c.next.new.self) c.in_ok-push_range.ensures
    ∙ (append_assoc text (toml_range c.in-Some.range) (toml_ranges c.next.new.self)
    ∙ (ap (λ rs. text ++ flat_map toml_range rs) (sym step) ∙ c.loop-range.invariant))

pub returns : goal.returns
returns c =
    let text = string_bytes c.loop-range.text in
    sym (append-nil text) ∙ (ap (λ rs. text ++ flat_map toml_range rs) (sym c.in-None.ensures.steps.0) ∙ c.loop-range.invariant)
