use Rattle.std.proofs.Common.{◌≡◌, ◌∙◌, ◌++◌, ◌∷◌, [], string_bytes, append_assoc, append-nil, sym, ap, rules}
use Rattle.std.specs.List.{flat_map}
use Rattle.icu_invlist.specs.InversionList.{ranges_of}
use Rattle.ucptrie_sets.specs.Rows.{range_row, rows_of}
use Rattle.ucptrie_sets.proofs.rows.rows_text.Goals as goal

pub loop-range-init : goal.loop-range-init
loop-range-init c =
    let empty : string_bytes c.new-text.result ≡ [] = search rules in
    ap (λ t. t ++ rows_of c.into_iter-range-iterator.result) empty
    ∙ ap rows_of (c.into_iter-range-iterator.ensures.into_iter_gives ∙ c.iter_ranges-range-items.ensures.gives)

pub loop-range-preserved : goal.loop-range-preserved
loop-range-preserved c =
    let step : ranges_of c.loop-range.range-iterator ≡ c.in-Some.range ∷ ranges_of c.next.new.self = c.in-Some.ensures.steps in
    ap (λ t. t ++ rows_of c.next.new.self) c.in_ok-push_range.ensures
    ∙ (append_assoc (string_bytes c.loop-range.text) (range_row c.in-Some.range) (rows_of c.next.new.self)
    ∙ (ap (λ rs. string_bytes c.loop-range.text ++ flat_map range_row rs) (sym step) ∙ c.loop-range.invariant))

pub returns : goal.returns
returns c =
    sym (append-nil (string_bytes c.loop-range.text))
    ∙ (ap (λ rs. string_bytes c.loop-range.text ++ flat_map range_row rs) (sym c.in-None.ensures.steps.0) ∙ c.loop-range.invariant)
