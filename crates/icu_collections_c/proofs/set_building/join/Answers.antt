-- The range extends the last range of the set, or comes after it.
use Rattle.std.proofs.Common.{◌≡◌, ◌∙◌, refl, ◌+◌, ◌-◌, ◌<◌, ◌++◌, ◌∷◌, [], ap, arith, get_or, length, ℕ, List}
use Rattle.std.proofs.lemmas.Grind.{get_or_default_zero}
use Rattle.icu_collections_c.proofs.SetMakingLemmas.{extended_at, pushed_at}
use Rattle.icu_collections_c.proofs.set_building.join.Goals as goal
use Rattle.icu_collections_c.proofs.set_building.join.Goals.{else-count-gt0-via-then-count-gt0+else-range-index, else-count-gt0-via-else-count-gt0}

pub returns-then-range-index : goal.returns-then-range-index
returns-then-range-index c =
    let old = c.args.ends.now.items in
    let n = c.len-count.result - 1 in
    let within : n < length old = omega (arith, c.len-count.ensures) in
    let read : c.index.result.now ≡ get_or old n 0 =
    omega (arith, c.index.ensures, get_or_default_zero old n c.index.result.now within) in
    let again : c.index-then-range-index.result.now ≡ get_or old n 0 =
    omega (arith, c.index-then-range-index.ensures, get_or_default_zero old n c.index-then-range-index.result.now within) in
    extended_at old _ c.args.range.first c.args.range.last (c.min-end.result + 1) c.requires
    (omega (arith, c.min-end.ensures)) (omega arith) c.len-count.result c.max.result (omega (arith, c.len-count.ensures))
    (omega arith) (omega (arith, read)) (omega (arith, again, c.max.ensures)) refl

pub returns-in_ok-push-2 : goal.returns-in_ok-push-2
returns-in_ok-push-2 c =
    let old = c.args.ends.now.items in
    let same : c.len-count.result ≡ length old = omega (arith, c.len-count.ensures) in
    pushed_at old _ c.args.range.first c.args.range.last (c.min-end.result + 1) c.requires (omega (arith, c.min-end.ensures))
    (omega arith)
    (elim c.else-count-gt0.branch [
      | else-count-gt0-via-then-count-gt0+else-range-index w ↦ λ h.
          (let n = c.len-count.result - 1 in
          let within : n < length old = omega arith in
          rw (← same) (omega (arith, w.index.ensures, get_or_default_zero old n w.index.result.now within)))
      | else-count-gt0-via-else-count-gt0 w ↦ λ h. absurd (omega (arith, same))
    ])
    (c.in_ok-push-2.ensures.items ∙ ap (λ (xs : List ℕ). xs ++ (c.min-end.result + 1) ∷ []) c.in_ok-push.ensures.items)
