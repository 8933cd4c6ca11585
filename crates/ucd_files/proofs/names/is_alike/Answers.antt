use Rattle.std.proofs.Common.{◌≡◌, ◌∙◌, [], sym, arith, rules}
use Rattle.std.specs.Prelude.{is_none}
use Rattle.std.proofs.lemmas.Grind.{common_steps}
use Rattle.ucd_files.specs.Names.{loose}
use Rattle.ucd_files.proofs.NameLemmas.{same_end, same_more, same_not, same_short}
use Rattle.ucd_files.proofs.names.is_alike.Goals as goal

pub loop-byte-preserved : goal.loop-byte-preserved
loop-byte-preserved c =
    let left = c.in-Some.ensures.some in
    let right = c.in-Some-first_significant.ensures.some in
    sym (same_more _ _ c.in-Some.left_after.now c.in-Some-first_significant.right_after.now _ _ left right c.if-other-byte.true)
    ∙ c.loop-byte.invariant

pub returns-in_default-first_significant : goal.returns-in_default-first_significant
returns-in_default-first_significant c =
    let left = c.in-Some.ensures.some in
    let right = c.in-Some-first_significant.ensures.some in
    sym (same_not _ _ c.in-Some.left_after.now c.in-Some-first_significant.right_after.now _ _ left right c.if-other-byte.false)
    ∙ c.loop-byte.invariant

pub returns-in_default-first_significant-2 : goal.returns-in_default-first_significant-2
returns-in_default-first_significant-2 c =
    let none : loose c.loop-byte.right_rest.now ≡ [] = search rules in
    sym (same_short _ _ _ _ c.in-Some.ensures.some none) ∙ c.loop-byte.invariant

pub returns : goal.returns
returns c =
    let none : loose c.loop-byte.left_rest.now ≡ [] = search rules in
    let told : c.is_none.result ≡ is_none c.first_significant-2.result = grind (arith, common_steps) in
    told
    ∙ (same_end _ _ c.first_significant-2.result (λ x. x.0) (λ x. loose x.1.now) none c.first_significant-2.ensures.none
    c.first_significant-2.ensures.some ∙ c.loop-byte.invariant)
