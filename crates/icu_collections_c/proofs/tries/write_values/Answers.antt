-- The values that fit are written one after another.
use Rattle.std.proofs.Common.{◌≡◌, ◌∙◌, ◌<◌, ◌++◌, ◌∷◌, [], ap, arith, get_or, inl, inr, length, refl, sym, take, ℕ}
use Rattle.std.specs.Prelude.{map, unwrap_or}
use Rattle.std.proofs.lemmas.Bool.{cases_lt}
use Rattle.std.proofs.lemmas.List.{length-map, length-take-le, map-append, take-map, take_more}
use Rattle.icu_trie.specs.Parts.{trie_value}
use Rattle.icu_zerovec.specs.Buffers.{written}
use Rattle.icu_collections_c.specs.BytesTrie.{parts_in}
use Rattle.icu_collections_c.proofs.BufferLemmas.{written-next, written-none, written-take}
use Rattle.icu_collections_c.proofs.tries.write_values.Goals as goal

pub loop-i-init : goal.loop-i-init
loop-i-init g c = written-none c.args.values.now

pub loop-i-preserved : goal.loop-i-preserved
loop-i-preserved g c =
    let value = λ (u : ℕ). unwrap_or (trie_value (parts_in g.T.AsULE.unpack g.T.AsULE.WIDTH c.args.trie.now) u) c.args.none in
    let pts = c.args.points.now in
    let i = c.loop-i.i in
    let asked : i < length pts = omega (arith, c.loop-i-test.true, c.min-count.ensures) in
    let many : i ≡ length (map value (take i pts)) =
    sym (length-map (take i pts) value ∙ length-take-le i pts (omega (arith, asked))) in
    let found : c.unwrap_or.result ≡ value (get_or pts i 0) =
    c.unwrap_or.ensures ∙ ap (λ o. unwrap_or o c.args.none) (rw c.header_of-header.ensures at c.value_of.ensures) in
    written-next (map value (take i pts)) c.args.values.now c.loop-i.values _ c.unwrap_or.result i many c.loop-i.invariant (λ h. refl)
    (λ h. absurd (omega (arith, h, c.loop-i-test.true, c.min-count.ensures, c.loop-i.auto.values)))
    ∙ ap (λ xs. written xs c.args.values.now)
    (ap (λ v. map value (take i pts) ++ v ∷ []) found ∙ sym (map-append value (take i pts) (get_or pts i 0 ∷ []))
    ∙ ap (map value) (sym (take_more pts i 0 asked)))

pub returns-clause-values : goal.returns-clause-values
returns-clause-values g c =
    let value = λ (u : ℕ). unwrap_or (trie_value (parts_in g.T.AsULE.unpack g.T.AsULE.WIDTH c.args.trie.now) u) c.args.none in
    let pts = c.args.points.now in
    c.loop-i.invariant ∙ ap (λ xs. written xs c.args.values.now) (sym (take-map value c.loop-i.i pts))
    ∙ written-take (map value pts) c.args.values.now c.loop-i.i
    (rw (length-map pts value) (elim (cases_lt (length c.args.values.now) (length pts)) [
      | inl h ↦ inr (omega (arith, h, c.loop-i-test.false, c.min-count.ensures))
      | inr h ↦ inl (omega (arith, h, c.loop-i-test.false, c.min-count.ensures))
    ]))
