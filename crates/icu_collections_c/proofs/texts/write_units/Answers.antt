-- The code points are visited in order, and the values that fit are written.
use Rattle.std.proofs.Common.{◌≡◌, ◌∙◌, ◌∷◌, ◌++◌, ◌+◌, [], ap, sym, refl, arith, append-nil, append_assoc, length, length-append, List, ℕ}
use Rattle.std.specs.Prelude.{map, unwrap_or}
use Rattle.std.proofs.lemmas.List.{length-map, map-append}
use Rattle.icu_trie.specs.Parts.{trie_value}
use Rattle.icu_utf.specs.Utf16.{code_points_of}
use Rattle.icu_utf.proofs.CallerLemmas.{length-code_points}
use Rattle.icu_zerovec.specs.Buffers.{written}
use Rattle.icu_collections_c.specs.BytesTrie.{parts_in}
use Rattle.icu_collections_c.proofs.BufferLemmas.{written-none}
use Rattle.icu_collections_c.proofs.texts.write_units.Goals as goal

pub loop-c-init : goal.loop-c-init
loop-c-init g c = ([], refl, refl, written-none c.args.values.now)

pub overflow_add-count : goal.overflow_add-count
overflow_add-count g c =
    let was = c.loop-c.invariant in
    let all = ap length (was.1 ∙ ap (λ xs. was.0 ++ xs) c.in-Some.ensures) ∙ length-append was.0 _ in
    omega (arith, all, was.2, length-code_points c.args.units.now)

pub loop-c-preserved : goal.loop-c-preserved
loop-c-preserved g c =
    let was = c.loop-c.invariant in
    let one : List ℕ = c.in-Some.c ∷ [] in
    let value = λ (u : ℕ). unwrap_or (trie_value (parts_in g.T.AsULE.unpack g.T.AsULE.WIDTH c.args.trie.now) u) c.args.none in
    let found : c.unwrap_or-found.result ≡ value c.in-Some.c =
    c.unwrap_or-found.ensures ∙ ap (λ o. unwrap_or o c.args.none) (rw c.header_of-header.ensures at c.value_of.ensures) in (
      was.0 ++ one,
      was.1 ∙ ap (λ xs. was.0 ++ xs) c.in-Some.ensures ∙ sym (append_assoc was.0 one (code_points_of c.in-Some.after.now)),
      rw length-append (ap (λ n. n + 1) was.2),
      c.put.ensures (map value was.0) c.args.values.now (was.2 ∙ sym (length-map was.0 value)) was.3
          ∙ ap (λ xs. written xs c.args.values.now) (ap (λ v. map value was.0 ++ v ∷ []) found ∙ sym (map-append value was.0 one)),
    )

pub loop-c-smaller : goal.loop-c-smaller
loop-c-smaller g c = let e = ap length c.in-Some.ensures in omega (arith, e)

all_of : goal.returns-clause-count
all_of g c =
    let was = c.loop-c.invariant in
    was.2 ∙ ap length (sym (was.1 ∙ ap (λ xs. was.0 ++ xs) c.in_default.ensures.1 ∙ append-nil was.0))

pub returns-clause-count : goal.returns-clause-count
returns-clause-count g c = all_of g c

pub returns-clause-bound : goal.returns-clause-bound
returns-clause-bound g c = omega (arith, length-code_points c.args.units.now, all_of g c)

pub returns-clause-values : goal.returns-clause-values
returns-clause-values g c =
    let was = c.loop-c.invariant in
    let value = λ (u : ℕ). unwrap_or (trie_value (parts_in g.T.AsULE.unpack g.T.AsULE.WIDTH c.args.trie.now) u) c.args.none in
    was.3
    ∙ ap (λ xs. written (map value xs) c.args.values.now) (sym (was.1 ∙ ap (λ xs. was.0 ++ xs) c.in_default.ensures.1 ∙ append-nil was.0))
