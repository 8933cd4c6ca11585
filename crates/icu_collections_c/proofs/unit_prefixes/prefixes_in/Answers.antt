use Rattle.std.proofs.Common.{◌∙◌, ◌<◌, ◌^◌, List, [], arith, length, rules, ℕ}
use Rattle.std.proofs.lemmas.Str.{len_utf8_bounds}
use Rattle.icu_collections_c.specs.UnitPrefixes.{HasFound}
use Rattle.icu_collections_c.specs.UnitTries.{units_of}
use Rattle.icu_collections_c.proofs.TextStepLemmas.{few_found, walked_all, walked_first, walked_next}
use Rattle.icu_frozen_sets.proofs.CallerLemmas.{text_front}
use Rattle.icu_collections_c.proofs.UnitPrefixLemmas.{HasFound-none}
use Rattle.icu_collections_c.proofs.unit_prefixes.prefixes_in.Goals as goal

pub loop-next-init : goal.loop-next-init
loop-next-init c = record {
  walked =
      let at = c.cursor-cursor.ensures in
      let value = c.value-value.ensures in
      walked_first (units_of c.args.units.now) c.args.bytes.now c.cursor-cursor.result
      (λ xs. HasFound xs c.args.found.now c.put-count.new.found c.put-count.result) c.value-value.result
      (at.units ∙ c.trie_in-trie.ensures) at.place (λ m h. at.root m (rw c.trie_in-trie.ensures h)) value.exact value.value
      (c.put-count.ensures [] c.args.found.now (HasFound-none c.args.found.now));
}

pub put-count-requires-in-Some : goal.put-count-requires-in-Some
put-count-requires-in-Some c =
    let was = c.loop-next.invariant.walked in
    let few = few_found (units_of c.args.units.now) c.args.bytes.now c.loop-next.end c.loop-next.cursor
    (λ xs. HasFound xs c.args.found.now c.loop-next.found c.loop-next.count) was c.in-Some.next c.pass_character.new.cursor
    c.in-Some.ensures in
    let fits : length c.args.bytes.now < 2 ^ 63 = search rules in
    omega (arith, few, fits, was.looked.are.count)

pub loop-next-smaller : goal.loop-next-smaller
loop-next-smaller c =
    let p = c.in-Some.ensures in
    omega (arith, p.next_is, p.within, (len_utf8_bounds p.c).0)

pub loop-next-preserved : goal.loop-next-preserved
loop-next-preserved c = record {
  walked =
      let value = c.value-value-in-Some.ensures in
      walked_next (units_of c.args.units.now) c.args.bytes.now c.loop-next.end c.loop-next.cursor
      (λ xs. HasFound xs c.args.found.now c.loop-next.found c.loop-next.count) c.loop-next.invariant.walked c.in-Some.next
      c.pass_character.new.cursor c.in-Some.ensures
      (λ xs. HasFound xs c.args.found.now c.put-count-in-Some.new.found c.put-count-in-Some.result)
      c.value-value-in-Some.result value.exact value.value (λ xs f. c.put-count-in-Some.ensures xs c.args.found.now f);
}

pub returns : goal.returns
returns c =
    let units : List ℕ = units_of c.args.units.now in
    let bytes : List ℕ = c.args.bytes.now in
    let text = text_front bytes in
    let all = walked_all units bytes c.loop-next.end c.loop-next.cursor
    (λ xs. HasFound xs c.args.found.now c.loop-next.found c.loop-next.count) c.loop-next.invariant.walked c.in_default.ensures in
    record { keys = λ m h. (text.0, text.1, all.keys m h); exact = (text.0, text.1, all.exact) }
