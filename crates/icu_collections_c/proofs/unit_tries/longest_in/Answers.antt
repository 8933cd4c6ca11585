use Rattle.std.proofs.Common.{◌≡◌, ◌∙◌, List, None, Option, ap, arith, subst, sym, ℕ, ℤ}
use Rattle.std.specs.Prelude.{IfSome}
use Rattle.std.proofs.lemmas.Str.{len_utf8_bounds}
use Rattle.icu_char16trie.specs.Matches.{HasCharsStepped, HasCharsValue, match_at}
use Rattle.icu_collections_c.specs.Inside.TextSteps.{last_of}
use Rattle.icu_collections_c.specs.UnitTries.{EndsAtBoundary, units_of}
use Rattle.icu_collections_c.proofs.TextStepLemmas.{chars_of, last_then, longest_ends, longest_of, walked_all, walked_first, walked_next}
use Rattle.icu_frozen_sets.proofs.CallerLemmas.{text_front}
use Rattle.icu_collections_c.proofs.unit_tries.longest_in.Goals as goal

pub loop-next-init : goal.loop-next-init
loop-next-init c = record {
  walked =
      let at = c.cursor-cursor.ensures in
      let value = c.value-value.ensures in
      walked_first (units_of c.args.units.now) c.args.bytes.now c.cursor-cursor.result
      (λ xs. c.later_match-found.result ≡ last_of None xs) c.value-value.result (at.units ∙ c.trie_in-trie.ensures) at.place
      (λ m h. at.root m (rw c.trie_in-trie.ensures h)) value.exact value.value c.later_match-found.ensures;
}

pub loop-next-smaller : goal.loop-next-smaller
loop-next-smaller c =
    let p = c.in-Some.ensures in
    omega (arith, p.next_is, p.within, (len_utf8_bounds p.c).0)

pub loop-next-preserved : goal.loop-next-preserved
loop-next-preserved c = record {
  walked =
      let next : ℕ = c.in-Some.next in
      let v = c.value-value-in-Some.result in
      let value = c.value-value-in-Some.ensures in
      walked_next (units_of c.args.units.now) c.args.bytes.now c.loop-next.end c.loop-next.cursor
      (λ xs. c.loop-next.found ≡ last_of None xs) c.loop-next.invariant.walked next c.pass_character.new.cursor c.in-Some.ensures
      (λ xs. c.later_match-found-in-Some.result ≡ last_of None xs) v value.exact value.value
      (λ xs f. c.later_match-found-in-Some.ensures ∙ ap (λ (o : Option (ℕ × ℤ)). last_of o (match_at next v)) f
      ∙ last_then None xs next v);
}

pub returns : goal.returns
returns c =
    let units : List ℕ = units_of c.args.units.now in
    let bytes : List ℕ = c.args.bytes.now in
    let text = text_front bytes in
    let last = c.loop-next.found in
    let all = walked_all units bytes c.loop-next.end c.loop-next.cursor (λ xs. last ≡ last_of None xs) c.loop-next.invariant.walked
    c.in_default.ensures in
    let stepped = longest_of (HasCharsStepped units (chars_of bytes)) (chars_of bytes) last all.exact in
    record {
      keys = λ m h. (text.0, text.1, longest_of (HasCharsValue m (chars_of bytes)) (chars_of bytes) last (all.keys m h));
      exact = (text.0, text.1, stepped);
      boundary = subst (λ (o : Option (ℕ × ℤ)). IfSome o (λ f. EndsAtBoundary bytes f.0)) (sym stepped.2)
          (longest_ends bytes stepped.0);
    }
