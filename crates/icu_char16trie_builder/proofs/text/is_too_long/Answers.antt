use Rattle.std.proofs.Common.{◌≡◌, ℕ, ◌+◌, ◌<◌, ◌≤◌, List, [], ◌∷◌, ◌++◌, length, take, ap, arith, refl}
use Rattle.std.proofs.lemmas.Iterator.{YieldsList-from_chars}
use Rattle.std.specs.Char.Escape.{encode_utf16}
use Rattle.std.specs.List.{flat_map}
use Rattle.std.specs.Str.{chars}
use Rattle.icu_char16trie_builder.proofs.TextLemmas.{at_most_two, count_next, count_within}
use Rattle.icu_char16trie.proofs.CallerLemmas.{all_chars, first_chars}
use Rattle.icu_char16trie_builder.proofs.text.is_too_long.Goals as goal

pub overflow_add-count : goal.overflow_add-count
overflow_add-count c =
    let few = at_most_two c.in-Some.c c.len_utf16-count.result c.len_utf16-count.ensures.bmp c.len_utf16-count.ensures.surrogate_pair in
    omega (arith, c.loop-c.invariant.few, few)

pub loop-c-preserved : goal.loop-c-preserved
loop-c-preserved c = record {
  counted =
      let more = count_next c.loop-c.yielded c.in-Some.c c.len_utf16-count.result c.len_utf16-count.ensures.bmp
      c.len_utf16-count.ensures.surrogate_pair in
      omega (arith, more, c.loop-c.invariant.counted);
  few = omega (arith, c.if-count-gt-LONGEST_KEY.false);
}

pub returns-then-count-gt-LONGEST_KEY : goal.returns-then-count-gt-LONGEST_KEY
returns-then-count-gt-LONGEST_KEY c =
    let cs : List ℕ = chars c.args.text.now in
    let ys : List ℕ = c.loop-c.yielded in
    let first = first_chars (YieldsList-from_chars c.args.text.now c.utf8.text cc) ys _ c.loop-c.yielded_by c.next.result c.next.new.self
    c.in-Some.c c.in-Some.is c.next.ensures.steps in
    let more = count_next ys c.in-Some.c c.len_utf16-count.result c.len_utf16-count.ensures.bmp c.len_utf16-count.ensures.surrogate_pair in
    let same : length (flat_map encode_utf16 (ys ++ c.in-Some.c ∷ [])) ≡ length (flat_map encode_utf16 (take (length ys + 1) cs)) =
    ap (λ (z : List ℕ). length (flat_map encode_utf16 z)) first.2 in
    let long : 65535 < length (flat_map encode_utf16 cs) =
    omega (arith, more, same, count_within cs (length ys + 1), c.loop-c.invariant.counted, c.if-count-gt-LONGEST_KEY.true) in
    (λ _. long, λ _. refl)

pub returns : goal.returns
returns c =
    let cs : List ℕ = chars c.args.text.now in
    let ys : List ℕ = c.loop-c.yielded in
    let all : ys ≡ cs = all_chars (YieldsList-from_chars c.args.text.now c.utf8.text cc) ys _ c.loop-c.yielded_by _ _ c.in-None.is
    c.next.ensures.steps in
    let same : length (flat_map encode_utf16 ys) ≡ length (flat_map encode_utf16 cs) =
    ap (λ (z : List ℕ). length (flat_map encode_utf16 z)) all in
    let few : length (flat_map encode_utf16 cs) ≤ 65535 = omega (arith, same, c.loop-c.invariant.counted, c.loop-c.invariant.few) in
    (λ h. cc, λ h. absurd (omega (arith, few, h)))
