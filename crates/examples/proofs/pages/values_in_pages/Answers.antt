use Rattle.std.proofs.Common.{◌≡◌, ◌∙◌, ap, sym, subst, ℕ, List, [], ◌++◌, append_assoc, map, length, take, drop, ◌-◌, ◌<◌, ◌≤◌, arith, rules}
use Rattle.std.proofs.lemmas.List.{append-nil, length-drop, length-map, map-append, nil_from_length, take_at, take_rest}
use Rattle.icu_collections.specs.CodePointTrie.{Parts}
use Rattle.icu_collections.specs.CodePointTrieText.{AreValuesOfBytes, IsCopied}
use Rattle.icu_collections.specs.declared.codepointtrie.text.Copied.{Copied}
use Rattle.icu_collections.proofs.CallerLemmas.{copied_some, first_values_append}
use Rattle.examples.specs.Pages.{AreAllValues}
use Rattle.examples.proofs.pages.values_in_pages.Goals as goal

-- The values at the start of the buffer.
front : (trie : Parts ℕ) (bytes old new : List ℕ) (copied : Copied) (c : IsCopied trie bytes old new copied)
    → take copied.values new ≡ map (λ item. item.1) c.items
front trie bytes old new copied c =
    rw c.buffer (take_at (map (λ item. item.1) c.items) (drop (length c.items) old) copied.values
    (length-map {B = ℕ} c.items (λ (item : ℕ × ℕ). item.1) ∙ sym c.count))

-- One more page.
one_more : (trie : Parts ℕ) (bytes rest left old new all more_all : List ℕ) (copied : Copied) (c : IsCopied trie rest old new copied)
    → left ≡ drop copied.bytes rest → more_all ≡ all ++ take copied.values new
    → ((more : List (ℕ × ℕ)) → AreValuesOfBytes trie rest more → AreAllValues trie bytes (all ++ map (λ item. item.1) more))
    → (more : List (ℕ × ℕ)) → AreValuesOfBytes trie left more → AreAllValues trie bytes (more_all ++ map (λ item. item.1) more)
one_more trie bytes rest left old new all more_all copied c l pushed before more h =
    let page : List ℕ = map (λ item. item.1) c.items in
    let tail : List ℕ = map (λ item. item.1) more in
    let joined : all ++ map (λ item. item.1) (c.items ++ more) ≡ more_all ++ tail =
    ap (λ (vs : List ℕ). all ++ vs) (map-append (λ (item : ℕ × ℕ). item.1) c.items more) ∙ sym (append_assoc all page tail)
    ∙ ap (λ (vs : List ℕ). vs ++ tail) (ap (λ (vs : List ℕ). all ++ vs) (sym (front trie rest old new copied c)) ∙ sym pushed) in
    subst (λ (vs : List ℕ). AreAllValues trie bytes vs) joined
    (before (c.items ++ more) (first_values_append trie rest c.items more copied.bytes c.parts (rw l at h)))

pub loop-rest-smaller : goal.loop-rest-smaller
loop-rest-smaller c =
    let rest : List ℕ = c.loop-rest.rest.now in
    let copied : Copied = c.copy_values-copied.result in
    let some : 0 < length rest = search rules in
    let room : 0 < length c.loop-rest.page = omega arith in
    let moves = copied_some c.args.table.now rest c.loop-rest.page c.copy_values-copied.new.values copied
    c.copy_values-copied.ensures.values some room in
    omega (arith, moves, some, ap (λ (bs : List ℕ). length bs) (take_rest rest copied.bytes), length-drop copied.bytes rest)

pub loop-rest-preserved : goal.loop-rest-preserved
loop-rest-preserved c =
    let rest : List ℕ = c.loop-rest.rest.now in
    let copied : Copied = c.copy_values-copied.result in
    let left = take_rest rest copied.bytes in
    let page : List ℕ = c.copy_values-copied.new.values in
    let before = c.loop-rest.invariant in
    let shorter : length (drop copied.bytes rest) ≤ length c.args.bytes.now = omega (arith, length-drop copied.bytes rest, before.within) in
    let pushed : c.extend_from_slice.new.self.items ≡ c.loop-rest.all.items ++ take copied.values page = search rules in
    record {
      within = rw left shorter;
      page = omega (arith, before.page);
      values = one_more c.args.table.now c.args.bytes.now rest (take (length rest - copied.bytes) (drop copied.bytes rest))
          c.loop-rest.page page c.loop-rest.all.items c.extend_from_slice.new.self.items copied c.copy_values-copied.ensures.values left
          pushed before.values;
    }

pub returns : goal.returns
returns c =
    let ended : c.loop-rest.rest.now ≡ [] = nil_from_length c.loop-rest.rest.now (search rules) in
    subst (λ (vs : List ℕ). AreAllValues c.args.table.now c.args.bytes.now vs) (append-nil c.loop-rest.all.items)
    (c.loop-rest.invariant.values [] ended)
