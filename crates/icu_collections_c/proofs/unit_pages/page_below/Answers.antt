-- The cursor passes the prefix; some entries are skipped, and the next ones are gathered.
use Rattle.std.proofs.Common.{◌≡◌, ◌∙◌, [], Ok, Err, Result, sym, ap, subst, drop, map, rules, arith}
use Rattle.std.specs.Prelude.{IfOk}
use Rattle.std.specs.Str.{IsUtf8}
use Rattle.std.proofs.lemmas.List.Elements.{All-nil}
use Rattle.icu_char16trie.specs.Grammar.{IsTrieOf}
use Rattle.icu_char16trie.specs.Listing.{AreToCome}
use Rattle.icu_char16trie.specs.Matches.{text_units}
use Rattle.icu_char16trie.specs.UnitMap.{UnitMap, after_all}
use Rattle.icu_collections_c.specs.Inside.Pages.{IsPage}
use Rattle.icu_collections_c.specs.UnitPages.{below, shown_below}
use Rattle.icu_collections_c.specs.UnitTries.{units_of}
use Rattle.std.proofs.lemmas.List.{drop-map}
use Rattle.icu_collections_c.proofs.UnitPageLemmas.{page_ended}
use Rattle.icu_collections_c.proofs.unit_pages.page_below.Goals as goal

weaker : {A E : Type 0} (P Q : A → Type 0) (r : Result A E) → ((x : A) → P x → Q x) → IfOk r P → IfOk r Q
weaker P Q (Ok x) f h = f x h
weaker P Q (Err e) f h = h

pub returns-then-not-branch-clause-keys : goal.returns-then-not-branch-clause-keys
returns-then-not-branch-clause-keys c = λ m h.
    let prefix = c.args.prefix.now in
    let passed = c.write_str.ensures.ok (search rules) in
    let there = passed.after m _ (c.cursor-cursor.ensures.root m (rw c.trie_in-trie.ensures h)) in
    let come = c.entries-entries.ensures.to_come m _ there in
    let none = c.in_ok-skip.ensures.fewer (ap (λ z. Ok z) c.if-not-branch.true) _ come in
    let all : drop c.args.skipped (below prefix m) ≡ [] =
    drop-map (shown_below prefix) c.args.skipped (after_all (text_units prefix) m) ∙ ap (map (shown_below prefix)) none in
    subst (λ es. IsPage es c.args.most_words c.args.most_bytes c.new.result) (sym all)
    (page_ended c.args.most_words c.args.most_bytes [] c.new.result c.new.ensures.held (omega arith) (omega arith) c.new.ensures.size)

pub returns-then-not-branch-clause-any : goal.returns-then-not-branch-clause-any
returns-then-not-branch-clause-any c = (
  [],
  All-nil (λ e. IsUtf8 e.0),
  page_ended c.args.most_words c.args.most_bytes [] c.new.result c.new.ensures.held (omega arith) (omega arith) c.new.ensures.size,
)

pub returns-clause-keys : goal.returns-clause-keys
returns-clause-keys c =
    let prefix = c.args.prefix.now in
    weaker (λ page. (m : UnitMap) → AreToCome c.skip.new.entries m
    → IsPage (map (shown_below prefix) m) c.args.most_words c.args.most_bytes page)
    (λ page. (m : UnitMap) → IsTrieOf (units_of c.args.units.now) m
    → IsPage (drop c.args.skipped (below prefix m)) c.args.most_words c.args.most_bytes page) c.page_of.result
    (λ page gathered m h.
    let passed = c.write_str.ensures.ok (search rules) in
    let there = passed.after m _ (c.cursor-cursor.ensures.root m (rw c.trie_in-trie.ensures h)) in
    let come = c.entries-entries.ensures.to_come m _ there in
    let left = c.in_ok-skip.ensures.there (ap (λ z. Ok z) c.if-not-branch.false) _ come in
    subst (λ es. IsPage es c.args.most_words c.args.most_bytes page)
    (sym (drop-map (shown_below prefix) c.args.skipped (after_all (text_units prefix) m))) (gathered _ left))
    c.page_of.ensures.keys
