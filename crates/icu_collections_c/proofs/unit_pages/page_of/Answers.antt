-- The next entry is the first of those that are left.
use Rattle.std.proofs.Common.{◌≡◌, ◌∙◌, ◌+◌, ◌≤◌, ◌++◌, ◌∷◌, [], Ok, true, refl, sym, ap, subst, length, map, append-nil, length-append, to_z, of_z, w32, rules, arith}
use Rattle.std.specs.Str.{IsUtf8}
use Rattle.std.proofs.lemmas.Int.{to_z-of_z}
use Rattle.std.proofs.lemmas.List.Elements.{All-nil, All-push}
use Rattle.std.proofs.lemmas.Str.{IsUtf8-append}
use Rattle.icu_char16trie.specs.Listing.{Advances, entry_value}
use Rattle.icu_collections_c.specs.Listing.{texts_of}
use Rattle.icu_collections_c.specs.Inside.Pages.{IsPage, IsPushed}
use Rattle.icu_collections_c.specs.UnitPages.{shown_below}
use Rattle.icu_collections_c.proofs.ListingLemmas.{texts-push}
use Rattle.icu_collections_c.proofs.UnitPageLemmas.{Holds-push, next_shown, next_visited, page_ended, page_full, page_short}
use Rattle.icu_collections_c.proofs.unit_pages.page_of.Goals as goal

pub loop-listed-init : goal.loop-listed-init
loop-listed-init c = record {
  items = [];
  texts = All-nil (λ e. IsUtf8 e.0);
  held = c.new-page.ensures.held;
  within = omega arith;
  count = refl;
  short = omega arith;
  size = c.new-page.ensures.size;
  keys = λ m h. (m, h, refl);
}

pub returns-then-not-branch : goal.returns-then-not-branch
returns-then-not-branch c =
    let inv = c.loop-listed.invariant in
    let few : length inv.items ≤ c.args.most_words = omega (arith, inv.count, inv.within) in
    let page : IsPage inv.items c.args.most_words c.args.most_bytes c.loop-listed.page =
    page_ended c.args.most_words c.args.most_bytes inv.items c.loop-listed.page inv.held few inv.short inv.size in
    record {
      keys = λ m h.
          let k = inv.keys m h in
          let ended : k.0 ≡ [] = rw c.if-not-branch.true at (c.in_ok-advance.ensures.tells k.0 k.1) in
          subst (λ es. IsPage es c.args.most_words c.args.most_bytes c.loop-listed.page)
          (sym (k.2 ∙ ap (λ r. inv.items ++ map (shown_below c.args.prefix.now) r) ended ∙ append-nil inv.items)) page;
      any = (inv.items, inv.texts, page);
    }

pub returns : goal.returns
returns c =
    let inv = c.loop-listed.invariant in
    let many : c.args.most_words ≡ length inv.items = omega (arith, inv.count, inv.within, c.loop-listed-test.false) in
    let few : length inv.items ≤ c.args.most_words = omega (arith, inv.count, inv.within) in
    record {
      keys = λ m h.
          let k = inv.keys m h in
          subst (λ es. IsPage es c.args.most_words c.args.most_bytes c.loop-listed.page) (sym k.2)
          (page_full c.args.most_words c.args.most_bytes inv.items c.loop-listed.page inv.held few inv.short
          (map (shown_below c.args.prefix.now) k.0) many inv.size);
      any = (
        inv.items,
        inv.texts,
        page_ended c.args.most_words c.args.most_bytes inv.items c.loop-listed.page inv.held few inv.short inv.size,
      );
    }

pub returns-then-page-most_bytes-clause-keys : goal.returns-then-page-most_bytes-clause-keys
returns-then-page-most_bytes-clause-keys c = λ m h.
    let inv = c.loop-listed.invariant in
    let k = inv.keys m h in
    let reached : Advances k.0 (Ok true) c.advance.new.self = rw c.if-not-branch.false at (c.in_ok-advance.ensures.tells k.0 k.1) in
    let prefix = c.args.prefix.now in
    let text = c.key-rest.result.now in
    let v = entry_value c.advance.new.self in
    let all = next_shown prefix text reached.0 v m k.0 reached.1 inv.items k.2 reached.2 (c.key-rest.ensures ∙ reached.3) in
    let long = length-append prefix text in
    let size : c.in_ok-page.field-0 ≡ length (texts_of inv.items) + length (prefix ++ text) =
    omega (arith, c.in_ok-page.ensures, inv.size, long) in
    subst
    (λ es. IsPage es c.args.most_words c.args.most_bytes
    (record { words = c.loop-listed.page.words; texts = c.loop-listed.page.texts; size = c.in_ok-page.field-0 }))
    (sym all)
    (page_short c.args.most_words c.args.most_bytes inv.items
    (record { words = c.loop-listed.page.words; texts = c.loop-listed.page.texts; size = c.in_ok-page.field-0 })
    (record { words_are = inv.held.words_are; texts_are = inv.held.texts_are }) (omega (arith, inv.count, inv.within)) inv.short
    (prefix ++ text, v) (map (shown_below prefix) reached.1) (omega (arith, inv.count, c.loop-listed-test.true))
    (omega (arith, c.if-page-most_bytes.true, size)) size)

pub returns-then-page-most_bytes-clause-any : goal.returns-then-page-most_bytes-clause-any
returns-then-page-most_bytes-clause-any c =
    let inv = c.loop-listed.invariant in
    let prefix = c.args.prefix.now in
    let text = c.key-rest.result.now in
    let v = entry_value c.advance.new.self in
    let long = length-append prefix text in
    let size : c.in_ok-page.field-0 ≡ length (texts_of inv.items) + length (prefix ++ text) =
    omega (arith, c.in_ok-page.ensures, inv.size, long) in (
      inv.items ++ (prefix ++ text, v) ∷ [],
      All-push (λ e. IsUtf8 e.0) inv.items (prefix ++ text, v) inv.texts (IsUtf8-append prefix text c.utf8.prefix c.key-rest.utf8),
      page_short c.args.most_words c.args.most_bytes inv.items
          (record { words = c.loop-listed.page.words; texts = c.loop-listed.page.texts; size = c.in_ok-page.field-0 })
          (record { words_are = inv.held.words_are; texts_are = inv.held.texts_are }) (omega (arith, inv.count, inv.within)) inv.short
          (prefix ++ text, v) [] (omega (arith, inv.count, c.loop-listed-test.true))
          (omega (arith, c.if-page-most_bytes.true, size)) size,
    )

pub loop-listed-preserved : goal.loop-listed-preserved
loop-listed-preserved c =
    let inv = c.loop-listed.invariant in
    let prefix = c.args.prefix.now in
    let text = c.key-rest.result.now in
    let v = entry_value c.advance.new.self in
    let long = length-append prefix text in
    let size : c.in_ok-page.field-0 ≡ length (texts_of inv.items) + length (prefix ++ text) =
    omega (arith, c.in_ok-page.ensures, inv.size, long) in
    let same : to_z w32 (of_z w32 c.value.result) ≡ v = to_z-of_z w32 c.value.result (search rules) ∙ c.value.ensures in
    let pushed : IsPushed (record { words = c.loop-listed.page.words; texts = c.loop-listed.page.texts; size = c.in_ok-page.field-0 })
    (prefix ++ text) v c.push.new.self =
    subst
    (λ n. IsPushed (record { words = c.loop-listed.page.words; texts = c.loop-listed.page.texts; size = c.in_ok-page.field-0 })
    (prefix ++ text) n c.push.new.self) same c.in_ok-push.ensures in
    let texts : length (texts_of (inv.items ++ (prefix ++ text, v) ∷ [])) ≡ length (texts_of inv.items) + length (prefix ++ text) =
    ap length (texts-push inv.items (prefix ++ text, v)) ∙ length-append (texts_of inv.items) (prefix ++ text) in
    record {
      items = inv.items ++ (prefix ++ text, v) ∷ [];
      texts = All-push (λ e. IsUtf8 e.0) inv.items (prefix ++ text, v) inv.texts (IsUtf8-append prefix text c.utf8.prefix c.key-rest.utf8);
      held = Holds-push inv.items (prefix ++ text, v)
          (record { words = c.loop-listed.page.words; texts = c.loop-listed.page.texts; size = c.in_ok-page.field-0 }) c.push.new.self
          (record { words_are = inv.held.words_are; texts_are = inv.held.texts_are }) pushed;
      within = omega (arith, c.loop-listed-test.true);
      count = omega (arith, length-append inv.items ((prefix ++ text, v) ∷ []), inv.count);
      short = omega (arith, texts, size, c.if-page-most_bytes.false);
      size = pushed.size_is ∙ size ∙ sym texts;
      keys = λ m h.
          let k = inv.keys m h in
          let reached : Advances k.0 (Ok true) c.advance.new.self = rw c.if-not-branch.false at (c.in_ok-advance.ensures.tells k.0 k.1) in (
            reached.1,
            reached.4,
            next_visited inv.items (prefix ++ text, v) _ _
                (next_shown prefix text reached.0 v m k.0 reached.1 inv.items k.2 reached.2 (c.key-rest.ensures ∙ reached.3)),
          );
    }
