-- The page that was gathered is written.
use Rattle.std.proofs.Common.{◌≡◌, ◌∙◌, ◌<◌, ◌^◌, ℕ, ℤ, List, [], inl, sym, ap, subst, drop, length, to_z, w64, rules, arith}
use Rattle.std.specs.Str.{IsUtf8}
use Rattle.std.proofs.lemmas.Int.{to_z_pos}
use Rattle.std.proofs.lemmas.List.Elements.{All-nil}
use Rattle.icu_zerovec.specs.Buffers.{written}
use Rattle.icu_collections_c.specs.Inside.Pages.{IsPage}
use Rattle.icu_collections_c.specs.UnitPages.{AnswersPage, HasPage, below}
use Rattle.icu_collections_c.proofs.UnitPageLemmas.{has_page}
use Rattle.icu_collections_c.proofs.unit_pages.bks_units_list_below.Goals as goal
use Rattle.icu_collections_c.proofs.unit_pages.bks_units_list_below.Goals.{After-drop-page-in-Ok-page_below}

answers : (c : After-drop-page-in-Ok-page_below) (items : List (List ℕ × ℤ))
    → IsPage items (length c.args.words.now) (length c.args.texts.now) c.in-Ok-page_below.page
    → AnswersPage (IsUtf8 c.args.prefix.now) items c.args.words.now c.write.new.buffer c.args.texts.now
    c.write-in-Ok-page_below.new.buffer c.args.texts_size.now c.in-Ok-page_below.page.size (to_z w64 c.len.result)
answers c items is =
    let page = c.in-Ok-page_below.page in
    let words : c.write.new.buffer ≡ written page.words.items c.args.words.now =
    c.write.ensures ∙ ap (λ ws. written ws c.args.words.now) c.deref.ensures.value in
    let texts : c.write-in-Ok-page_below.new.buffer ≡ written page.texts.items c.args.texts.now =
    c.write-in-Ok-page_below.ensures ∙ ap (λ ts. written ts c.args.texts.now) c.deref-in-Ok-page_below.ensures.value in
    let small : c.len.result < 2 ^ 63 = search rules in
    let count : c.len.result ≡ length page.words.items =
    omega (arith, c.len.ensures, c.deref.ensures.len, ap length c.deref.ensures.value) in
    inl (
      c.in-Ok.ensures.cases.1,
      c.len.result,
      to_z_pos w64 c.len.result small,
      subst (λ n. HasPage items c.args.words.now c.write.new.buffer c.args.texts.now c.write-in-Ok-page_below.new.buffer page.size n)
          (sym count)
          (rw (words, texts) (has_page items c.args.words.now c.args.texts.now page is)),
    )

pub returns-in_default-clause-any : goal.returns-in_default-clause-any
returns-in_default-clause-any c = ([], All-nil (λ e. IsUtf8 e.0), search rules)

pub returns-in-Err-clause-any : goal.returns-in-Err-clause-any
returns-in-Err-clause-any c = ([], All-nil (λ e. IsUtf8 e.0), search rules)

pub returns-in-Ok-page_below-clause-keys : goal.returns-in-Ok-page_below-clause-keys
returns-in-Ok-page_below-clause-keys c = λ m h.
    answers c (drop c.args.skipped (below c.args.prefix.now m))
    (subst
    (λ t. IsPage (drop c.args.skipped (below t m)) (length c.args.words.now) (length c.args.texts.now) c.in-Ok-page_below.page)
    c.in-Ok.ensures.cases.0 (c.in-Ok-page_below.ensures.keys m h))

pub returns-in-Ok-page_below-clause-any : goal.returns-in-Ok-page_below-clause-any
returns-in-Ok-page_below-clause-any c =
    let some = c.in-Ok-page_below.ensures.any in
    (some.0, some.1, answers c some.0 some.2)
