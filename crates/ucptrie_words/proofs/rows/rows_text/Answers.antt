use Rattle.std.proofs.Common.{◌≡◌, ◌∙◌, refl, ap, sym, subst, rules, true, false, Ok, [], ◌∷◌, ◌++◌}
use Rattle.std.specs.Prelude.{string_bytes}
use Rattle.std.proofs.lemmas.List.{append-nil}
use Rattle.icu_char16trie.specs.Listing.{Advances, entry_text, entry_value}
use Rattle.ucptrie_words.specs.Rows.{AreRowsOf, can_be_key, line_of}
use Rattle.ucptrie_words.proofs.RowSteps.{first_here, first_later, key_of_error, no_rows, rows_after, rows_cons}
use Rattle.ucptrie_words.proofs.rows.rows_text.Goals as goal

pub loop-entries-init : goal.loop-entries-init
loop-entries-init c = λ m h.
    let none : string_bytes c.new-text.result ≡ [] = search rules in
    (m, c.entries-entries.ensures.to_come m h, λ more rows. subst (λ z. AreRowsOf m (z ++ more)) (sym none) rows, refl)

pub loop-entries-preserved : goal.loop-entries-preserved
loop-entries-preserved c = λ m h.
    let before = c.loop-entries.invariant m h in
    let reached : Advances before.0 (Ok true) c.advance.new.self =
    subst (λ b. Advances before.0 (Ok b) c.advance.new.self) c.if-branch.true (c.in_ok-advance.ensures.tells before.0 before.1) in
    let text : c.key.result.now ≡ entry_text c.advance.new.self = c.key.ensures in
    let value : c.value.result ≡ entry_value c.advance.new.self = c.value.ensures in
    let first : before.0 ≡ (reached.0, c.value.result) ∷ reached.1 = reached.2 ∙ ap (λ v. (reached.0, v) ∷ reached.1) (sym value) in
    let can : can_be_key c.key.result.now ≡ true = c.in_ok-push_row.ensures.can_be in
    let pushed : string_bytes c.push_row.new.text ≡ string_bytes c.loop-entries.text ++ line_of c.key.result.now c.value.result =
    search rules in (
      reached.1,
      reached.4,
      λ more rows. rows_after m (string_bytes c.loop-entries.text) _ _ more pushed
          (before.2 _ (rows_cons reached.0 _ reached.1 before.0 _ more first (text ∙ reached.3) can rows)),
      before.3 ∙ first_later reached.0 _ reached.1 before.0 _ first (text ∙ reached.3) can,
    )

pub returns-in_err-push_row-clause-key : goal.returns-in_err-push_row-clause-key
returns-in_err-push_row-clause-key c = λ m key h.
    let before = c.loop-entries.invariant m h in
    let reached : Advances before.0 (Ok true) c.advance.new.self =
    subst (λ b. Advances before.0 (Ok b) c.advance.new.self) c.if-branch.true (c.in_ok-advance.ensures.tells before.0 before.1) in
    let text : c.key.result.now ≡ entry_text c.advance.new.self = c.key.ensures in
    key_of_error c.from_residual-in_err-push_row.result c.in_err-push_row.field-0.0 m c.key.result.now key
    c.from_residual-in_err-push_row.ensures.1
    (λ none. before.3 ∙ first_here reached.0 _ reached.1 before.0 c.key.result.now reached.2 (text ∙ reached.3) none)
    c.in_err-push_row.ensures.err

pub returns-clause-rows : goal.returns-clause-rows
returns-clause-rows c = λ m h.
    let before = c.loop-entries.invariant m h in
    let none : Advances before.0 (Ok false) c.advance.new.self =
    subst (λ b. Advances before.0 (Ok b) c.advance.new.self) c.if-branch.false (c.in_ok-advance.ensures.tells before.0 before.1) in
    subst (λ z. AreRowsOf m z) (append-nil (string_bytes c.loop-entries.text)) (before.2 [] (no_rows before.0 none))
