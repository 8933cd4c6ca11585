use Rattle.std.proofs.Common.{◌≡◌, ◌∙◌, ap, sym, refl, subst, append_assoc, rules, Bool, true, false, Ok, Err, Some, Result, List, [], ◌∷◌, ◌++◌, String, ℤ, map}
use Rattle.std.specs.Prelude.{string_bytes}
use Rattle.std.specs.Char.Escape.{encode_utf16}
use Rattle.std.specs.Global.{Global}
use Rattle.std.specs.List.{flat_map}
use Rattle.std.specs.Result.{result_ok}
use Rattle.std.specs.Str.{chars}
use Rattle.std.proofs.lemmas.List.{append-nil}
use Rattle.icu_collections.specs.Char16Trie.{Advances, AreEntries, UnitMap, after_all, entry_text, entry_value}
use Rattle.icu_collections.specs.declared.char16trie.Entries.{Entries}
use Rattle.icu_collections.specs.declared.zerovec.MemoryError.{MemoryError}
use Rattle.examples.proofs.words.completions.Goals as goal

told : (m : UnitMap) (r : Result Bool MemoryError) (b b' : Bool) (e : Entries) → Some b ≡ result_ok r → b ≡ b' → Advances m r e
    → Advances m (Ok b') e
told m (Ok y) b b' e some is h = subst (λ z. Advances m (Ok z) e) (same some ∙ is) h
  where
    same : Some b ≡ result_ok {E = MemoryError} (Ok y) → y ≡ b
    same h = cc
told m (Err y) b b' e some is h = cc

-- One more entry at the end of the list, and the others after it.
one_more : (m : UnitMap) (items new ys : List (String Global × ℤ)) (y : String Global × ℤ) → new ≡ items ++ y ∷ []
    → AreEntries (map Ok (items ++ y ∷ ys)) m → AreEntries (map Ok (new ++ ys)) m
one_more m items new ys y e h =
    subst (λ z. AreEntries (map Ok z) m) (sym (ap (λ z. z ++ ys) e ∙ append_assoc items (y ∷ []) ys)) h

pub loop-list-init : goal.loop-list-init
loop-list-init c = λ m h.
    let w = flat_map encode_utf16 (chars c.args.prefix.now) in
    let none : c.new-list.result.items ≡ [] = search rules in (
      after_all w m,
      c.entries-entries.ensures.to_come m w
          ((c.write_str.ensures.ok (rw c.write_str.ensures.always refl)).after m [] (c.cursor-cursor.ensures.root m h)),
      λ ys e. subst (λ z. AreEntries (map Ok (z ++ ys)) (after_all w m)) (sym none) e,
    )

pub loop-list-preserved : goal.loop-list-preserved
loop-list-preserved c = λ m h.
    let before = c.loop-list.invariant m h in
    let reached : Advances before.0 (Ok true) c.advance.new.self =
    told before.0 c.advance.result _ true c.advance.new.self c.in_ok-ok.ensures.value c.if-branch.true
    (c.advance.ensures.tells before.0 before.1) in
    let pushed : c.push.new.self.items ≡ c.loop-list.list.items ++ (c.in_ok-text.text, c.value.result) ∷ [] = search rules in
    let text : string_bytes c.in_ok-text.text ≡ entry_text c.advance.new.self = search rules in
    let value : c.value.result ≡ entry_value c.advance.new.self = c.value.ensures in
    let first : before.0 ≡ (reached.0, c.value.result) ∷ reached.1 = reached.2 ∙ ap (λ v. (reached.0, v) ∷ reached.1) (sym value) in (
      reached.1,
      reached.4,
      λ ys e. one_more _ c.loop-list.list.items c.push.new.self.items ys (c.in_ok-text.text, c.value.result) pushed
          (before.2 ((c.in_ok-text.text, c.value.result) ∷ ys) (reached.0, reached.1, first, text ∙ reached.3, e)),
    )

pub returns : goal.returns
returns c = λ m h.
    let before = c.loop-list.invariant m h in
    let none : Advances before.0 (Ok false) c.advance.new.self =
    told before.0 c.advance.result _ false c.advance.new.self c.in_ok-ok.ensures.value c.if-branch.false
    (c.advance.ensures.tells before.0 before.1) in
    subst (λ z. AreEntries (map Ok z) (after_all (flat_map encode_utf16 (chars c.args.prefix.now)) m)) (append-nil c.loop-list.list.items)
    (before.2 [] none)
