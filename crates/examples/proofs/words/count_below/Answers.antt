use Rattle.std.proofs.Common.{◌≡◌, ◌∙◌, ◌+◌, ap, sym, refl, subst, rules, arith, Bool, true, false, Ok, Err, Some, Result, [], ◌∷◌, length, suc}
use Rattle.std.specs.Char.Escape.{encode_utf16}
use Rattle.std.specs.List.{flat_map}
use Rattle.std.specs.Result.{result_ok}
use Rattle.std.specs.Str.{chars}
use Rattle.icu_collections.specs.Char16Trie.{Advances, UnitMap, after_all}
use Rattle.icu_collections.specs.declared.char16trie.Entries.{Entries}
use Rattle.icu_collections.specs.declared.zerovec.MemoryError.{MemoryError}
use Rattle.examples.proofs.words.count_below.Goals as goal

told : (m : UnitMap) (r : Result Bool MemoryError) (b b' : Bool) (e : Entries) → Some b ≡ result_ok r → b ≡ b' → Advances m r e
    → Advances m (Ok b') e
told m (Ok y) b b' e some is h = subst (λ z. Advances m (Ok z) e) (same some ∙ is) h
  where
    same : Some b ≡ result_ok {E = MemoryError} (Ok y) → y ≡ b
    same h = cc
told m (Err y) b b' e some is h = cc

pub loop-words-init : goal.loop-words-init
loop-words-init c = λ m h.
    let w = flat_map encode_utf16 (chars c.args.prefix.now) in (
      after_all w m,
      c.entries-words.ensures.to_come m w
          ((c.write_str.ensures.ok (rw c.write_str.ensures.always refl)).after m [] (c.cursor-cursor.ensures.root m h)),
      omega (arith),
    )

pub loop-words-preserved : goal.loop-words-preserved
loop-words-preserved c = λ m h.
    let before = c.loop-words.invariant m h in
    let reached : Advances before.0 (Ok true) c.advance.new.self =
    told before.0 c.advance.result _ true c.advance.new.self c.in_ok-ok.ensures.value c.if-branch.true
    (c.advance.ensures.tells before.0 before.1) in
    let fewer : length before.0 ≡ suc (length reached.1) = ap length reached.2 in (
      reached.1,
      reached.4,
      omega (arith, fewer, before.2),
    )

pub returns : goal.returns
returns c = λ m h.
    let before = c.loop-words.invariant m h in
    let none : Advances before.0 (Ok false) c.advance.new.self =
    told before.0 c.advance.result _ false c.advance.new.self c.in_ok-ok.ensures.value c.if-branch.false
    (c.advance.ensures.tells before.0 before.1) in
    let empty : length before.0 ≡ 0 = ap length none in
    omega (arith, empty, before.2)
