use Rattle.std.proofs.Common.{◌≡◌, ◌+◌, Bool, true, false, not, take, refl, arith}
use Rattle.icu_char16trie.specs.UnitMap.{goes_on}
use Rattle.icu_char16trie.specs.UnitPlaces.{HasPassed}
use Rattle.icu_char16trie.proofs.FrontLemmas.{take_next}
use Rattle.icu_char16trie.proofs.MatchLemmas.{next_left, none_beyond_front, none_beyond_text}
use Rattle.icu_char16trie.proofs.matches.Matches.go_on.Goals as goal
use Rattle.icu_char16trie.proofs.matches.Matches.go_on.Goals.{else-length-text-via-then-length-text+else-not-is_empty, else-length-text-via-else-length-text}

pub returns-then-not-is_empty : goal.returns-then-not-is_empty
returns-then-not-is_empty c = record {
  text = refl;
  left = λ m within after.
      let unit = take_next c.args.self.now.text.now c.args.length (c.args.length + 1) refl c.if-length-text.true in
      let passed : HasPassed c.step16.new.self m (take (c.args.length + 1) c.args.self.now.text.now) =
      rw unit at (c.step16.ensures.after m _ after) in
      next_left c.step16.new.self c.args.self.now.text.now c.args.length m c.if-length-text.true passed;
  fewer = omega (arith, c.if-length-text.true);
}

ends : (b g : Bool) → b ≡ not g → b ≡ true → g ≡ false
ends b true e h = cc
ends b false e h = refl

pub returns-else-length-text : goal.returns-else-length-text
returns-else-length-text c =
    elim c.else-length-text.branch [
      | else-length-text-via-then-length-text+else-not-is_empty w ↦ record {
        text = refl;
        left = λ m within after.
            let over : goes_on m (take c.args.length c.args.self.now.text.now) ≡ false =
            ends w.is_empty.result _ (w.is_empty.ensures.empty m _ after) w.if-not-is_empty.false in
            none_beyond_front m c.args.self.now.text.now c.args.length within over;
        fewer = omega arith;
      }
      | else-length-text-via-else-length-text w ↦ record {
        text = refl;
        left = λ m within after. none_beyond_text m c.args.self.now.text.now c.args.length w.if-length-text.false;
        fewer = omega arith;
      }
    ]
