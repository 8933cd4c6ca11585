use Rattle.std.proofs.Common.{◌≡◌, ◌<◌, inl, length, rules}
use Rattle.icu_utf.proofs.CharacterLemmas.{empty_starts}
use Rattle.icu_utf.proofs.Utf8Parts.{not_first}
use Rattle.icu_utf.proofs.characters.first_character.Goals as goal

pub returns-then-is_empty : goal.returns-then-is_empty
returns-then-is_empty c = let none : length c.args.bytes.now ≡ 0 = search rules in empty_starts c.args.bytes.now none

pub returns-then-lead-lt194 : goal.returns-then-lead-lt194
returns-then-lead-lt194 c =
    let some : 0 < length c.args.bytes.now = search rules in
    (not_first c.args.bytes.now some c.if-lead-lt128.false (inl c.if-lead-lt194.true)).no_character
