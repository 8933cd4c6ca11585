use Rattle.std.proofs.Common.{[], refl}
use Rattle.std.specs.Char.Escape.{encode_utf16}
use Rattle.std.specs.List.{flat_map}
use Rattle.std.specs.Str.{chars}
use Rattle.examples.proofs.words.number_of_word.Goals as goal

pub returns : goal.returns
returns c = λ m h. c.value.ensures.value m (flat_map encode_utf16 (chars c.args.word.now))
    ((c.write_str.ensures.ok (rw c.write_str.ensures.always refl)).after m [] (c.cursor-cursor.ensures.root m h))
