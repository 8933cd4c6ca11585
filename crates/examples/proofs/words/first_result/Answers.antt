use Rattle.std.proofs.Common.{[]}
use Rattle.std.specs.Char.Escape.{encode_utf16}
use Rattle.examples.proofs.words.first_result.Goals as goal

pub returns : goal.returns
returns c = λ m h. c.next.ensures.told m (encode_utf16 c.args.c) (c.next.ensures.passes.after m [] (c.iter-iterator.ensures.root m h))
