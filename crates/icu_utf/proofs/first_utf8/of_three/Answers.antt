use Rattle.icu_utf.proofs.Utf8Parts.{made_character}
use Rattle.icu_utf.proofs.first_utf8.of_three.Goals as goal

pub returns : goal.returns
returns c = made_character c.args.bytes.now c.from_u32.result _ 3 c.from_u32.ensures.value c.in_ok-block.ensures.1
