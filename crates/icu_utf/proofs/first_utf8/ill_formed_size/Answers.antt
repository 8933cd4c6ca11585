use Rattle.icu_utf.proofs.Utf8Absent.{no_one}
use Rattle.icu_utf.proofs.first_utf8.ill_formed_size.Goals as goal

pub returns-then-lead-lt224 : goal.returns-then-lead-lt224
returns-then-lead-lt224 c = no_one c.args.bytes.now c.requires.none c.requires.some c.if-lead-lt224.true
