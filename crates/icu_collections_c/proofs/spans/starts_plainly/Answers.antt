use Rattle.std.proofs.lemmas.Bool.{ltb-true}
use Rattle.icu_collections_c.proofs.SpanLemmas.{ascii_starts}
use Rattle.icu_collections_c.proofs.spans.starts_plainly.Goals as goal

pub returns-else-is_empty : goal.returns-else-is_empty
returns-else-is_empty c = λ low some none. ascii_starts c.args.text.now some (ltb-true _ _ low) none
