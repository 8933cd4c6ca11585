use Rattle.std.proofs.Common.{arith}
use Rattle.icu_trie_formats.proofs.JsonLemmas.{header_read}
use Rattle.icu_trie_formats.proofs.json.header_json.Goals as goal

pub returns-clause-back : goal.returns-clause-back
returns-clause-back c = header_read c.args.header (omega arith) (omega arith) (omega arith) (omega arith) (omega arith)
