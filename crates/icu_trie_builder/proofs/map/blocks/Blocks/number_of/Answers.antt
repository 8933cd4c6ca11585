use Rattle.std.proofs.Common.{sym, refl, ◌/◌}
use Rattle.icu_trie_builder.proofs.MapLemmas.{number-in, number-in-one}
use Rattle.icu_trie_builder.proofs.map.blocks.Blocks.number_of.Goals as goal

pub returns-in-One : goal.returns-in-One
returns-in-One c = sym (number-in-one c.args.self.now.numbers (c.args.c / 16) c.args.c c.in-One.number c.in-One.ensures refl)

pub returns-in-Cells : goal.returns-in-Cells
returns-in-Cells c = sym (number-in c.args.self.now.numbers c.in-Cells.cells.now (c.args.c / 16) c.args.c c.in-Cells.ensures refl)
