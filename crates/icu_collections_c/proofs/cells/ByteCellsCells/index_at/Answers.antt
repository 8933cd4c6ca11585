use Rattle.std.proofs.Common.{Some, refl}
use Rattle.icu_zerovec.specs.PackedBytes.{number_of}
use Rattle.icu_collections_c.proofs.CellLemmas.{length-values_of}
use Rattle.icu_collections_c.proofs.cells.ByteCellsCells.index_at.Goals as goal

pub value_there-requires : goal.value_there-requires
value_there-requires g c =
    rw (length-values_of (λ cell. Some (number_of 2 cell)) 2 (λ _. refl) c.args.self.now.index.now) at c.requires
