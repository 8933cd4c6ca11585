-- If each value has one encoding, the bytes are those that their values pack to.
use Rattle.std.proofs.Common.{sym}
use Rattle.icu_zerovec.proofs.CellsLemmas.{flat_map-values_of}
use Rattle.icu_zerovec.proofs.slice.ZeroSlice.as_bytes.Goals as goal

pub returns-clause-canonical : goal.returns-clause-canonical
returns-clause-canonical g c =
    let T = g.T.AsULE in
    λ one. sym (flat_map-values_of T.unpack T.WIDTH T.pack one c.args.self.now.bytes.now c.args.self.now.packed)
