-- If each value has one encoding, the bytes are those that their values pack to.
use Rattle.std.proofs.Common.{sym, ◌∙◌, ap}
use Rattle.std.specs.List.{flat_map}
use Rattle.icu_zerovec.specs.Store.{bytes_of}
use Rattle.icu_zerovec.proofs.CellsLemmas.{flat_map-values_of}
use Rattle.icu_zerovec.proofs.vec.ZeroVec.as_bytes.Goals as goal

pub returns-clause-canonical : goal.returns-clause-canonical
returns-clause-canonical g c =
    let T = g.T.AsULE in
    λ one. c.bytes.ensures ∙ sym (flat_map-values_of T.unpack T.WIDTH T.pack one (bytes_of c.self.inside.store) c.self.invariant)
    ∙ ap (flat_map T.pack) c.self.view_is
