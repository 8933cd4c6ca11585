-- If each value has one encoding, the bytes of the vector are those that the values pack to.
use Rattle.std.proofs.Common.{◌≡◌, sym, ◌∙◌, ap, rules}
use Rattle.std.specs.List.{flat_map}
use Rattle.icu_zerovec.specs.Store.{bytes_of}
use Rattle.icu_zerovec.specs.Cells.{values_of}
use Rattle.icu_zerovec.proofs.CellsLemmas.{flat_map-values_of}
use Rattle.icu_zerovec.proofs.vec.ZeroVec.try_into_converted.Goals as goal

pub returns-in_err-test-clause-err : goal.returns-in_err-test-clause-err
returns-in_err-test-clause-err g c =
    let T = g.T.AsULE in
    λ one.
    let e : bytes_of c.self.inside.store ≡ flat_map T.pack c.args.self =
    sym (flat_map-values_of T.unpack T.WIDTH T.pack one (bytes_of c.self.inside.store) c.self.invariant)
    ∙ ap (flat_map T.pack) c.self.view_is in
    rw (← e) (rw (← c.bytes.ensures) (search rules))

pub returns-clause-ok : goal.returns-clause-ok
returns-clause-ok g c =
    let T = g.T.AsULE in
    let P = g.P.AsULE in
    λ one.
    let e : bytes_of c.self.inside.store ≡ flat_map T.pack c.args.self =
    sym (flat_map-values_of T.unpack T.WIDTH T.pack one (bytes_of c.self.inside.store) c.self.invariant)
    ∙ ap (flat_map T.pack) c.self.view_is in
    ap (values_of P.unpack P.WIDTH) e

pub returns-clause-keeps : goal.returns-clause-keeps
returns-clause-keeps g c =
    let T = g.T.AsULE in
    let P = g.P.AsULE in
    λ one also.
    let e : bytes_of c.self.inside.store ≡ flat_map T.pack c.args.self =
    sym (flat_map-values_of T.unpack T.WIDTH T.pack one (bytes_of c.self.inside.store) c.self.invariant)
    ∙ ap (flat_map T.pack) c.self.view_is in
    flat_map-values_of P.unpack P.WIDTH P.pack also (bytes_of c.self.inside.store) (rw (← c.bytes.ensures) c.in_ok-test.ensures.ok) ∙ e
