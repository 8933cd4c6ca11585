-- The bytes of values are packed, and unpack to the values.
use Rattle.std.proofs.lemmas.List.Elements.{recursion_from_All}
use Rattle.icu_zerovec.proofs.CellsLemmas.{values_of-flat_map, IsPacked-flat_map}
use Rattle.icu_zerovec.proofs.vec.ZeroVec.alloc_from_iter.Goals as goal

pub invariant_of-result : goal.invariant_of-result
invariant_of-result g c =
    let T = g.T.AsULE in let L = g.met.T.AsULE in let p = c.in_ok-bytes.ensures in
    rw p.3
    (IsPacked-flat_map T.unpack T.WIDTH T.pack T.is_value L.some_width L.length_of_pack L.gives_back p.0
    (recursion_from_All T.is_value p.0 p.2) L.bytes_of_pack)

pub returns : goal.returns
returns g c =
    let T = g.T.AsULE in let L = g.met.T.AsULE in let p = c.in_ok-bytes.ensures in
    rw (
      p.3,
      values_of-flat_map T.unpack T.WIDTH T.pack T.is_value L.some_width L.length_of_pack L.gives_back p.0
          (recursion_from_All T.is_value p.0 p.2),
    ) p.1
