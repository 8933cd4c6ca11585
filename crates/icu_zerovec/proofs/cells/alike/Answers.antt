-- Values are equal if and only if their packed bytes are.
use Rattle.std.proofs.Common.{◌-◌, replicate, ◌∙◌}
use Rattle.std.proofs.Common.{ap₂}
use Rattle.std.specs.Prelude.{nat_eq}
use Rattle.std.specs.Cmp.Lexicographic.{pointwise}
use Rattle.icu_zerovec.proofs.SameLemmas.{decided}
use Rattle.icu_zerovec.proofs.cells.alike.Goals as goal

pub returns : goal.returns
returns g c =
    let T = g.T.AsULE in let L = g.met.T.AsULE in
    decided T.unpack T.WIDTH T.pack T.is_value L.some_width L.length_of_pack L.gives_back c.args.x c.args.y (replicate (4 - T.WIDTH) 0)
    c.eq.result c.shown.ensures
    c.shown-2.ensures (c.eq.ensures ∙ ap₂ (pointwise nat_eq) c.to_unaligned.ensures c.to_unaligned-2.ensures)
