use Rattle.std.proofs.Common.{ap, sym, ◌∙◌}
use Rattle.icu_invlist.specs.InversionList.{is_odd}
use Rattle.icu_invlist.proofs.Parity.{holds-ends_below}
use Rattle.icu_invlist.proofs.PlaceLemmas.{not_past_limit}
use Rattle.icu_invlist.proofs.codepointinvlist.cpinvlist.CodePointInversionList.contains32.Goals as goal

pub returns-clause-held : goal.returns-clause-held
returns-clause-held c = ap is_odd c.place_of.ensures.place ∙ sym (holds-ends_below _ c.args.c)

pub returns-clause-far : goal.returns-clause-far
returns-clause-far c = λ h. ap is_odd c.place_of.ensures.place
    ∙ (sym (holds-ends_below _ c.args.c) ∙ not_past_limit _ c.args.c c.place_of.ensures.valid h)
