use Rattle.icu_invlist.proofs.HeldMembers.{characters_are_held, characters_rise}
use Rattle.icu_invlist.proofs.codepointinvlist.cpinvlist.CodePointInversionList.iter_chars.Goals as goal

pub returns-clause-held : goal.returns-clause-held
returns-clause-held c = λ c'. rw (← c.self.view_is) (characters_are_held c.self.inside.ends c.self.invariant.0 c')

pub returns-clause-ascending : goal.returns-clause-ascending
returns-clause-ascending c = rw (← c.self.view_is) (characters_rise c.self.inside.ends c.self.invariant.0)
