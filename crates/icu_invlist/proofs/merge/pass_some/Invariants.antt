use Rattle.icu_invlist.proofs.merge.pass_some.Given as goal

abbrev pub ghost-pass_first : goal.ghost-pass_first
ghost-pass_first g a = g.base

abbrev pub ghost-pass_both : goal.ghost-pass_both
ghost-pass_both g a = g.base

abbrev pub ghost-pass_second : goal.ghost-pass_second
ghost-pass_second g a = g.base
