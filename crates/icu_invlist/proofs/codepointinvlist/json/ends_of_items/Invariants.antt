use Rattle.icu_invlist.proofs.JsonLemmas.{RangesRead}
use Rattle.icu_invlist.proofs.codepointinvlist.json.ends_of_items.Given as goal

abbrev pub invariant-loop-i : goal.invariant-loop-i
invariant-loop-i l = RangesRead l.items l.i l.ends.items
