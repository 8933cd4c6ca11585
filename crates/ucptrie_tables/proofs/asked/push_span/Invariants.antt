use Rattle.std.proofs.Common.{◌≡◌, ◌-◌, ◌++◌}
use Rattle.ucptrie_tables.specs.Asked.{numbers_from}
use Rattle.ucptrie_tables.proofs.asked.push_span.Given as goal

-- The numbers so far are appended.
abbrev pub invariant-loop-number : goal.invariant-loop-number
invariant-loop-number l = l.asked.items ≡ l.initial.asked.items ++ numbers_from l.first (l.number - l.first)
