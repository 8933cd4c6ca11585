use Rattle.std.proofs.Common.{◌≡◌, ◌+◌, ◌-◌, length}
use Rattle.icu_invlist.specs.Inside.StillGiven.{characters_left}
use Rattle.icu_invlist.proofs.codepointinvlist.iter.IterCharsIterator.next.Given as goal

abbrev pub invariant-loop-found : goal.invariant-loop-found
invariant-loop-found l =
    characters_left l.initial.self-inside.next l.initial.self-inside.end l.initial.self-inside.ends
    l.initial.self-inside.last.0 l.initial.self-inside.last.1
    ≡ characters_left l.self-inside.next l.self-inside.end l.self-inside.ends l.self-inside.last.0 l.self-inside.last.1

abbrev pub decreases-loop-found : goal.decreases-loop-found
decreases-loop-found l = length l.self-inside.ends + (l.self-inside.last.1 - l.self-inside.last.0)
