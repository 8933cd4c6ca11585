use Rattle.std.proofs.Common.{◌≡◌, ◌≤◌, length}
use Rattle.std.specs.Io.KnownBytes.{Consumes}
use Rattle.ucptab_table.proofs.input.read_all.Given as goal

abbrev pub invariant-loop-turn : goal.invariant-loop-turn
invariant-loop-turn g l =
    let source = g.S.Source in
    record {
      room : l.turn ≤ length l.all.items;
      counted : source.failures l.reader ≡ source.failures l.initial.reader;
      bytes : Consumes (source.remaining l.initial.reader) (source.remaining l.reader) l.all.items;
    }
