use Rattle.std.proofs.Common.{[], refl, sym, arith, append-nil}
use Rattle.icu_char16trie.specs.NextUnits.{in_run, in_short, in_long, no_length}
use Rattle.icu_char16trie.proofs.next_units.add_match.Goals as goal

pub returns-then-low-ge-MIN_LINEAR_MATCH : goal.returns-then-low-ge-MIN_LINEAR_MATCH
returns-then-low-ge-MIN_LINEAR_MATCH c = (_, in_run _ _ _ c.if-low-ge-MIN_LINEAR_MATCH.true refl, c.in_ok-add_unit.ensures)

pub returns-then-low-gt0 : goal.returns-then-low-gt0
returns-then-low-gt0 c =
    let a = c.in_ok-add_part.ensures in (a.0, in_short _ _ a.0 c.if-low-gt0.true c.if-low-ge-MIN_LINEAR_MATCH.false a.1, a.2)

pub returns-in_ok-add_part-2 : goal.returns-in_ok-add_part-2
returns-in_ok-add_part-2 c = let a = c.in_ok-add_part-2.ensures in
    (a.0, in_long _ _ c.in-Some.length a.0 (omega arith) (sym c.in-Some.ensures.unit) a.1, a.2)

pub returns-in_default : goal.returns-in_default
returns-in_default c = ([], no_length _ _ [] (omega arith) (sym c.in_default.ensures.unit) refl, sym (append-nil c.args.list.now.items))
