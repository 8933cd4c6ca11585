use Rattle.std.proofs.Common.{◌≤◌, arith}
use Rattle.icu_char16trie.proofs.PassedLemmas.{passes_unit, passes_then, two_units}
use Rattle.icu_char16trie.proofs.cursor.Char16TrieCursor.step32.Goals as goal

pub returns-then-c-le1114111-clause-within : goal.returns-then-c-le1114111-clause-within
returns-then-c-le1114111-clause-within c = λ _.
    let from : 0x1_0000 ≤ c.args.c = omega (arith, c.in_default.ensures) in
    let a = c.step16-then-c-le1114111.ensures in
    let b = c.step16-then-c-le1114111-2.ensures in
    rw (two_units c.args.c from)
    (passes_then _ _ _ _ _ (passes_unit c.args.self.now c.step16-then-c-le1114111.new.self _ a.units a.exact a.after)
    (passes_unit c.step16-then-c-le1114111.new.self c.step16-then-c-le1114111-2.new.self _ b.units b.exact b.after))
