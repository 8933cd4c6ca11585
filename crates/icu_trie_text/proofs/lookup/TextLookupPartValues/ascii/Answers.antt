use Rattle.std.proofs.Common.{◌≡◌, ◌∙◌, ◌%◌, ◌<◌, ℕ, sym, arith}
use Rattle.icu_trie_text.proofs.lookup.TextLookupPartValues.ascii.Goals as goal

pub returns : goal.returns
returns g c =
    let cells = c.args.self.now in
    let at : ℕ = c.args.c in
    let ascii = cells.in_place.ascii in
    let below : at < 0x80 = omega (arith, ascii, c.requires) in
    let same : c.from.result % 128 ≡ at = omega (arith, c.from.ensures, below) in
    let width : g.T.AsULE.WIDTH ≡ 1 = omega (arith, c.WIDTH.ensures, c.if-WIDTH-eq1.true) in
    cells.in_place.in_place at c.requires ∙ sym (cells.bytes (omega (arith, c.requires)) width at below) ∙ sym (rw same at c.in-Some.ensures)
