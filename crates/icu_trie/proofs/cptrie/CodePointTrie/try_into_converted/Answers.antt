-- The converted trie, value by value.
use Rattle.std.proofs.Common.{◌≡◌, ◌∙◌, sym, Ok, Err, subst}
use Rattle.icu_zerovec.specs.Cells.{IsConverted}
use Rattle.icu_zerovec.specs.declared.ule.UleError.TheVariants as bytes
use Rattle.icu_zerovec.proofs.CallerLemmas.{converted_ok, converted_err}
use Rattle.icu_trie.proofs.ConversionLemmas.{length-converted, fault-kept}
use Rattle.icu_trie.proofs.cptrie.CodePointTrie.try_into_converted.Goals as goal

pub with_data-requires : goal.with_data-requires
with_data-requires g c =
    let same : g.T.AsULE.WIDTH ≡ g.P.AsULE.WIDTH = sym c.WIDTH.ensures ∙ (c.if-WIDTH.false ∙ c.WIDTH-2.ensures) in
    fault-kept g.T.TrieValue.of_number g.P.TrieValue.of_number c.self.inside.header c.self.inside.index c.self.inside.«data» c.in-Ok.«data»
    (g.P.TrieValue.number c.in-Some.null) c.in-Some.null
    c.self.invariant
    (length-converted g.T.AsULE.unpack g.P.AsULE.unpack g.T.AsULE.WIDTH g.P.AsULE.WIDTH c.self.inside.«data» c.in-Ok.«data» same
    c.in-Ok.ensures.bytes)
    (g.met.P.TrieValue.number_gives_back c.in-Some.null c.shown.ensures)

pub returns-in-Err-Cell-clause-err : goal.returns-in-Err-Cell-clause-err
returns-in-Err-Cell-clause-err g c = λ one i is.
    let same : g.P.AsULE.WIDTH ≡ g.T.AsULE.WIDTH = sym c.WIDTH-2.ensures ∙ (sym c.if-WIDTH.false ∙ c.WIDTH.ensures) in
    let at : IsConverted g.T.AsULE.unpack g.T.AsULE.WIDTH g.P.AsULE.unpack g.T.AsULE.WIDTH c.self.inside.«data»
    (Err (bytes.Cell c.in-Err-Cell.i))
    = subst (λ w. IsConverted g.T.AsULE.unpack g.T.AsULE.WIDTH g.P.AsULE.unpack w c.self.inside.«data» (Err (bytes.Cell c.in-Err-Cell.i)))
    same (rw c.in-Err-Cell.field-0-is at c.in-Err-Cell.ensures.bytes) in
    let which : c.in-Err-Cell.i ≡ i = cc in
    rw (← which, ← c.self.view_is) (converted_err g.T.AsULE.unpack g.T.AsULE.WIDTH g.P.AsULE.unpack g.T.AsULE.pack one c.self.inside.«data»
    (Err (bytes.Cell c.in-Err-Cell.i)) at)

pub returns-clause-ok : goal.returns-clause-ok
returns-clause-ok g c = λ one.
    let same : g.P.AsULE.WIDTH ≡ g.T.AsULE.WIDTH = sym c.WIDTH-2.ensures ∙ (sym c.if-WIDTH.false ∙ c.WIDTH.ensures) in
    let at : IsConverted g.T.AsULE.unpack g.T.AsULE.WIDTH g.P.AsULE.unpack g.T.AsULE.WIDTH c.self.inside.«data» (Ok c.in-Ok.«data»)
    = subst (λ w. IsConverted g.T.AsULE.unpack g.T.AsULE.WIDTH g.P.AsULE.unpack w c.self.inside.«data» (Ok c.in-Ok.«data»)) same
    c.in-Ok.ensures.bytes in
    rw (c.with_data.ensures, ← c.self.view_is)
    (converted_ok g.T.AsULE.unpack g.T.AsULE.WIDTH g.P.AsULE.unpack g.T.AsULE.pack one c.self.inside.«data» (Ok c.in-Ok.«data») at)
