use Rattle.std.proofs.Common.{rules, ◌≡◌, Err}
use Rattle.ucptrie_readers.specs.declared.error.ReadError.TheVariants.{Binary}
use Rattle.ucptrie_tables.specs.declared.width.ValueWidth.TheVariants.{Bits8, Bits16, Bits32}
use Rattle.ucptrie_readers.proofs.WidthLemmas.{IsBinaryOf-widened}
use Rattle.ucptrie_readers.proofs.read.table_of_binary.Goals as goal

pub returns-in_err-read-clause-err : goal.returns-in_err-read-clause-err
returns-in_err-read-clause-err c =
    let given : c.from_residual.result ≡ Err (Binary c.in_err-read.field-0.0) = search rules in
    rw given c.in_err-read.ensures.err

pub returns-in-Bits8-clause-ok : goal.returns-in-Bits8-clause-ok
returns-in-Bits8-clause-ok c =
    let stored = rw c.in-Bits8.is at c.in_ok-read.ensures.ok in
    IsBinaryOf-widened Bits8 _ _ c.args.file.now _ _ stored c.widened.result c.widened.ensures.trie c.widened.ensures.width

pub returns-in-Bits16-clause-ok : goal.returns-in-Bits16-clause-ok
returns-in-Bits16-clause-ok c =
    let stored = rw c.in-Bits16.is at c.in_ok-read.ensures.ok in
    IsBinaryOf-widened Bits16 _ _ c.args.file.now _ _ stored c.widened-in-Bits16.result c.widened-in-Bits16.ensures.trie
    c.widened-in-Bits16.ensures.width

pub returns-in-Bits32-clause-ok : goal.returns-in-Bits32-clause-ok
returns-in-Bits32-clause-ok c =
    let stored = rw c.in-Bits32.is at c.in_ok-read.ensures.ok in
    IsBinaryOf-widened Bits32 _ _ c.args.file.now _ _ stored c.widened-in-Bits32.result c.widened-in-Bits32.ensures.trie
    c.widened-in-Bits32.ensures.width
