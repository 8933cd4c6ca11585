use Rattle.std.proofs.Common.{◌^◌, refl}
use Rattle.icu_zerovec.proofs.CallerLemmas.{canonical_u8, canonical_u16, canonical_u32}
use Rattle.ucptrie_tables.specs.declared.width.ValueWidth.TheVariants.{Bits8, Bits16}
use Rattle.ucptrie_forms.proofs.WidthLemmas.{binary_bytes-narrowed}
use Rattle.ucptrie_forms.proofs.WriteLemmas.{HasBinaryForm-narrowed-ok, IsWhyNotWritten-narrowed-err}
use Rattle.ucptrie_forms.proofs.written.binary.Goals as goal

pub returns-in-Bits8-clause-ok : goal.returns-in-Bits8-clause-ok
returns-in-Bits8-clause-ok c = binary_bytes-narrowed Bits8 _ _ _ (λ v. v.items) c.args.table.now c.in-Bits8.is c.binary_over.result
    canonical_u8 c.binary_over.ensures.ok

pub returns-in-Bits8-clause-room : goal.returns-in-Bits8-clause-room
returns-in-Bits8-clause-room c = HasBinaryForm-narrowed-ok Bits8 (2 ^ 8) (λ p. refl) _ c.args.table.now c.in-Bits8.is c.binary_over.result
    c.binary_over.ensures.ok

pub returns-in-Bits8-clause-err : goal.returns-in-Bits8-clause-err
returns-in-Bits8-clause-err c = IsWhyNotWritten-narrowed-err Bits8 (2 ^ 8) (λ p. refl) c.args.table.now c.in-Bits8.is c.binary_over.result
    c.binary_over.ensures.err

pub returns-in-Bits16-clause-ok : goal.returns-in-Bits16-clause-ok
returns-in-Bits16-clause-ok c = binary_bytes-narrowed Bits16 _ _ _ (λ v. v.items) c.args.table.now c.in-Bits16.is
    c.binary_over-in-Bits16.result canonical_u16 c.binary_over-in-Bits16.ensures.ok

pub returns-in-Bits16-clause-room : goal.returns-in-Bits16-clause-room
returns-in-Bits16-clause-room c = HasBinaryForm-narrowed-ok Bits16 (2 ^ 16) (λ p. refl) _ c.args.table.now c.in-Bits16.is
    c.binary_over-in-Bits16.result c.binary_over-in-Bits16.ensures.ok

pub returns-in-Bits16-clause-err : goal.returns-in-Bits16-clause-err
returns-in-Bits16-clause-err c = IsWhyNotWritten-narrowed-err Bits16 (2 ^ 16) (λ p. refl) c.args.table.now c.in-Bits16.is
    c.binary_over-in-Bits16.result c.binary_over-in-Bits16.ensures.err

pub returns-in_ok-to_binary-in-Bits32-clause-ok : goal.returns-in_ok-to_binary-in-Bits32-clause-ok
returns-in_ok-to_binary-in-Bits32-clause-ok c = rw c.in-Bits32.is (c.in_ok-to_binary-in-Bits32.ensures.bytes canonical_u32)
