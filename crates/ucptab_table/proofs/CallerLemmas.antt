-- Lemmas on printed lines that other crates may use.
--
-- What `{:04X}` prints: a number in at least four hexadecimal digits.
pub use Rattle.ucptab_table.proofs.Printed.{hex_written}
-- One line more of an input: the first line that is left, what is left after it, and the lines up to
-- it.
pub use Rattle.ucptab_table.proofs.RowSteps.{slice_get_left, left_after, front}
