-- What is read has the values of what was written, and the copy is what was read.
use Rattle.std.proofs.Common.{◌≡◌, rules}
use Rattle.examples.proofs.stored.through_a_file.Goals as goal

pub returns : goal.returns
returns c n x e =
    let is : c.in_ok-bytes.bytes.items ≡ c.deref.result.now = search rules in
    let same : c.in_ok-copy.copy ≡ c.in_ok-read.read = search rules in
    rw same (c.in_ok-bytes.ensures.answers c.in_ok-read.read c.in_ok-read.field-0-1 (rw is c.in_ok-read.ensures.ok) n x e)
