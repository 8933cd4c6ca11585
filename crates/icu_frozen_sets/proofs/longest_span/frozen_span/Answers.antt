-- A short text in ASCII is passed here, and other ones by `near_span_from`.
use Rattle.std.proofs.Common.{◌<◌, ◌≤◌, arith, length, ℕ, Bool, List}
use Rattle.icu_frozen_sets.specs.FrozenWords.{is_held}
use Rattle.icu_frozen_sets.proofs.LongestSpanLemmas.{after_ascii, ascii_to_end, ascii_to_other, starts}
use Rattle.icu_frozen_sets.proofs.longest_span.frozen_span.Goals as goal

pub returns-then-bytes-ge128 : goal.returns-then-bytes-ge128
returns-then-bytes-ge128 c =
    c.near_span_from.ensures (starts (is_held c.args.table.now) c.args.held c.args.bytes.now)

pub returns-then-bytes-passed-lt128 : goal.returns-then-bytes-passed-lt128
returns-then-bytes-passed-lt128 c =
    let is_in = is_held c.args.table.now in
    let held : Bool = c.args.held in
    let bytes : List ℕ = c.args.bytes.now in
    let n : ℕ = c.skip_ascii-passed.result in
    let a = rw c.new.ensures at c.skip_ascii-passed.ensures in
    let more : n < length bytes = omega (arith, c.if-passed-near.true, c.min-near.ensures) in
    ascii_to_other is_in held bytes 0 n a.order (omega (arith, more)) a.ascii (a.passed tt) (starts is_in held bytes) more
    c.if-bytes-passed-lt128.true (a.stops tt c.if-passed-near.true c.if-bytes-passed-lt128.true)

pub returns-then-passed-bytes : goal.returns-then-passed-bytes
returns-then-passed-bytes c =
    let is_in = is_held c.args.table.now in
    let held : Bool = c.args.held in
    let bytes : List ℕ = c.args.bytes.now in
    let n : ℕ = c.skip_ascii-passed.result in
    let a = rw c.new.ensures at c.skip_ascii-passed.ensures in
    let within : n ≤ length bytes = omega (arith, a.within, c.min-near.ensures) in
    ascii_to_end is_in held bytes 0 n a.order within a.ascii (a.passed tt) (starts is_in held bytes) c.if-passed-bytes.true

pub returns : goal.returns
returns c =
    let is_in = is_held c.args.table.now in
    let held : Bool = c.args.held in
    let bytes : List ℕ = c.args.bytes.now in
    let n : ℕ = c.skip_ascii-passed.result in
    let a = rw c.new.ensures at c.skip_ascii-passed.ensures in
    let within : n ≤ length bytes = omega (arith, a.within, c.min-near.ensures) in
    let alike = after_ascii is_in held bytes 0 n a.order within a.ascii (a.passed tt) (starts is_in held bytes) in
    c.near_span_from-2.ensures alike
