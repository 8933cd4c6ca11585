use Rattle.icu_zerovec.specs.Slice.{slice_values}
use Rattle.std.proofs.Common.{◌+◌, sym, arith}
use Rattle.icu_char16trie.proofs.EntryLemmas.{branch_plain, branch_long}
use Rattle.icu_char16trie.proofs.NodeLemmas.{matches_run}
use Rattle.icu_char16trie.proofs.OpeningLemmas.{nothing_opens, later_opens, length_gone}
use Rattle.icu_char16trie.proofs.pending.Pending.open_match.Goals as goal

pub returns-then-low-ge-MIN_LINEAR_MATCH : goal.returns-then-low-ge-MIN_LINEAR_MATCH
returns-then-low-ge-MIN_LINEAR_MATCH c = later_opens c.args.self.now _ c.args.place c.args.place _ _ c.in_ok-pass_run.ensures (omega arith)
    (λ first m. rw c.run_len.ensures (matches_run (slice_values c.args.self.now.units) m c.if-low-ge-MIN_LINEAR_MATCH.true))

pub returns-then-low-gt0 : goal.returns-then-low-gt0
returns-then-low-gt0 c =
    later_opens c.args.self.now _ c.args.place c.args.place _ _ c.in_ok-enter_part.ensures (omega arith)
    (λ first m. branch_plain (slice_values c.args.self.now.units) m c.if-low-ge-MIN_LINEAR_MATCH.false c.if-low-gt0.true)

pub returns-in_default : goal.returns-in_default
returns-in_default c = nothing_opens c.args.self.now c.args.place _
    (length_gone (slice_values c.args.self.now.units) c.args.place c.args.low (omega arith) (sym c.in_default.ensures.unit))

pub returns : goal.returns
returns c =
    later_opens c.args.self.now _ c.args.place (c.args.place + 1) _ _ c.in_ok-enter_part-2.ensures (omega arith)
    (λ first m. branch_long (slice_values c.args.self.now.units) m (omega arith) c.in-Some.length (sym c.in-Some.ensures.unit))
