use Rattle.std.proofs.Common.{◌≡◌, ◌≤◌, ◌+◌, length, take}
use Rattle.std.specs.Prelude.{not, ◌==◌}
use Rattle.std.specs.List.{suffix_len}
use Rattle.ucptrie_words.proofs.line.cut_at_last.Given as goal

-- The bytes from `place` on are not the mark.
abbrev pub invariant-loop-place : goal.invariant-loop-place
invariant-loop-place l =
    record {
      within : l.place ≤ length l.bytes;
      others : l.place + suffix_len (λ b. not (b == l.mark)) l.bytes
          ≡ length l.bytes + suffix_len (λ b. not (b == l.mark)) (take l.place l.bytes);
    }

abbrev pub decreases-loop-place : goal.decreases-loop-place
decreases-loop-place l = l.place
