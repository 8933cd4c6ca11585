use Rattle.std.proofs.Common.{◌≡◌, ℕ, ◌<◌, ◌^◌, take, string_bytes}
use Rattle.ucptab_table.specs.TableText.{answers_text}
use Rattle.ucptab_table.proofs.text.answers_text.Given as goal

abbrev pub invariant-loop-n : goal.invariant-loop-n
invariant-loop-n g l = (given : ℕ → ℕ) → ((n m : ℕ) → n < 2 ^ 32 → goal.F-post g l.answer n m → m ≡ given n)
    → string_bytes l.text ≡ answers_text given (take l.n-index l.asked)
