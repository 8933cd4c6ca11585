use Rattle.std.proofs.Common.{◌+◌, refl, arith}
use Rattle.icu_char16trie.proofs.OpeningLemmas.{nothing_opens, gone_opens}
use Rattle.icu_char16trie.proofs.pending.Pending.pass_run.Goals as goal

pub returns-then-len-place : goal.returns-then-len-place
returns-then-len-place c = nothing_opens c.args.self.now c.args.place _ (λ first r. absurd (omega (arith, r.within)))

pub returns : goal.returns
returns c =
    gone_opens c.args.self.now _ _ c.args.place (c.args.place + c.args.count) _
    (record { units = refl; spelling = c.in_ok-push_run.ensures; node = refl; parts = refl })
    (omega arith) (omega arith) (λ first r. (r.rest, r.node, r.keys))
