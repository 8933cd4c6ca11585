use Rattle.std.proofs.Common.{Ok, ap, arith, rules, w32}
use Rattle.std.proofs.lemmas.Int.{to_z-of_z}
use Rattle.icu_char16trie.proofs.WalkLemmas.{entry_found, more_opened, more_passed, no_more_found, none_found}
use Rattle.icu_char16trie.proofs.walk.Walk.find_entry.Goals as goal

pub returns-then-not-branch-clause-finds : goal.returns-then-not-branch-clause-finds
returns-then-not-branch-clause-finds c =
    none_found c.args.self.now _ c.loop-opened.self.pending c.loop-opened.invariant.opened c.in_ok-go_to_node.ensures.keeps
    (c.in_ok-go_to_node.ensures.over (ap (λ z. Ok z) c.if-not-branch.true))

pub returns-in-Some-clause-finds : goal.returns-in-Some-clause-finds
returns-in-Some-clause-finds c =
    entry_found c.args.self.now c.end_key.new.self c.loop-opened.self.pending c.go_to_node.new.self c.in-Some.value _
    c.loop-opened.invariant.opened c.in_ok-go_to_node.ensures.keeps (rw c.in-Some.is at c.read_node-front.ensures)
    (to_z-of_z w32 c.in-Some.value (search rules)) c.in_ok-end_key.ensures

pub loop-opened-preserved : goal.loop-opened-preserved
loop-opened-preserved c =
    let reads = rw c.in_default.is at c.read_node-front.ensures in
    let opens = c.in_ok-open_front-2.ensures.opens in
    record {
      opened = more_opened c.args.self.now c.loop-opened.self.pending c.go_to_node.new.self c.read_node-front.new.self
          c.open_front-in-loop-opened.new.self _
          c.loop-opened.invariant.opened c.in_ok-go_to_node.ensures.keeps reads opens
          (λ d. cc (c.in_ok-go_to_node.ensures.done (c.loop-opened.invariant.opened.over d), c.if-not-branch.false));
      past = more_passed c.args.self.now c.loop-opened.self.pending c.go_to_node.new.self c.read_node-front.new.self
          c.open_front-in-loop-opened.new.self _
          c.loop-opened._opened c.loop-opened.invariant.opened c.in_ok-go_to_node.ensures.keeps
          (c.in_ok-go_to_node.ensures.leads (ap (λ z. Ok z) c.if-not-branch.false)) reads opens c.loop-opened.invariant.past;
    }

pub returns-clause-finds : goal.returns-clause-finds
returns-clause-finds c =
    no_more_found c.args.self.now _ c.loop-opened._opened c.loop-opened.invariant.opened
    (rw (c.loop-opened.invariant.opened.units, ← c.in_ok-open_front.ensures.opens.units)
    (omega (arith, c.loop-opened-test.false, c.len-opened-end.ensures.len)))
    c.loop-opened.invariant.past
