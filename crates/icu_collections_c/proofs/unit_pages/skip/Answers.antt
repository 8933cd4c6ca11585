-- The next entry is the first of those that are left.
use Rattle.std.proofs.Common.{◌≡◌, ◌+◌, [], Ok, true, sym, subst, drop, arith}
use Rattle.icu_char16trie.specs.Listing.{Advances, AreToCome}
use Rattle.icu_collections_c.proofs.UnitPageLemmas.{drop-next, drop-past}
use Rattle.icu_collections_c.proofs.unit_pages.skip.Goals as goal

pub loop-skipped-init : goal.loop-skipped-init
loop-skipped-init c = record { within = omega arith; left = λ m h. h }

pub loop-skipped-preserved : goal.loop-skipped-preserved
loop-skipped-preserved c = record {
  within = omega (arith, c.loop-skipped-test.true);
  left = λ m h.
      let i = c.loop-skipped._skipped in
      let reached : Advances (drop i m) (Ok true) c.advance.new.self =
      rw c.if-not-branch.false at (c.in_ok-advance.ensures.tells (drop i m) (c.loop-skipped.invariant.left m h)) in
      subst (λ es. AreToCome c.advance.new.self es) (sym (drop-next i (i + 1) m reached.1 _ (omega arith) reached.2)) reached.4;
}

pub returns-then-not-branch-clause-fewer : goal.returns-then-not-branch-clause-fewer
returns-then-not-branch-clause-fewer c = λ _ m h.
    let i = c.loop-skipped._skipped in
    let ended : drop i m ≡ [] =
    rw c.if-not-branch.true at (c.in_ok-advance.ensures.tells (drop i m) (c.loop-skipped.invariant.left m h)) in
    drop-past m i c.args.count ended c.loop-skipped.invariant.within

pub returns-clause-there : goal.returns-clause-there
returns-clause-there c = λ _ m h.
    let over : c.loop-skipped._skipped ≡ c.args.count = omega (arith, c.loop-skipped-test.false, c.loop-skipped.invariant.within) in
    subst (λ i. AreToCome c.loop-skipped.entries (drop i m)) over (c.loop-skipped.invariant.left m h)
