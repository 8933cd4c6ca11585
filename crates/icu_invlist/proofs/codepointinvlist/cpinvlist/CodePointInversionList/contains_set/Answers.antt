use Rattle.std.proofs.Common.{arith, refl}
use Rattle.std.proofs.lemmas.Bool.{false≢true}
use Rattle.icu_invlist.proofs.EmptySets.{none_within}
use Rattle.icu_invlist.proofs.SizeLemmas.{no_more_in_part, none_from_size, part_of_same, same_by_size, sized_as, some_from_size}
use Rattle.icu_invlist.proofs.codepointinvlist.cpinvlist.CodePointInversionList.contains_set.Goals as goal

pub returns-then-other-self-clause-subset : goal.returns-then-other-self-clause-subset
returns-then-other-self-clause-subset c = (
  λ t. absurd (false≢true t),
  λ sub. absurd (let o = (sized_as c.other.view_is c.other.invariant).size in let s = (sized_as c.self.view_is c.self.invariant).size in
      let n = no_more_in_part c.args.other.now c.args.self.now sub in let t = c.if-other-self.true in omega arith),
)

pub returns-then-other-eq0-clause-subset : goal.returns-then-other-eq0-clause-subset
returns-then-other-eq0-clause-subset c = let o = sized_as c.other.view_is c.other.invariant in (
  λ t. none_within c.args.other.now c.args.self.now
      (none_from_size _ o.valid (let s = o.size in let z = c.if-other-eq0.true in omega arith)),
  λ sub. refl,
)

pub returns-then-other-self-2-clause-subset : goal.returns-then-other-self-2-clause-subset
returns-then-other-self-2-clause-subset c =
    let o = sized_as c.other.view_is c.other.invariant in
    let s = sized_as c.self.view_is c.self.invariant in (
      λ t. part_of_same c.args.other.now c.args.self.now (c.eq.ensures.same.0 t),
      λ sub. c.eq.ensures.same.1 (same_by_size c.args.other.now c.args.self.now o.valid s.valid
          (let a = o.size in let b = s.size in let e = c.if-other-self-2.true in omega arith) sub),
    )

pub holds_some-requires-clause-some : goal.holds_some-requires-clause-some
holds_some-requires-clause-some c = let s = sized_as c.self.view_is c.self.invariant in
    some_from_size _ s.valid (let a = s.size in let t = c.if-other-self.false in let z = c.if-other-eq0.false in omega arith)

pub holds_some-requires-clause-others : goal.holds_some-requires-clause-others
holds_some-requires-clause-others c = let o = sized_as c.other.view_is c.other.invariant in
    some_from_size _ o.valid (let a = o.size in let z = c.if-other-eq0.false in omega arith)
