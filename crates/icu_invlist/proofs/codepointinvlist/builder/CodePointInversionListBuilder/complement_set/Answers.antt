use Rattle.std.proofs.Common.{◌≡◌, ◌∙◌, ap, ℕ, Bool, true, false, refl, List}
use Rattle.std.proofs.lemmas.Result.{on_ok_weaker}
use Rattle.icu_invlist.specs.InversionList.{IsValid, holds, one_of, Acts}
use Rattle.icu_invlist.proofs.EmptySets.{one_of_none, the_same, unchanged}
use Rattle.icu_invlist.proofs.EqualSets.{same_sets}
use Rattle.icu_invlist.proofs.codepointinvlist.builder.CodePointInversionListBuilder.complement_set.Goals as goal

twice : (a b : Bool) → one_of (one_of a b) b ≡ a
twice true true = refl
twice true false = refl
twice false true = refl
twice false false = refl

back : (old mid new : List ℕ) (named : ℕ → Bool) → IsValid new → IsValid old → Acts one_of old named mid → Acts one_of mid named new
    → new ≡ old
back old mid new named v w first second =
    same_sets new old v w (λ n h. second n h ∙ (ap (λ z. one_of z (named n)) (first n h) ∙ twice (holds old n) (named n)))

pub returns-clause-twice : goal.returns-clause-twice
returns-clause-twice c = on_ok_weaker c.change.result
    (λ acts ends v h. back c.self.inside.ends.items c.change.new.ends.items ends (holds c.args.set.now) v c.self.invariant acts h
    ∙ c.self.view_is)
    c.change.ensures.ok

pub returns-then-is_empty-clause-changes : goal.returns-then-is_empty-clause-changes
returns-then-is_empty-clause-changes c =
    let v : IsValid c.args.self.now = rw (← c.self.view_is) c.self.invariant in
    record {
      ok = unchanged one_of c.args.self.now c.args.set.now one_of_none (c.is_empty.ensures.empty.0 c.if-is_empty.true);
      err = tt;
      valid = (v, v);
    }

pub returns-then-is_empty-clause-twice : goal.returns-then-is_empty-clause-twice
returns-then-is_empty-clause-twice c ends v h =
    the_same c.args.self.now c.args.set.now ends (c.is_empty.ensures.empty.0 c.if-is_empty.true)
    (rw (← c.self.view_is) c.self.invariant) v h
