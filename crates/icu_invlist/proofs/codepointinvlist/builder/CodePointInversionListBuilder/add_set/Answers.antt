use Rattle.icu_invlist.specs.InversionList.{IsValid, either}
use Rattle.icu_invlist.proofs.EmptySets.{either_none, unchanged}
use Rattle.icu_invlist.proofs.codepointinvlist.builder.CodePointInversionListBuilder.add_set.Goals as goal

pub returns-then-is_empty : goal.returns-then-is_empty
returns-then-is_empty c =
    let v : IsValid c.args.self.now = rw (← c.self.view_is) c.self.invariant in
    record {
      ok = unchanged either c.args.self.now c.args.set.now either_none (c.is_empty.ensures.empty.0 c.if-is_empty.true);
      err = tt;
      valid = (v, v);
    }
