use Rattle.std.proofs.Common.{◌≡◌, ◌∙◌, ℕ, ◌+◌, ap, sym, length, arith, refl, List}
use Rattle.std.specs.List.{insert}
use Rattle.std.proofs.lemmas.Bool.{cond-true}
use Rattle.std.proofs.lemmas.List.Edits.{length-insert}
use Rattle.std.proofs.lemmas.Result.{MatchResult-at_ok, MatchResult-at_err}
use Rattle.icu_invlist.specs.Inside.Places.{ends_below}
use Rattle.icu_invlist.specs.InversionList.{is_odd}
use Rattle.icu_invlist.proofs.Toggles.{end_found, put_in, take_out, odd_next, Toggled}
use Rattle.icu_invlist.proofs.fill.toggle.Goals as goal

taken_out : (c : goal.After-remove) → Toggled c.args.ends.now.items c.args.x c.remove.new.self.items
taken_out c =
    let f = end_found c.args.ends.now.items c.args.x c.binary_search.result c.requires.rises
    (rw c.deref.ensures.value at c.binary_search.ensures.position) in
    let q = MatchResult-at_ok _ _ c.in-Ok.place c.in-Ok.is f in
    take_out c.args.ends.now.items c.remove.new.self.items c.args.x c.in-Ok.place (ends_below c.args.ends.now.items (c.args.x + 1))
    c.requires.rises c.requires.within q.0 refl (λ e. q.2 (sym q.0 ∙ e)) c.remove.ensures.items

is_none : (c : goal.After-insert) → (c.in-Err.place ≡ ends_below c.args.ends.now.items c.args.x)
    × (ends_below c.args.ends.now.items c.args.x ≡ ends_below c.args.ends.now.items (c.args.x + 1))
is_none c = MatchResult-at_err _ _ c.in-Err.place c.in-Err.is
    (end_found c.args.ends.now.items c.args.x c.binary_search.result c.requires.rises
    (rw c.deref.ensures.value at c.binary_search.ensures.position))

inserted : (c : goal.After-insert) → c.insert.new.self.items ≡ insert c.args.ends.now.items c.in-Err.place c.args.x
inserted c = c.insert.ensures.items ∙ cond-true _ _ _ (c.insert.ensures.succeeds (c.requires.room (is_none c).1))

put : (c : goal.After-insert) → Toggled c.args.ends.now.items c.args.x c.insert.new.self.items
put c = let q = is_none c in
    put_in c.args.ends.now.items c.insert.new.self.items c.args.x c.in-Err.place (ends_below c.args.ends.now.items (c.args.x + 1))
    c.requires.rises c.requires.within q.0 refl (q.0 ∙ q.1) (inserted c)

pub remove-requires : goal.remove-requires
remove-requires c =
    let f = end_found c.args.ends.now.items c.args.x c.binary_search.result c.requires.rises
    (rw c.deref.ensures.value at c.binary_search.ensures.position) in
    let q = MatchResult-at_ok _ _ c.in-Ok.place c.in-Ok.is f in omega (arith, q.1)

pub returns-in-Ok-clause-rises : goal.returns-in-Ok-clause-rises
returns-in-Ok-clause-rises c = (taken_out c).0

pub returns-in-Ok-clause-set : goal.returns-in-Ok-clause-set
returns-in-Ok-clause-set c = (taken_out c).1

pub returns-in-Err-clause-rises : goal.returns-in-Err-clause-rises
returns-in-Err-clause-rises c = (put c).0

pub returns-in-Err-clause-set : goal.returns-in-Err-clause-set
returns-in-Err-clause-set c = (put c).1

pub returns-in-Err-clause-length : goal.returns-in-Err-clause-length
returns-in-Err-clause-length c = ap (λ (zs : List ℕ). is_odd (length zs)) (inserted c)
    ∙
    (ap is_odd (length-insert c.args.ends.now.items c.in-Err.place c.args.x (let b = c.in-Err.ensures.bound in
    omega (arith, ap (λ (zs : List ℕ). length zs) c.deref.ensures.value)))
    ∙ odd_next (length c.args.ends.now.items))

pub returns-in-Err-clause-shrinks : goal.returns-in-Err-clause-shrinks
returns-in-Err-clause-shrinks c = λ n. absurd (n (is_none c).1)
