use Rattle.std.proofs.Common.{◌≡◌, ◌∙◌, ◌-◌, ◌+◌, ◌*◌, sym, ap, arith, Some, ℕ, get_or}
use Rattle.std.proofs.lemmas.Option.{slice_get_past}
use Rattle.icu_invlist.specs.InversionList.{ranges_of}
use Rattle.icu_invlist.proofs.MemberLemmas.{nth, same_range, length-ranges}
use Rattle.icu_invlist.proofs.codepointinvlist.cpinvlist.CodePointInversionList.get_nth_range.Goals as goal

pub returns-then-index-count-clause-nth : goal.returns-then-index-count-clause-nth
returns-then-index-count-clause-nth c = sym
    (slice_get_past (ranges_of c.args.self.now) c.args.index (let e = length-ranges c.args.self.now in
    omega (arith, c.count.ensures.count)))

pub returns-clause-nth : goal.returns-clause-nth
returns-clause-nth c =
    let n : 2 * c.args.index ≡ c.args.index * 2 = omega arith in
    let m : 2 * c.args.index + 1 ≡ c.args.index * 2 + 1 = omega arith in
    let s : c.new.result.start ≡ get_or c.args.self.now (c.args.index * 2) 0 =
    c.new.ensures.start ∙ (c.end_at.ensures.end ∙ ap (λ (k : ℕ). get_or c.args.self.now k 0) n) in
    let e : c.new.result.end ≡ get_or c.args.self.now (c.args.index * 2 + 1) 0 - 1 =
    c.new.ensures.end ∙ ap (λ (k : ℕ). k - 1) (c.end_at-2.ensures.end ∙ ap (λ (k : ℕ). get_or c.args.self.now k 0) m) in
    ap Some (same_range c.new.result _ _ s e c.new.ensures.exhausted)
    ∙ sym (nth c.args.self.now c.args.index (let k = c.count.ensures.count in omega arith))
