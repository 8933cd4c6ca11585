use Rattle.std.proofs.Common.{ℕ, zero, suc, ◌≤◌, List, Bool, true, false, cond, arith}
use Rattle.icu_zerovec.specs.CodePoints.{code_point_limit}
use Rattle.icu_invlist.specs.InversionList.{members_below, holds}
use Rattle.icu_text_sets.proofs.codepointinvliststringlist.set.CodePointInversionListAndStringList.size.Goals as goal

one : (b : Bool) → cond b 1 0 ≤ 1
one true = omega arith
one false = omega arith

at_most : (ends : List ℕ) (n : ℕ) → members_below ends n ≤ n
unfolding members_below
at_most ends zero = omega arith
at_most ends (suc n) = let h = at_most ends n in let k = one (holds ends n) in omega arith

pub overflow_add-result : goal.overflow_add-result
overflow_add-result c =
    let points = at_most c.self.inside.cp_inv_list code_point_limit in
    let within = c.self.inside.str_list.ok.1 in
    let small = c.self.inside.str_list.small in
    omega (arith, c.size.ensures.size, c.len.ensures)
