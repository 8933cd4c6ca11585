use Rattle.std.proofs.Common.{arith}
use Rattle.icu_invlist_binary.proofs.LentLemmas.{pair_within, pair_end}
use Rattle.icu_invlist_binary.proofs.lent_ends.LentEnds.end_at.Goals as goal

pub overflow_mul-pair : goal.overflow_mul-pair
overflow_mul-pair c = let a = pair_within c.args.self.now.singles.now c.args.self.now.pairs.now c.args.i c.requires c.if-i-singles.false in
    omega arith

pub offset_bounds-self-pair : goal.offset_bounds-self-pair
offset_bounds-self-pair c =
    let a = pair_within c.args.self.now.singles.now c.args.self.now.pairs.now c.args.i c.requires c.if-i-singles.false in omega arith

pub bounds-self-pair : goal.bounds-self-pair
bounds-self-pair c = let a = pair_within c.args.self.now.singles.now c.args.self.now.pairs.now c.args.i c.requires c.if-i-singles.false in
    omega arith

pub overflow_add-pair : goal.overflow_add-pair
overflow_add-pair c = let a = pair_within c.args.self.now.singles.now c.args.self.now.pairs.now c.args.i c.requires c.if-i-singles.false in
    omega arith

pub offset_bounds-self-pair-2 : goal.offset_bounds-self-pair-2
offset_bounds-self-pair-2 c =
    let a = pair_within c.args.self.now.singles.now c.args.self.now.pairs.now c.args.i c.requires c.if-i-singles.false in omega arith

pub bounds-self-pair-2 : goal.bounds-self-pair-2
bounds-self-pair-2 c = pair_within c.args.self.now.singles.now c.args.self.now.pairs.now c.args.i c.requires c.if-i-singles.false

pub returns : goal.returns
returns c = rw (c.from-2.ensures, c.from-3.ensures)
    (pair_end c.args.self.now.singles.now c.args.self.now.pairs.now c.args.i c.requires c.if-i-singles.false)
