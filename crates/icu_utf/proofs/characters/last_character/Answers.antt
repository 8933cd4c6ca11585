use Rattle.std.proofs.Common.{◌≡◌, length, rules}
use Rattle.std.proofs.lemmas.List.{take_rest}
use Rattle.icu_utf.proofs.CharacterLemmas.{empty_ends, is_last, no_last, not_last}
use Rattle.icu_utf.proofs.characters.last_character.Goals as goal

pub returns-then-is_empty : goal.returns-then-is_empty
returns-then-is_empty c = let none : length c.args.bytes.now ≡ 0 = search rules in empty_ends c.args.bytes.now none

pub returns-in_err-c : goal.returns-in_err-c
returns-in_err-c c = rw c.from_residual.ensures
    (no_last c.args.bytes.now c.last_lead.result c.last_lead.ensures
    (rw (take_rest c.args.bytes.now c.last_lead.result) at c.in_err-c.ensures))

pub returns-then-size-end : goal.returns-then-size-end
returns-then-size-end c =
    not_last c.args.bytes.now c.last_lead.result c.last_lead.ensures c.in_ok-c.c c.in_ok-c.size
    (rw (take_rest c.args.bytes.now c.last_lead.result) at c.in_ok-c.ensures)
    (rw (take_rest c.args.bytes.now c.last_lead.result) at c.if-size-end.true)

pub returns : goal.returns
returns c =
    is_last c.args.bytes.now c.last_lead.result c.last_lead.ensures c.in_ok-c.c c.in_ok-c.size
    (rw (take_rest c.args.bytes.now c.last_lead.result) at c.in_ok-c.ensures)
    (rw (take_rest c.args.bytes.now c.last_lead.result) at c.if-size-end.false)
