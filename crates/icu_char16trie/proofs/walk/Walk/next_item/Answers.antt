use Rattle.icu_zerovec.specs.Slice.{slice_values}
use Rattle.std.proofs.Common.{Ok, ap, rules, w32, ◌∙◌}
use Rattle.std.proofs.lemmas.Int.{to_z-of_z}
use Rattle.icu_char16trie.proofs.WalkLemmas.{item_gives, none_gives, walked_work}
use Rattle.icu_char16trie.proofs.walk.Walk.next_item.Goals as goal

pub returns-in-Ok-false-clause-gives : goal.returns-in-Ok-false-clause-gives
returns-in-Ok-false-clause-gives c =
    none_gives c.args.self.now c.next_entry.new.self (ap slice_values c.in-Ok-false.ensures.units)
    (λ m g. rw c.in-Ok-false.field-0-test at (c.in-Ok-false.ensures.tells m g))
    (rw c.in-Ok-false.field-0-test at c.in-Ok-false.ensures.ended).walked

pub returns-in-Err-clause-work : goal.returns-in-Err-clause-work
returns-in-Err-clause-work c = λ _.
    walked_work c.args.self.now (record {
      pending = record {
        units = c.args.self.now.pending.units;
        spelling = c.next_entry.new.self.pending.spelling;
        node = c.next_entry.new.self.pending.node;
        parts = c.next_entry.new.self.pending.parts;
      };
      front = c.next_entry.new.self.front;
      value = c.next_entry.new.self.value;
      ended = c.next_entry.new.self.ended;
    }) c.in-Err.ensures.ended.walked (λ d. cc (c.in-Err.ensures.done d))

pub returns-in_default-clause-work : goal.returns-in_default-clause-work
returns-in_default-clause-work c = λ _.
    walked_work c.args.self.now c.end.new.self c.end.ensures.walked
    (λ d. cc (c.in-Ok-true.ensures.done d, c.in-Ok-true.field-0-test))

pub returns-clause-gives : goal.returns-clause-gives
returns-clause-gives c =
    rw (to_z-of_z w32 c.next_entry.new.self.value (search rules))
    (item_gives c.args.self.now c.next_entry.new.self c.in-Ok.text (ap slice_values c.in-Ok-true.ensures.units)
    (λ d. cc (c.in-Ok-true.ensures.done d, c.in-Ok-true.field-0-test))
    (λ m g. rw c.in-Ok-true.field-0-test at (c.in-Ok-true.ensures.tells m g))
    (c.in-Ok-true.ensures.value (ap (λ z. Ok z) c.in-Ok-true.field-0-test)) (c.in-Ok.ensures.ok ∙ c.text.ensures))
