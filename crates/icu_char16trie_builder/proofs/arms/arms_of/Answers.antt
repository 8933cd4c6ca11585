use Rattle.std.proofs.Common.{arith, rules, refl, ◌≡◌, ◌+◌, length, drop, subst, sym, ap, ◌∙◌, None}
use Rattle.icu_char16trie_builder.specs.Inside.Cuts.{ArmsSoFar, unit_of}
use Rattle.icu_char16trie_builder.specs.declared.entry.Arm.{Arm}
use Rattle.icu_char16trie_builder.proofs.ArmLemmas.{arms_start, arms_step_at, longer_some}
use Rattle.icu_char16trie_builder.proofs.arms.arms_of.Goals as goal

pub loop-start-init : goal.loop-start-init
loop-start-init c = record {
  within = omega arith;
  so_far = rw c.new-arms.ensures.items (arms_start c.args.depth c.args.entries.now c.requires.longer c.requires.ascends);
}

pub loop-start-preserved : goal.loop-start-preserved
loop-start-preserved c =
    let a : Arm = record { unit = c.in-Some.unit; entries = c.split_at-in-Some.result.0 } in
    let behind : length c.split_at.result.1.now + c.loop-start.start ≡ length c.args.entries.now = c.split_at.ensures.back_len in
    record {
      within = omega (arith, behind, c.group_len.ensures.within, c.split_at-in-Some.ensures.front_len);
      so_far = arms_step_at c.args.depth c.in-Some.unit c.group_len.result c.loop-start.start c.args.entries.now c.split_at.result.1.now
          c.split_at-in-Some.result.0.now
          c.loop-start.arms.items c.push.new.self.items a c.first_unit.result c.split_at.ensures.back c.loop-start.invariant.so_far
          (search rules) c.first_unit.ensures c.in-Some.is
          refl refl c.split_at-in-Some.ensures.front c.split_at-in-Some.ensures.front_len c.group_len.ensures.group c.group_len.ensures.next
          c.in_ok-push.ensures.items;
    }

pub returns-in_default : goal.returns-in_default
returns-in_default c =
    let none : unit_of (drop c.loop-start.start c.args.entries.now) c.args.depth ≡ None =
    ap (λ z. unit_of z c.args.depth) (sym c.split_at.ensures.back) ∙ sym c.first_unit.ensures ∙ c.in_default.is in
    subst (λ z. ArmsSoFar c.args.depth c.args.entries.now z c.loop-start.arms.items)
    (longer_some c.args.depth (drop c.loop-start.start c.args.entries.now) c.loop-start.invariant.so_far.longer none)
    c.loop-start.invariant.so_far
