use Rattle.std.proofs.Common.{arith, ◌≡◌, ◌∷◌, ◌++◌, ◌+◌, [], length, reverse, subst, ap, ◌∙◌}
use Rattle.icu_char16trie_builder.specs.Inside.Cuts.{cut}
use Rattle.icu_char16trie_builder.specs.Inside.Steps.{Leads, cost, step_cost}
use Rattle.icu_char16trie_builder.specs.declared.step.Step.TheVariants as steps
use Rattle.icu_char16trie_builder.proofs.StepLemmas.{start_leads, cost_pushed, turned}
use Rattle.icu_char16trie_builder.proofs.OpenLemmas.{room_some}
use Rattle.icu_char16trie_builder.proofs.units.units_of.Goals as goal

pub loop-step-init : goal.loop-step-init
loop-step-init c =
    let out : c.new-out.result.items ≡ [] = c.new-out.ensures.items in
    let places : c.new-places.result.items ≡ [] = c.new-places.ensures.items in
    let one : c.push.new.self.items ≡ steps.Node c.args.entries 0 ∷ [] =
    c.in_ok-push.ensures.items ∙ ap (λ z. z ++ steps.Node c.args.entries 0 ∷ []) c.new-steps.ensures.items in
    record {
      spent = omega (arith, ap length out, ap cost one, room_some 0 c.args.entries.now c.requires.below.0);
      leads = rw (out, places, c.new-known.ensures, one) (start_leads c.args.entries c.requires.below);
    }

pub loop-step-smaller : goal.loop-step-smaller
loop-step-smaller c =
    let all : cost c.loop-step.steps.items ≡ cost c.pop.new.self.items + step_cost c.in-Some.step =
    cost_pushed c.pop.new.self.items c.loop-step.steps.items c.in-Some.step c.in-Some.ensures.items in
    omega (arith, all, c.in_ok-take_step.ensures.less)

pub loop-step-preserved : goal.loop-step-preserved
loop-step-preserved c =
    let all : cost c.loop-step.steps.items ≡ cost c.pop.new.self.items + step_cost c.in-Some.step =
    cost_pushed c.pop.new.self.items c.loop-step.steps.items c.in-Some.step c.in-Some.ensures.items in
    record {
      spent = omega (arith, all, c.loop-step.invariant.spent, c.in_ok-take_step.ensures.spent);
      leads = c.in_ok-take_step.ensures.leads (cut 0 c.args.entries.now)
          (subst (λ z. Leads (reverse c.loop-step.out.items)
          (reverse c.loop-step.places.items) c.loop-step.known z (cut 0 c.args.entries.now))
          (turned c.pop.new.self.items c.loop-step.steps.items c.in-Some.step c.in-Some.ensures.items) c.loop-step.invariant.leads);
    }
