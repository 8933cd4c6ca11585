use Rattle.std.proofs.Common.{rules, w32, ◌≡◌, ◌+◌, ◌-◌, ◌<◌, ◌≤◌, [], ◌∷◌, List, ℕ, length, reverse, ap, sym, subst, ◌∙◌}
use Rattle.std.proofs.lemmas.List.{length-reverse}
use Rattle.std.proofs.lemmas.Int.{to_z-of_z}
use Rattle.icu_char16trie_builder.specs.Inside.Written.{PartAt}
use Rattle.icu_char16trie.specs.UnitMap.{UnitMap}
use Rattle.icu_char16trie_builder.specs.Inside.Steps.{Leads, lead_cost}
use Rattle.icu_char16trie_builder.specs.declared.known.KnownNode.{KnownNode}
use Rattle.icu_char16trie_builder.specs.declared.step.Step.{Step}
use Rattle.icu_char16trie_builder.specs.declared.step.Step.TheVariants as steps
use Rattle.icu_char16trie_builder.proofs.StepLemmas.{led, save_led, keep_led, turned, last_takes, value_takes, run_takes, branch_takes, jump_takes, split_takes}
use Rattle.icu_char16trie_builder.proofs.step.take_step.Goals as goal

-- The next step.
next : (units places : List ℕ) (known : List KnownNode) (x y : Step) (others : List Step) (goal : UnitMap) → x ≡ y
    → Leads units places known (x ∷ others) goal → Leads units places known (y ∷ others) goal
next units places known x y others goal e h = subst (λ z. Leads units places known (z ∷ others) goal) e h

-- The index that was saved last.
at_place : (units places places' : List ℕ) (known : List KnownNode) (others : List Step) (goal : UnitMap) → places ≡ places'
    → Leads units places known others goal → Leads units places' known others goal
at_place units places places' known others goal e h = subst (λ z. Leads units z known others goal) e h

pub returns-in_ok-push-in-Save-clause-leads : goal.returns-in_ok-push-in-Save-clause-leads
returns-in_ok-push-in-Save-clause-leads c goal h =
    let units = reverse c.args.out.now.items in
    let len : length c.args.out.now.items ≡ length units = sym (length-reverse c.args.out.now.items) in
    let here : c.len.result ≡ length c.args.out.now.items = search rules in
    let same : c.len.result ≡ length units = here ∙ len in
    at_place units (c.len.result ∷ reverse c.args.places.now.items)
    (reverse c.push.new.self.items) c.args.known.now (reverse c.args.steps.now.items) goal
    (sym (turned c.args.places.now.items c.push.new.self.items c.len.result c.in_ok-push-in-Save.ensures.items))
    (save_led units (reverse c.args.places.now.items) c.args.known.now c.len.result (reverse c.args.steps.now.items) goal same
    (next units (reverse c.args.places.now.items) c.args.known.now c.args.step steps.Save (reverse c.args.steps.now.items) goal c.in-Save.is
    h))

pub returns-in_ok-write_last-in-Last-clause-leads : goal.returns-in_ok-write_last-in-Last-clause-leads
returns-in_ok-write_last-in-Last-clause-leads c goal h =
    let units = reverse c.args.out.now.items in
    let new = reverse c.write_last.new.out.items in
    let places = reverse c.args.places.now.items in
    led (1) units new places places c.args.known.now (steps.Last c.in-Last.unit)
    (reverse c.args.steps.now.items) goal c.in_ok-write_last-in-Last.ensures.grew
    (last_takes units new places c.in-Last.unit c.in_ok-write_last-in-Last.ensures.part)
    (next units places c.args.known.now c.args.step (steps.Last c.in-Last.unit) (reverse c.args.steps.now.items) goal c.in-Last.is h)

pub returns-in_ok-write_value-in-Value-clause-leads : goal.returns-in_ok-write_value-in-Value-clause-leads
returns-in_ok-write_value-in-Value-clause-leads c goal h =
    let units = reverse c.args.out.now.items in
    let new = reverse c.write_value.new.out.items in
    let places = reverse c.args.places.now.items in
    led (4) units new places places c.args.known.now (steps.Value c.in-Value.unit c.in-Value.value)
    (reverse c.args.steps.now.items) goal c.in_ok-write_value-in-Value.ensures.grew
    (value_takes units new places c.in-Value.unit c.in-Value.value
    (subst (λ z. (n : ℕ) (us : List ℕ) (m : UnitMap) → 1 < n → n ≤ 5 → PartAt units 0 (n - 1) us m
    → PartAt new 0 n (c.in-Value.unit ∷ us) ((c.in-Value.unit ∷ [], z) ∷ m))
    (to_z-of_z w32 c.in-Value.value (search rules)) c.in_ok-write_value-in-Value.ensures.part))
    (next units places c.args.known.now c.args.step (steps.Value c.in-Value.unit c.in-Value.value)
    (reverse c.args.steps.now.items) goal c.in-Value.is h)

pub returns-in_ok-write_run-in-Run-clause-leads : goal.returns-in_ok-write_run-in-Run-clause-leads
returns-in_ok-write_run-in-Run-clause-leads c goal h =
    let units = reverse c.args.out.now.items in
    let new = reverse c.write_run.new.out.items in
    let places = reverse c.args.places.now.items in
    led (lead_cost c.in-Run.value + length c.in-Run.units.now) units new places places c.args.known.now
    (steps.Run c.in-Run.units c.in-Run.value) (reverse c.args.steps.now.items) goal c.in_ok-write_run-in-Run.ensures.grew
    (run_takes units new places c.in-Run.units.now c.in-Run.value c.in_ok-write_run-in-Run.ensures.node)
    (next units places c.args.known.now c.args.step (steps.Run c.in-Run.units c.in-Run.value)
    (reverse c.args.steps.now.items) goal c.in-Run.is h)

pub returns-in_ok-write_branch-in-Branch-clause-leads : goal.returns-in_ok-write_branch-in-Branch-clause-leads
returns-in_ok-write_branch-in-Branch-clause-leads c goal h =
    let units = reverse c.args.out.now.items in
    let new = reverse c.write_branch.new.out.items in
    let places = reverse c.args.places.now.items in
    led (lead_cost c.in-Branch.value + 1) units new places places c.args.known.now (steps.Branch c.in-Branch.count c.in-Branch.value)
    (reverse c.args.steps.now.items) goal c.in_ok-write_branch-in-Branch.ensures.grew
    (branch_takes units new places c.in-Branch.count c.in-Branch.value c.in_ok-write_branch-in-Branch.ensures.node)
    (next units places c.args.known.now c.args.step (steps.Branch c.in-Branch.count c.in-Branch.value)
    (reverse c.args.steps.now.items) goal c.in-Branch.is h)

pub returns-in_ok-write_jump-in-Jump-clause-leads : goal.returns-in_ok-write_jump-in-Jump-clause-leads
returns-in_ok-write_jump-in-Jump-clause-leads c goal h =
    let units = reverse c.args.out.now.items in
    let new = reverse c.write_jump.new.out.items in
    let kept = reverse c.pop.new.self.items in
    led 4 units new (c.in-Some.place ∷ kept) kept c.args.known.now (steps.Jump c.in-Jump.unit)
    (reverse c.args.steps.now.items) goal c.in_ok-write_jump-in-Jump.ensures.grew
    (jump_takes units new kept c.in-Jump.unit c.in-Some.place (length c.args.out.now.items)
    (sym (length-reverse c.args.out.now.items)) c.in_ok-write_jump-in-Jump.ensures.part)
    (next units (c.in-Some.place ∷ kept) c.args.known.now c.args.step (steps.Jump c.in-Jump.unit)
    (reverse c.args.steps.now.items) goal c.in-Jump.is
    (at_place units (reverse c.args.places.now.items)
    (c.in-Some.place ∷ kept) c.args.known.now (c.args.step ∷ reverse c.args.steps.now.items) goal
    (turned c.pop.new.self.items c.args.places.now.items c.in-Some.place c.in-Some.ensures.items) h))

pub returns-in_ok-write_split-in-Split-clause-leads : goal.returns-in_ok-write_split-in-Split-clause-leads
returns-in_ok-write_split-in-Split-clause-leads c goal h =
    let units = reverse c.args.out.now.items in
    let new = reverse c.write_split.new.out.items in
    let kept = reverse c.pop-in-Split.new.self.items in
    led 4 units new (c.in-Some-pop.place ∷ kept) kept c.args.known.now (steps.Split c.in-Split.unit)
    (reverse c.args.steps.now.items) goal c.in_ok-write_split-in-Split.ensures.grew
    (split_takes units new kept c.in-Split.unit c.in-Some-pop.place (length c.args.out.now.items)
    (sym (length-reverse c.args.out.now.items)) c.in_ok-write_split-in-Split.ensures.part)
    (next units (c.in-Some-pop.place ∷ kept) c.args.known.now c.args.step (steps.Split c.in-Split.unit)
    (reverse c.args.steps.now.items) goal c.in-Split.is
    (at_place units (reverse c.args.places.now.items)
    (c.in-Some-pop.place ∷ kept) c.args.known.now (c.args.step ∷ reverse c.args.steps.now.items) goal
    (turned c.pop-in-Split.new.self.items c.args.places.now.items c.in-Some-pop.place c.in-Some-pop.ensures.items) h))

pub returns-in_ok-place_node-in-Place-clause-leads : goal.returns-in_ok-place_node-in-Place-clause-leads
returns-in_ok-place_node-in-Place-clause-leads c goal h =
    let units = reverse c.args.out.now.items in
    let places = reverse c.args.places.now.items in
    c.in_ok-place_node-in-Place.ensures.leads units goal
    (next units places c.args.known.now c.args.step (steps.Place c.in-Place.entries c.in-Place.depth)
    (reverse c.args.steps.now.items) goal c.in-Place.is h)

pub returns-in_ok-push-in-Keep-clause-leads : goal.returns-in_ok-push-in-Keep-clause-leads
returns-in_ok-push-in-Keep-clause-leads c goal h =
    let units = reverse c.args.out.now.items in
    let places = reverse c.args.places.now.items in
    let len : length c.args.out.now.items ≡ length units = sym (length-reverse c.args.out.now.items) in
    let here : c.len-in-Keep.result ≡ length c.args.out.now.items = search rules in
    let again : c.len-in-Keep-2.result ≡ length c.args.out.now.items = search rules in
    let same : c.len-in-Keep.result ≡ length units = here ∙ len in
    let place : c.len-in-Keep-2.result ≡ c.len-in-Keep.result = again ∙ sym here in
    at_place units (c.len-in-Keep.result ∷ places)
    (reverse c.push-in-Keep.new.self.items) c.add.new.self (reverse c.args.steps.now.items) goal
    (ap (λ z. z ∷ places) (sym place)
    ∙ sym (turned c.args.places.now.items c.push-in-Keep.new.self.items c.len-in-Keep-2.result c.in_ok-push-in-Keep.ensures.items))
    (keep_led units places c.args.known.now c.add.new.self c.len-in-Keep.result c.in-Keep.depth c.in-Keep.entries
    (reverse c.args.steps.now.items) goal same c.in_ok-add-in-Keep.ensures
    (next units places c.args.known.now c.args.step (steps.Keep c.in-Keep.entries c.in-Keep.depth)
    (reverse c.args.steps.now.items) goal c.in-Keep.is h))
