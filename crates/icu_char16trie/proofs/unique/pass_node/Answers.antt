use Rattle.icu_zerovec.specs.Slice.{slice_values}
use Rattle.std.proofs.Common.{◌≡◌, sym, ◌∙◌, rules, to_z, of_z, w32}
use Rattle.std.proofs.lemmas.Bool.{false≢true}
use Rattle.std.proofs.lemmas.Int.{to_z-of_z}
use Rattle.icu_char16trie.specs.Inside.Values.{Agrees}
use Rattle.icu_char16trie.proofs.ValueLemmas.{another_value, no_node, with_value, without_value}
use Rattle.icu_char16trie.proofs.unique.pass_node.Goals as goal

pub returns-in_err-check_node : goal.returns-in_err-check_node
returns-in_err-check_node c =
    rw c.from_residual.ensures (no_node (slice_values c.args.units) c.args.place c.args.found c.in_err-check_node.ensures)

pub returns-in_default : goal.returns-in_default
returns-in_default c =
    without_value (slice_values c.args.units) c.args.place c.args.found _ _ (sym c.in_default.ensures) c.in_ok-check_node.ensures

pub returns-then-not-agrees : goal.returns-then-not-agrees
returns-then-not-agrees c =
    let same : to_z w32 (of_z w32 c.in-Some.value) ≡ c.in-Some.value = to_z-of_z w32 c.in-Some.value (search rules) in
    another_value (slice_values c.args.units) c.args.place c.in-Some.value c.args.found (sym c.in-Some.ensures)
    (λ a. false≢true (sym c.if-not-agrees.true ∙ c.agrees.ensures.1 (rw same a)))

pub returns : goal.returns
returns c =
    let same : to_z w32 (of_z w32 c.in-Some.value) ≡ c.in-Some.value = to_z-of_z w32 c.in-Some.value (search rules) in
    let before : Agrees c.args.found c.in-Some.value = rw same at (c.agrees.ensures.0 c.if-not-agrees.false) in
    rw same
    (with_value (slice_values c.args.units) c.args.place c.in-Some.value c.args.found _ _ (sym c.in-Some.ensures) before
    c.in_ok-check_node.ensures)
