use Rattle.std.proofs.Common.{ap, ◌∙◌}
use Rattle.std.specs.Option.{option_map}
use Rattle.std.specs.String.{string_bytes}
use Rattle.icu_text_sets.specs.Inside.StringFaults.{kind_of}
use Rattle.icu_text_sets.proofs.Walks.{goes_on, stops, at_end}
use Rattle.icu_text_sets.proofs.codepointinvliststringlist.make.first_fault.Goals as goal

pub returns-in-Some-clause-first : goal.returns-in-Some-clause-first
returns-in-Some-clause-first c =
    let kind = c.in-Some.ensures ∙ ap (λ t. kind_of t (option_map (λ s. string_bytes s.now) c.get.result)) c.deref.ensures in
    stops c.args.strings.now c.loop-i.i c.index-strings-i.result c.get.result _ c.in-Some.fault c.loop-i-test.true c.index-strings-i.is
    c.get.ensures.lookup kind c.loop-i.invariant

pub loop-i-preserved : goal.loop-i-preserved
loop-i-preserved c =
    let kind = c.in_default.ensures ∙ ap (λ t. kind_of t (option_map (λ s. string_bytes s.now) c.get.result)) c.deref.ensures in
    goes_on c.args.strings.now c.loop-i.i c.index-strings-i.result c.get.result _ c.loop-i-test.true c.index-strings-i.is
    c.get.ensures.lookup kind c.loop-i.invariant

pub returns-clause-first : goal.returns-clause-first
returns-clause-first c = at_end c.args.strings.now c.loop-i.i _ c.loop-i-test.false c.loop-i.invariant
