use Rattle.std.proofs.Common.{◌∙◌, [], sym, arith}
use Rattle.ucptrie_names.specs.ValueIdentifiers.{listed}
use Rattle.ucptrie_names.proofs.IdentifierLemmas.{identifiers-of, values-above, values-all, values-more, values-shorter}
use Rattle.ucptrie_names.proofs.value_names.enum_values.Goals as goal
use Rattle.ucptrie_names.proofs.value_names.enum_values.Goals.{then-name-highest+then-is_longest+in_ok-push_value, else-name-highest, else-name-highest-via-then-name-highest+else-is_longest, else-name-highest-via-else-name-highest}

pub loop-i-preserved : goal.loop-i-preserved
loop-i-preserved c = λ all more.
    let i = c.loop-i.i in
    let names = c.args.names.now in
    let cut = c.split_at.ensures in
    elim c.if-name-highest.branch [
      | then-name-highest+then-is_longest+in_ok-push_value w ↦
          let longest = rw (cut.front, cut.back) at (sym w.is_longest.ensures ∙ w.if-is_longest.true) in
          c.loop-i.invariant all
          (values-more c.args.highest i names _ c.loop-i-test.true c.args.is_rust c.loop-i.values.items all w.push_value.new.values.items
          w.if-name-highest.true longest w.in_ok-push_value.ensures (rw w.values-is at more))
      | else-name-highest w ↦ elim w.else-name-highest.branch [
        | else-name-highest-via-then-name-highest+else-is_longest v ↦
            let shorter = rw (cut.front, cut.back) at (sym v.is_longest.ensures ∙ v.if-is_longest.false) in
            c.loop-i.invariant all
            (values-shorter c.args.highest i names _ c.loop-i-test.true c.args.is_rust c.loop-i.values.items all shorter
            (rw w.values-is at more))
        | else-name-highest-via-else-name-highest v ↦
            c.loop-i.invariant all
            (values-above c.args.highest i names _ c.loop-i-test.true c.args.is_rust c.loop-i.values.items all v.if-name-highest.false
            (rw w.values-is at more))
      ]
    ]

pub returns-clause-identifiers : goal.returns-clause-identifiers
returns-clause-identifiers c =
    let values = c.loop-i.values.items in
    identifiers-of c.args.is_rust (listed c.args.highest [] c.args.names.now) values
    (c.loop-i.invariant values (values-all c.args.is_rust c.args.highest c.loop-i.i c.args.names.now values (omega arith)))
