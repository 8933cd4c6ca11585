use Rattle.std.proofs.Common.{sym, refl}
use Rattle.icu_char16trie.proofs.WalkLemmas.{absent_read, lead_read, node_behind}
use Rattle.icu_char16trie.proofs.pending.Pending.read_node.Goals as goal

pub returns-in_default-unit_at : goal.returns-in_default-unit_at
returns-in_default-unit_at c =
    absent_read c.args.self.now _ c.in-Some.place (record { units = refl; spelling = refl; parts = refl; node = c.take.ensures.after })
    (sym c.in-Some.ensures.value) (sym c.in_default-unit_at.ensures.unit)

pub returns : goal.returns
returns c =
    lead_read c.args.self.now _ c.in-Some.place c.in-Some-unit_at.lead _ _
    (record { units = refl; spelling = refl; parts = refl; node = c.take.ensures.after }) (sym c.in-Some.ensures.value)
    (sym c.in-Some-unit_at.ensures.unit) c.below.ensures.is c.below.ensures.near c.value_by-value.ensures
    (node_behind c.in-Some.place c.in-Some-unit_at.lead)
