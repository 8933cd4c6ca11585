use Rattle.std.proofs.Common.{rules, of_calls, sym, refl, Some, Ok, [], ◌∷◌}
use Rattle.icu_trie.proofs.MappedTrieLemmas.{MapsInTurn-seen, MapsInTurn-breaks_off, MapsInTurn-no_memory, MapsInTurn-answered}
use Rattle.icu_trie.proofs.MappedTrieLemmas.{answers-from_maps, value-from_maps, IsCoherent-from_maps}
use Rattle.icu_trie.proofs.cptrie.CodePointTrie.try_alloc_map_value.Goals as goal

pub returns-in-Err-clause-maps : goal.returns-in-Err-clause-maps
returns-in-Err-clause-maps g c = MapsInTurn-seen refl (sym c.error_value.ensures) c.null_value-null_value.ensures
    [] (Some c.in-Err.error) c.f.new.self c.in-Err.ensures refl

pub returns-in-Err-f-clause-maps : goal.returns-in-Err-f-clause-maps
returns-in-Err-f-clause-maps g c = MapsInTurn-seen refl (sym c.error_value.ensures) c.null_value-null_value.ensures
    (c.in-Ok.field-0 ∷ []) (Some c.in-Err-f.error) c.f-2.new.self (c.f.new.self, c.in-Ok.ensures, c.in-Err-f.ensures) refl

pub map_cells-requires : goal.map_cells-requires
map_cells-requires g c = search of_calls

pub returns-in_err-values-clause-maps : goal.returns-in_err-values-clause-maps
returns-in_err-values-clause-maps g c =
    MapsInTurn-breaks_off c.self.view_is (sym c.error_value.ensures) c.null_value-null_value.ensures _ _ _ _ c.in-Ok.ensures c.in-Ok-f.ensures
    c.as_slice.ensures c.in_err-values.ensures.err c.from_residual.ensures

pub returns-in_err-data-clause-maps : goal.returns-in_err-data-clause-maps
returns-in_err-data-clause-maps g c =
    MapsInTurn-no_memory c.self.view_is (sym c.error_value.ensures) c.null_value-null_value.ensures _ _ _ _ c.in-Ok.ensures c.in-Ok-f.ensures
    c.as_slice.ensures c.in_ok-values.ensures.ok c.from_residual-in_err-data.ensures

pub returns-in_err-index-clause-maps : goal.returns-in_err-index-clause-maps
returns-in_err-index-clause-maps g c =
    MapsInTurn-no_memory c.self.view_is (sym c.error_value.ensures) c.null_value-null_value.ensures _ _ _ _ c.in-Ok.ensures c.in-Ok-f.ensures
    c.as_slice.ensures c.in_ok-values.ensures.ok c.from_residual-in_err-index.ensures

pub returns-clause-maps : goal.returns-clause-maps
returns-clause-maps g c =
    MapsInTurn-answered c.self.view_is (sym c.error_value.ensures) c.null_value-null_value.ensures _ _ _ _ c.in-Ok.ensures c.in-Ok-f.ensures
    c.as_slice.ensures c.in_ok-values.ensures.ok (search rules)

pub returns-clause-same : goal.returns-clause-same
returns-clause-same g c = λ h always. answers-from_maps h always (returns-clause-maps g c)

pub returns-clause-value : goal.returns-clause-value
returns-clause-value g c = λ h always. value-from_maps h always (returns-clause-maps g c)

pub returns-clause-coherent : goal.returns-clause-coherent
returns-clause-coherent g c = λ h always.
    let null = always c.f.new.self c.null_value-null_value.result (Ok c.in-Ok-f.null) c.f-2.new.self c.in-Ok-f.ensures in
    IsCoherent-from_maps h always (returns-clause-maps g c) g.P.TrieValue.of_number c.null_value-null_value.result c.in-Ok-f.null
    c.null_value-null_value.ensures (sym null) (g.met.P.TrieValue.number_gives_back c.in-Ok-f.null c.shown.ensures)
