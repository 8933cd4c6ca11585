-- The partition point of the cells is a search among them, and cells compare as their values.
use Rattle.std.proofs.Common.{rules, ap, ◌∙◌, sym, is_eq}
use Rattle.std.specs.declared.result.Result.TheVariants.{Ok, Err}
use Rattle.std.specs.Ordering.{is_lt}
use Rattle.std.proofs.lemmas.List.Sorted.{IsPartitionPoint-from_clause}
use Rattle.icu_zerovec.specs.CellOrder.{cell_order}
use Rattle.icu_zerovec.proofs.CellSearches.{among_values, in_range}
use Rattle.icu_zerovec.proofs.Chunks.{chunks-width}
use Rattle.icu_zerovec.proofs.PartitionPoints.{IsSplitIfRising, less_first, found, place_before, place_at_end}
use Rattle.icu_zerovec.proofs.search.tested.search_chunks.Goals as goal

pub returns-in-Some-clause-bound : goal.returns-in-Some-clause-bound
returns-in-Some-clause-bound g c =
    let q = chunks-width c.args.bytes.now c.as_chunks.ensures.front c.requires.width in
    in_range g.T.AsULE.unpack g.T.AsULE.WIDTH c.args.bytes.now c.requires.packed c.as_chunks.result.0.now q
    (Ok c.partition_point-low.result) c.in-Some.ensures.lookup.3.0

pub returns-in-Some-clause-position : goal.returns-in-Some-clause-position
returns-in-Some-clause-position g c =
    let q = chunks-width c.args.bytes.now c.as_chunks.ensures.front c.requires.width in
    let ord = λ (y : g.row.T.Denot). g.T.Ord.cmp y c.args.x.now in
    let order = cell_order g.T.AsULE.unpack g.T.AsULE.WIDTH ord in
    let e = ap is_eq (sym c.order_of.ensures) ∙ (sym c.is_eq.ensures ∙ c.if-is_eq.true) in
    among_values g.T.AsULE.unpack g.T.AsULE.WIDTH ord c.args.bytes.now c.requires.packed c.as_chunks.result.0.now q
    (Ok c.partition_point-low.result) c.in-Some.ensures.lookup.3.0
    (found order c.as_chunks.result.0.now c.partition_point-low.result c.in-Some.cell c.in-Some.ensures.lookup e)

pub returns-in_default-clause-bound : goal.returns-in_default-clause-bound
returns-in_default-clause-bound g c =
    let q = chunks-width c.args.bytes.now c.as_chunks.ensures.front c.requires.width in
    in_range g.T.AsULE.unpack g.T.AsULE.WIDTH c.args.bytes.now c.requires.packed c.as_chunks.result.0.now q
    (Err c.partition_point-low.result) c.partition_point-low.ensures.bound

pub returns-in_default-clause-position : goal.returns-in_default-clause-position
returns-in_default-clause-position g c =
    let q = chunks-width c.args.bytes.now c.as_chunks.ensures.front c.requires.width in
    let ord = λ (y : g.row.T.Denot). g.T.Ord.cmp y c.args.x.now in
    let order = cell_order g.T.AsULE.unpack g.T.AsULE.WIDTH ord in
    let s : IsSplitIfRising order c.as_chunks.result.0.now c.partition_point-low.result = λ r.
    IsPartitionPoint-from_clause (λ y. is_lt (order y)) c.as_chunks.result.0.now c.partition_point-low.result
    c.partition_point-low.ensures.partitioned (less_first order c.as_chunks.result.0.now r) (search rules) in
    let e = ap is_eq (sym c.order_of.ensures) ∙ (sym c.is_eq.ensures ∙ c.if-is_eq.false) in
    among_values g.T.AsULE.unpack g.T.AsULE.WIDTH ord c.args.bytes.now c.requires.packed c.as_chunks.result.0.now q
    (Err c.partition_point-low.result) c.partition_point-low.ensures.bound
    (place_before order c.as_chunks.result.0.now c.partition_point-low.result c.in-Some.cell c.in-Some.ensures.lookup e s)

pub returns-in_default-2-clause-bound : goal.returns-in_default-2-clause-bound
returns-in_default-2-clause-bound g c =
    let q = chunks-width c.args.bytes.now c.as_chunks.ensures.front c.requires.width in
    in_range g.T.AsULE.unpack g.T.AsULE.WIDTH c.args.bytes.now c.requires.packed c.as_chunks.result.0.now q
    (Err c.partition_point-low.result) c.partition_point-low.ensures.bound

pub returns-in_default-2-clause-position : goal.returns-in_default-2-clause-position
returns-in_default-2-clause-position g c =
    let q = chunks-width c.args.bytes.now c.as_chunks.ensures.front c.requires.width in
    let ord = λ (y : g.row.T.Denot). g.T.Ord.cmp y c.args.x.now in
    let order = cell_order g.T.AsULE.unpack g.T.AsULE.WIDTH ord in
    let s : IsSplitIfRising order c.as_chunks.result.0.now c.partition_point-low.result = λ r.
    IsPartitionPoint-from_clause (λ y. is_lt (order y)) c.as_chunks.result.0.now c.partition_point-low.result
    c.partition_point-low.ensures.partitioned (less_first order c.as_chunks.result.0.now r) (search rules) in
    let at = rw c.in_default.is at c.get.ensures.lookup in
    among_values g.T.AsULE.unpack g.T.AsULE.WIDTH ord c.args.bytes.now c.requires.packed c.as_chunks.result.0.now q
    (Err c.partition_point-low.result) c.partition_point-low.ensures.bound
    (place_at_end order c.as_chunks.result.0.now c.partition_point-low.result at s)
