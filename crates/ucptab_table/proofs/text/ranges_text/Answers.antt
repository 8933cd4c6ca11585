-- The lines of the ranges of a coherent trie are those of its map's maximal runs.
use Rattle.std.proofs.Common.{map, rules}
use Rattle.icu_trie_core.proofs.CallerLemmas.{AreMaximalRuns-some}
use Rattle.icu_trie.specs.Ranges.{answers}
use Rattle.ucptab_table.specs.Inside.Ranges.{run_of_values}
use Rattle.ucptab_table.proofs.RangeRuns.{runs-of-ranges}
use Rattle.ucptab_table.proofs.text.ranges_text.Goals as goal

pub returns : goal.returns
returns c = λ coherent value same.
    let ranges = c.loop-range.yielded in
    let runs = c.iter_ranges-range-items.ensures.runs coherent ranges (search rules) in
    let values = rw (runs-of-ranges ranges) at runs in (
      map run_of_values ranges,
      (
        (AreMaximalRuns-some (answers c.args.trie.now) value same (map run_of_values ranges)).0 values,
        c.loop-range.invariant,
      ),
    )
