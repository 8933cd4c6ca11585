use Rattle.std.proofs.Common.{◌≡◌, ◌-◌, ◌%◌, ◌++◌, map, drop}
use Rattle.serde_json.specs.View.{view}
use Rattle.icu_invlist.specs.SetJson.{texts_of}
use Rattle.icu_invlist.proofs.WrittenSets.{text_data}
use Rattle.icu_invlist.proofs.codepointinvlist.cpinvlist.CodePointInversionList.to_json.Given as goal

abbrev pub invariant-loop-i : goal.invariant-loop-i
invariant-loop-i l = record {
  even : l.i % 2 ≡ 0;
  texts : map view l.items.items ++ map text_data (texts_of (drop l.i l.self)) ≡ map text_data (texts_of l.self);
}

abbrev pub decreases-loop-i : goal.decreases-loop-i
decreases-loop-i l = l.count - l.i
