use Rattle.std.proofs.Common.{Bor, List, ℕ, map}
use Rattle.std.proofs.lemmas.Iterator.{YieldsList-from_slice}
use Rattle.std.proofs.lemmas.Iterator.Consumers.{YieldsList-at, YieldsList-from_copied}
use Rattle.icu_collections.specs.CodePointInversionListAndStringList.{HoldsTexts}
use Rattle.examples.proofs.Collected.{some_from_all}
use Rattle.examples.proofs.sets.collected_texts.Goals as goal

pub returns : goal.returns
returns c =
    let source = YieldsList-from_slice c.args.texts.now c.iter.ensures.rest in
    let road = YieldsList-from_copied (YieldsList-at c.copied.ensures.source source) in
    rw c.ok.ensures.value (some_from_all (λ (texts : List (Bor (List ℕ))). HoldsTexts (map (λ t. t.now) texts)) c.from_iter.result
    c.from_iter.ensures.ok road)
