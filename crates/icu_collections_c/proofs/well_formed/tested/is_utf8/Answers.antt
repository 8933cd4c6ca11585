use Rattle.std.proofs.Common.{drop, take-append-drop}
use Rattle.std.proofs.lemmas.List.{take_rest}
use Rattle.simdutf8.proofs.StepsLemmas.{IsUtf8-after_ascii}
use Rattle.icu_collections_c.proofs.well_formed.tested.is_utf8.Goals as goal

pub returns : goal.returns
returns c =
    let rest = rw take_rest at c.are_characters.ensures in
    let skip = rw take-append-drop at (IsUtf8-after_ascii _ (drop c.ascii_blocks.result c.args.bytes.now) c.ascii_blocks.ensures.ascii) in
    (λ t. skip.1 (rest.0 t), λ u. rest.1 (skip.0 u))
