use Rattle.std.proofs.Common.{arith, rules}
use Rattle.icu_collections_c.proofs.Utf8PositionLemmas.{text_by_position}
use Rattle.icu_collections_c.proofs.well_formed.tested.are_characters.Goals as goal

pub returns : goal.returns
returns c =
    text_by_position c.args.bytes.now c.starts_with_fault.result c.ends_in_character.result c.has_fault.result (omega arith)
    c.starts_with_fault.ensures c.ends_in_character.ensures c.has_fault.ensures

pub returns-then-bytes-lt3 : goal.returns-then-bytes-lt3
returns-then-bytes-lt3 c = search rules
