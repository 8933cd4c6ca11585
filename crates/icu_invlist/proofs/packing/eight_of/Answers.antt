-- The last four are those of the last twelve bytes.
use Rattle.std.proofs.Common.{◌≡◌, take, drop, length-drop, sym, arith, ap, ◌∙◌}
use Rattle.std.proofs.lemmas.List.{take_all}
use Rattle.icu_invlist.proofs.PackedWords.{all_eight, four_numbers}
use Rattle.icu_invlist.proofs.packing.eight_of.Goals as goal

pub returns : goal.returns
returns c =
    let b = c.args.bytes.now in
    let all : take 12 (drop 12 b) ≡ drop 12 b = take_all 12 (drop 12 b) (omega (arith, length-drop 12 b, c.told-bytes)) in
    let first : c.four_of.result ≡ four_numbers b = c.four_of.ensures in
    let second : c.four_of-2.result ≡ four_numbers (drop 12 b) = c.four_of-2.ensures ∙ ap four_numbers all in
    rw (first, second) (sym (all_eight b c.told-bytes))
