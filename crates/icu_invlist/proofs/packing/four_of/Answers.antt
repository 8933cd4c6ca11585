-- Each word has a boundary in its three low or high bytes.
use Rattle.std.proofs.Common.{arith, drop, ap, ◌∙◌, ◌%◌, ◌/◌}
use Rattle.std.proofs.lemmas.List.{drop-drop}
use Rattle.icu_zerovec.specs.PackedBytes.{AreBytes, number_of}
use Rattle.icu_invlist.proofs.PackedWords.{word_low, word_high, AreBytes-drop, four_same}
use Rattle.icu_invlist.proofs.packing.four_of.Goals as goal

pub returns : goal.returns
returns c =
    let b = c.args.bytes.now in
    let small : AreBytes b = λ i. omega (arith, c.type_inv.bytes i) in
    four_same
    (ap (λ n. n % 16777216) c.word_at.ensures ∙ word_low b small)
    (ap (λ n. n % 16777216) c.word_at-2.ensures ∙ word_low (drop 3 b) (AreBytes-drop 3 b small))
    (ap (λ n. n % 16777216) c.word_at-3.ensures ∙ word_low (drop 6 b) (AreBytes-drop 6 b small))
    (ap (λ n. n / 256) c.word_at-4.ensures ∙ word_high (drop 8 b) (AreBytes-drop 8 b small) ∙ ap (number_of 3) (drop-drop 1 8 b))
