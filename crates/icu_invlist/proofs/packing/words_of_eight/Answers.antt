-- Three words are the bytes of the first four boundaries, and three those of the others.
use Rattle.std.proofs.Common.{◌≡◌, ℕ, List, [], ◌∷◌, get_or, sym, ap, ◌∙◌, append-nil}
use Rattle.std.specs.List.{flat_map}
use Rattle.std.proofs.lemmas.Grind.{flat_map-append}
use Rattle.icu_zerovec.specs.PackedBytes.{low_bytes}
use Rattle.icu_invlist.proofs.PackedWords.{four_and_four}
use Rattle.icu_invlist.proofs.packing.words_of_eight.Goals as goal

pub returns : goal.returns
returns c =
    let e = c.args.eight.now in
    let four : List ℕ = get_or e 0 0 ∷ get_or e 1 0 ∷ get_or e 2 0 ∷ get_or e 3 0 ∷ [] in
    let others : List ℕ = get_or e 4 0 ∷ get_or e 5 0 ∷ get_or e 6 0 ∷ get_or e 7 0 ∷ [] in
    let first : flat_map (λ b. b) c.words_of.result ≡ flat_map (low_bytes 3) four = c.words_of.ensures in
    let second : flat_map (λ b. b) c.words_of-2.result ≡ flat_map (low_bytes 3) others = c.words_of-2.ensures in
    rw (append-nil c.words_of-2.result, flat_map-append (λ b. b) c.words_of.result c.words_of-2.result, first, second)
    (sym (flat_map-append (low_bytes 3) four others) ∙ ap (flat_map (low_bytes 3)) (sym (four_and_four e c.told-eight)))
