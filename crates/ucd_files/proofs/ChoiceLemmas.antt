-- Names that are all `Y` or `N`.
use Rattle.std.proofs.Common.{◌≡◌, List, length, refl}
use Rattle.std.specs.Prelude.{◌==◌, ◌&&◌, not}
use Rattle.std.specs.List.{list_all}
use Rattle.std.proofs.lemmas.List.{length-map}
use Rattle.std.proofs.lemmas.List.Folds.{list_all-map}
use Rattle.ucd_files.specs.Choices.{are_yes_or_no, is_yes_or_no}
use Rattle.ucd_files.specs.Names.{pairs_of}
use Rattle.ucd_files.specs.declared.names.Name.{Name}

pub all_yes_or_no : (names : List Name) → are_yes_or_no (pairs_of names)
    ≡ (not (length names == 0) && list_all (λ name. is_yes_or_no name.text.now) names)
unfolding are_yes_or_no
all_yes_or_no names = rw (length-map, list_all-map) refl
