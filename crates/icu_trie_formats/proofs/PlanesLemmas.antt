-- The packed bytes of the planes trie are its cells, and they pass every check of a trie's parts.
use Rattle.std.proofs.Common.{◌≡◌, ℕ, ◌^◌, List, Option, Some, None, refl, sym, ◌∙◌}
use Rattle.std.proofs.lemmas.Bool.{true≢false}
use Rattle.icu_zerovec.specs.Cells.{values_of, IsFault}
use Rattle.icu_zerovec.specs.PackedBytes.{number_of}
use Rattle.icu_zerovec.specs.declared.ule.UleError.{UleError}
use Rattle.icu_zerovec.specs.declared.ule.UleError.TheVariants.{Length, Cell}
use Rattle.icu_trie_core.specs.declared.error.CodePointTrieError.{CodePointTrieError}
use Rattle.icu_trie_core.specs.ValueNumbers.{fitting}
use Rattle.icu_trie.specs.Parts.{parts_fault}
use Rattle.icu_trie_formats.specs.Planes.{planes_header, planes_index, planes_data}
use Rattle.icu_trie_formats.specs.declared.planes.table.TheConstants.{INDEX, DATA}

pub values_of-INDEX : values_of (λ b. Some (number_of 2 b)) 2 INDEX ≡ planes_index
unfolding values_of planes_index
values_of-INDEX = refl

pub values_of-DATA : values_of (λ b. Some (number_of 1 b)) 1 DATA ≡ planes_data
unfolding values_of planes_data
values_of-DATA = refl

pub no_fault : parts_fault (fitting (2 ^ 8)) planes_header planes_index planes_data ≡ None
unfolding planes_index planes_data
no_fault = refl

-- If each cell of some bytes is a value, only their number can be an error. These bytes are whole
-- cells.
pub no_fault_of_INDEX : (e : UleError) → IsFault (λ b. Some (number_of 2 b)) 2 INDEX e → ⊥
no_fault_of_INDEX Length h = h refl
no_fault_of_INDEX (Cell i) h = absurd (true≢false h.2)

pub no_fault_of_DATA : (e : UleError) → IsFault (λ b. Some (number_of 1 b)) 1 DATA e → ⊥
no_fault_of_DATA Length h = h refl
no_fault_of_DATA (Cell i) h = absurd (true≢false h.2)

pub never_refused : (index values : List ℕ) (e : CodePointTrieError) → index ≡ planes_index → values ≡ planes_data
    → parts_fault (fitting (2 ^ 8)) planes_header index values ≡ Some e → ⊥
never_refused index values e i v h =
    let n : parts_fault (fitting (2 ^ 8)) planes_header index values ≡ None = rw (i, v) no_fault in
    let s : ◌≡◌ {A = Option CodePointTrieError} None (Some e) = sym n ∙ h in
    cc
