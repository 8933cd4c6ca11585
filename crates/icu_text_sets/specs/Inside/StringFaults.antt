-- The fault of one string in a list, as a search from the start finds it.
use Rattle.std.specs.Prelude.{ℕ, ◌+◌, List, [], Option, Some, None, slice_index_or}
use Rattle.std.specs.declared.cmp.Ordering.{Ordering}
use Rattle.std.specs.declared.cmp.Ordering.TheVariants.{Less, Equal, Greater}
use Rattle.icu_text_sets.specs.TextSet.{only_char, text_cmp}
use Rattle.icu_text_sets.specs.TextFaults.{TextFault, one_code_point, repeated, unsorted}
use Rattle.icu_text_sets.specs.declared.codepointinvliststringlist.make.Fault.{Fault}
use Rattle.icu_text_sets.specs.declared.codepointinvliststringlist.make.Fault.TheVariants.{OneCodePoint, Repeated, Unsorted}

-- The fault of this kind at index i, with its texts.
abbrev pub fault_at : List (List ℕ) → ℕ → Fault → TextFault
fault_at texts i OneCodePoint = one_code_point (slice_index_or texts i [])
fault_at texts i Repeated = repeated (slice_index_or texts i [])
fault_at texts i Unsorted = unsorted (slice_index_or texts i []) (slice_index_or texts (i + 1) [])

-- How many texts a fault of this kind contains.
abbrev pub fault_length : Fault → ℕ
fault_length OneCodePoint = 1
fault_length Repeated = 1
fault_length Unsorted = 2

-- The kind of fault of two neighbours, from their order.
abbrev pub next_kind : Ordering → Option Fault
next_kind Less = None
next_kind Equal = Some Repeated
next_kind Greater = Some Unsorted

-- The kind of fault of a text that does not have exactly one character, given the next text.
abbrev pub kind_before : List ℕ → Option (List ℕ) → Option Fault
kind_before t None = None
kind_before t (Some u) = next_kind (text_cmp t u)

-- The kind of fault of a text, given the next text and its only character if it has exactly one.
abbrev pub kind_as : List ℕ → Option (List ℕ) → Option ℕ → Option Fault
kind_as t next (Some c) = Some OneCodePoint
kind_as t next None = kind_before t next

-- The kind of fault of a text, given the next text.
abbrev pub kind_of : List ℕ → Option (List ℕ) → Option Fault
kind_of t next = kind_as t next (only_char t)
