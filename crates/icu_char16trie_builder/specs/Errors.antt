-- The errors of a function that adds entries and builds.
use Rattle.icu_char16trie_builder.specs.declared.error.AddError.{AddError}
use Rattle.icu_char16trie_builder.specs.declared.error.AddError.TheVariants.{KeyTooLong, Duplicate, Memory}
use Rattle.icu_char16trie_builder.specs.declared.error.BuildError.{BuildError}
use Rattle.icu_char16trie_builder.specs.declared.error.BuildError.TheVariants as refusals

-- A rejected entry as a build error. `Memory` stays `Memory`.
abbrev pub entry_refusal : AddError → BuildError
entry_refusal KeyTooLong = refusals.Entry KeyTooLong
entry_refusal Duplicate = refusals.Entry Duplicate
entry_refusal Memory = refusals.Memory
