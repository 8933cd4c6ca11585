mod PropertyLemmas
mod TomlLemmas
mod TomlNameLemmas
mod WidthLemmas
