mod CellLemmas
mod JsonLemmas
mod RowLemmas
mod SerializedLemmas
mod TomlFaults
mod TomlLemmas
