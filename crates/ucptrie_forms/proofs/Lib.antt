mod CellLemmas
mod JsonLemmas
mod StatedLemmas
mod WidthLemmas
mod WriteLemmas
