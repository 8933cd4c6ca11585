mod JsonLemmas
mod PlanesLemmas
mod TomlLemmas
