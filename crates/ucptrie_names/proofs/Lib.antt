mod IdentifierLemmas
mod SourceTexts
mod WordLemmas
