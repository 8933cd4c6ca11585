-- Where the text of a key may be cut.
use Rattle.std.specs.Prelude.{ℕ, List, [], ◌∷◌, take, reverse, string_bytes, ⊤}
use Rattle.std.proofs.Props.{props}
use Rattle.std.specs.Coded.{×_prop, Unit-prop}
use Rattle.std.specs.Str.{IsCharBoundary}
use Rattle.icu_char16trie.specs.declared.pending.BranchPart.{BranchPart}
use Rattle.icu_char16trie.specs.declared.pending.Pending.{Pending}

-- The text may be cut at the mark of each part, one after another.
abbrev pub AreCuts : List ℕ → List BranchPart → Type 0
AreCuts text [] = ⊤
AreCuts text (part ∷ parts) =
    IsCharBoundary text part.mark.len × AreCuts (take part.mark.len text) parts

-- The mark of each postponed part is a character boundary of the key's text.
abbrev pub IsCut : Pending → Type 0
IsCut s = AreCuts (string_bytes s.spelling.text) (reverse s.parts.items)

-- AreCuts is a proposition, which a ghost field requires.
AreCuts-prop : (text : List ℕ) (parts : List BranchPart) → IsProp (AreCuts text parts)
AreCuts-prop text [] = Unit-prop
AreCuts-prop text (part ∷ parts) =
    ×_prop (hlevel props) (AreCuts-prop (take part.mark.len text) parts)

-- IsCut is a proposition, which a ghost field requires.
pub IsCut-prop : (s : Pending) → IsProp (IsCut s)
IsCut-prop s = AreCuts-prop (string_bytes s.spelling.text) (reverse s.parts.items)
