-- How units are added to a list.
use Rattle.std.specs.Prelude.{◌≡◌, ℕ, List, ◌++◌}

-- Units for which IsSaid holds are added after the others.
abbrev pub Adds : (List ℕ → Type 0) → List ℕ → List ℕ → Type 0
Adds IsSaid old new = (us : List ℕ) × IsSaid us × (new ≡ old ++ us)
