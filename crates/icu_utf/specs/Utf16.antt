-- The code points of 16-bit units.
use Rattle.std.specs.Prelude.{ℕ, ◌&&◌, List, [], ◌∷◌, if◌then◌else◌}
use Rattle.std.specs.Char.Utf16.{is_high_surrogate, is_low_surrogate, surrogate_pair_char}

-- The code points of the units in order. A high surrogate followed by a low surrogate is one code
-- point, above 0xFFFF. Each other unit is a code point of its own, including a surrogate that is
-- not part of a pair.
unfoldable pub code_points_of : List ℕ → List ℕ
code_points_of [] = []
code_points_of (u ∷ []) = u ∷ []
code_points_of (u ∷ v ∷ us) =
    if is_high_surrogate u && is_low_surrogate v then surrogate_pair_char u v ∷ code_points_of us
    else u ∷ code_points_of (v ∷ us)
