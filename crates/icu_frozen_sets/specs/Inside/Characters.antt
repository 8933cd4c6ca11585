-- Membership of the characters of a text, one by one.
use Rattle.std.specs.Prelude.{ℕ, ◌++◌, ◌<◌, ◌≤◌, ◌≡◌, List, Bool, drop, length}
use Rattle.std.specs.Char.{encode_utf8}
use Rattle.icu_invlist.specs.InversionList.{holds}

-- A character of the text starts at offset `start` and ends before `end`, and `held` says whether
-- the set contains it.
pub record IsAsked (ends text : List ℕ) (start : ℕ) (held : Bool) (end : ℕ) : Type 0 where
  pub character : ℕ
  pub stands : drop start text ≡ encode_utf8 character ++ drop end text
  pub order : start < end
  pub within : end ≤ length text
  pub told : held ≡ holds ends character
