-- The text of a key of 16-bit units.
use Rattle.std.specs.Prelude.{ℕ, List, encode_utf8_all}
use Rattle.std.specs.Char.Utf16.{utf16_lossy_chars}

-- The units decoded as UTF-16, each lone surrogate as U+FFFD, and encoded in UTF-8.
abbrev pub key_text : List ℕ → List ℕ
key_text key = encode_utf8_all (utf16_lossy_chars key)
