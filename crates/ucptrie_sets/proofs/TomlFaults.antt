-- The faults of a TOML file with sets are others than that the text is not TOML.
use Rattle.std.proofs.Common.{◌≡◌, ℕ, ◌+◌, ◌||◌, Bool, true, false, List, [], ◌∷◌, Option, Some, None, Result, Ok, Err, nat_lt, if◌then◌else◌, option_and_then}
use Rattle.std.specs.List.{filter}
use Rattle.std.specs.Option.{ok_or}
use Rattle.std.specs.Prelude.{codes}
use Rattle.toml.specs.Data.{Data, Members}
use Rattle.toml.specs.Parse.{parse_document}
use Rattle.icu_zerovec.specs.FirstFault.{and_then, before, read_from}
use Rattle.ucptrie_sets.specs.TomlSets.{asked_among, file_ranges, is_asked, items_at, items_in, only_one, pair_in, range_of, range_or, ranges_in, ranges_of, IsRefused, IsWhyNoSetInFile}
use Rattle.ucptrie_sets.specs.declared.error.SetFileError.{SetFileError}
use Rattle.ucptrie_sets.specs.declared.error.SetFileError.TheVariants.{NotToml, NoSets, Missing, Several, NoRanges, NotAPair, Reversed, Memory}

before-never : (r : ℕ × ℕ) (rest : Result (List (ℕ × ℕ)) SetFileError) → (rest ≡ Err NotToml → ⊥) → before (Ok r) rest ≡ Err NotToml → ⊥
before-never r (Ok xs) never e = cc
before-never r (Err f) never e = never e

if-never : (i : ℕ) (r : ℕ × ℕ) (b : Bool) (rest : Result (List (ℕ × ℕ)) SetFileError) → (rest ≡ Err NotToml → ⊥)
    → before (if b then Err (Reversed i) else Ok r) rest ≡ Err NotToml → ⊥
if-never i r true rest never e = cc
if-never i r false rest never e = before-never r rest never e

range_or-never : (i : ℕ) (o : Option (ℕ × ℕ)) (rest : Result (List (ℕ × ℕ)) SetFileError) → (rest ≡ Err NotToml → ⊥)
    → before (range_or i o) rest ≡ Err NotToml → ⊥
range_or-never i None rest never e = cc
range_or-never i (Some r) rest never e = if-never i r (nat_lt r.1 r.0) rest never e

-- reading items never says that a text is not TOML
read-never : (i : ℕ) (xs : List Data) → read_from range_of i xs ≡ Err NotToml → ⊥
unfolding read_from
read-never i [] e = cc
read-never i (x ∷ xs) e = range_or-never i (option_and_then pair_in (items_in x)) (read_from range_of (i + 1) xs) (read-never (i + 1) xs) e

ranges-never : (o : Option (List Data)) → and_then (ok_or o NoRanges) ranges_in ≡ Err NotToml → ⊥
ranges-never None e = cc
ranges-never (Some items) e = read-never 0 items e

one-never : (ds : List Data) → and_then (only_one ds) (λ property. and_then (ok_or (ranges_of property) NoRanges) ranges_in) ≡ Err NotToml
    → ⊥
one-never [] e = cc
one-never (d ∷ []) e = ranges-never (ranges_of d) e
one-never (d ∷ d' ∷ ds) e = cc

items-never : (name : Option (List ℕ)) (o : Option (List Data))
    → and_then (ok_or o NoSets) (λ properties. and_then (asked_among name properties) (λ property.
    and_then (ok_or (ranges_of property) NoRanges) ranges_in)) ≡ Err NotToml → ⊥
items-never name None e = cc
items-never name (Some properties) e = one-never (filter (is_asked name) properties) e

-- the faults of a file are those of its text
pub why_in_file : (text : List ℕ) (name : Option (List ℕ)) (file : Members) → parse_document text ≡ Some file → (e : SetFileError)
    → IsRefused (file_ranges name file) e → IsWhyNoSetInFile text name e
why_in_file text name file reads NotToml h = absurd (items-never name (items_at (codes "binary_property") file) h)
why_in_file text name file reads NoSets h = (file, reads, h)
why_in_file text name file reads Missing h = (file, reads, h)
why_in_file text name file reads Several h = (file, reads, h)
why_in_file text name file reads NoRanges h = (file, reads, h)
why_in_file text name file reads (NotAPair i) h = (file, reads, h)
why_in_file text name file reads (Reversed i) h = (file, reads, h)
why_in_file text name file reads Memory h = tt
