-- Names that are known.
use Rattle.std.proofs.Common.{◌≡◌, ℕ, Bool, true, false, List, [], ◌∷◌, ◌++◌, length, Some, None, refl}
use Rattle.std.specs.Prelude.{is_some}
use Rattle.std.proofs.lemmas.List.{length-map}
use Rattle.ucd_files.specs.Names.{is_match, number_named, pairs_of}
use Rattle.ucd_files.specs.ValueNames.{is_known, with_name}
use Rattle.ucd_files.specs.declared.names.Matching.TheVariants.{Exact}
use Rattle.ucd_files.specs.declared.names.Name.{Name}

-- A name is known if it has a number.
pub known : (names : List Name) (text : List ℕ) → is_known (pairs_of names) text ≡ is_some (number_named Exact names text)
unfolding number_named
known [] text = refl
known (name ∷ names) text = by_test (is_match Exact name.text.now text) refl (known names text) where
  by_test : (same : Bool) → is_match Exact name.text.now text ≡ same
      → is_known (pairs_of names) text ≡ is_some (number_named Exact names text)
      → is_known (pairs_of (name ∷ names)) text ≡ is_some (number_named Exact (name ∷ names) text)
  by_test true is more = rw is refl
  by_test false is more = rw is more

pub with_new : (names : List Name) (text : List ℕ) → number_named Exact names text ≡ None
    → with_name (pairs_of names) text ≡ pairs_of names ++ (text, length names) ∷ []
with_new names text none = rw (known names text, none, length-map) refl

pub with_known : (names : List Name) (text : List ℕ) (n : ℕ) → number_named Exact names text ≡ Some n
    → with_name (pairs_of names) text ≡ pairs_of names
with_known names text n is = rw (known names text, is) refl
