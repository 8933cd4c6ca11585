-- A set of code points and strings in JSON: an object with two members. `cp_inv_list` has the code
-- points, in the JSON form of a set of code points. `str_list` has the array of the strings.
use Rattle.std.specs.Prelude.{◌≡◌, ℕ, ◌⊎◌, List, [], map, codes, Option, Some, None, option_and_then, Result, Ok, Err}
use Rattle.std.specs.Option.{ok_or}
use Rattle.serde_json.specs.Data.{Data, string, array, object, Items, Members, no_members, member}
use Rattle.serde_json.specs.Find.{get, as_object, as_array, as_str}
use Rattle.serde_json.specs.View.{items_of}
use Rattle.icu_invlist.specs.InversionList.{IsValid}
use Rattle.icu_invlist.specs.SetJson.{ends_of, list_of, written_of}
use Rattle.icu_invlist.specs.declared.codepointinvlist.error.SetJsonError.{SetJsonError}
use Rattle.icu_invlist.specs.declared.codepointinvlist.error.SetJsonError.TheVariants.{NotAnArray, NotAString, NotARange, InvalidSet, Memory}
use Rattle.icu_zerovec.specs.FirstFault.{and_then, read_from}
use Rattle.icu_text_sets.specs.TextSet.{TextSet}
use Rattle.icu_text_sets.specs.TextFaults.{TextFault, strings_fault, fault_of}
use Rattle.icu_text_sets.specs.declared.codepointinvliststringlist.error.StringListJsonError.{StringListJsonError}
use Rattle.icu_text_sets.specs.declared.codepointinvliststringlist.error.StringListJsonError.TheVariants as errors

-- The object with these code points and strings, both already in JSON.
abbrev pub object_of : Data → List Data → Data
object_of points strings =
    object (member (codes "cp_inv_list") points
    (member (codes "str_list") (array (items_of strings)) no_members))

-- The JSON value of a set.
abbrev pub json_of : TextSet → Data
json_of set = object_of (written_of set.code_points) (map (λ t. string t) set.strings)

-- ---- the faults of a value
-- A fault: a missing object, key or array; a bad set of code points; an item that is not a string;
-- or a bad list of strings.
pub data JsonFault : Type 0 where
  no_shape : List ℕ → JsonFault
  no_set : SetJsonError → JsonFault
  no_string : ℕ → JsonFault
  text_fault : TextFault → JsonFault

-- The fault that an error contains. `Memory` has none, since it says nothing about the value.
abbrev pub json_fault_of : StringListJsonError → Option JsonFault
json_fault_of (errors.Shape key) = Some (no_shape key.now)
json_fault_of (errors.Set e) = Some (no_set e)
json_fault_of (errors.NotAString i) = Some (no_string i)
json_fault_of (errors.Strings e) = Some (text_fault (fault_of e))
json_fault_of errors.Memory = None

-- The error for a set of code points that was not read. `Memory` stays `Memory`.
abbrev pub set_refusal : SetJsonError → StringListJsonError
set_refusal NotAnArray = errors.Set NotAnArray
set_refusal (NotAString i) = errors.Set (NotAString i)
set_refusal (NotARange i) = errors.Set (NotARange i)
set_refusal InvalidSet = errors.Set InvalidSet
set_refusal Memory = errors.Memory

-- ---- the strings
-- The text of item i, or its fault.
abbrev pub text_or : ℕ → Data → Result (List ℕ) JsonFault
text_or i d = ok_or (as_str d) (no_string i)

-- The texts of the items, or the fault of the first item that is not a string.
abbrev pub texts_in : Items → Result (List (List ℕ)) JsonFault
texts_in items = read_from text_or 0 (list_of items)

-- The texts at the key `str_list`, or their first fault.
abbrev pub texts_said : Data → Result (List (List ℕ)) JsonFault
texts_said d = and_then
    (ok_or (option_and_then as_array (get (codes "str_list") d)) (no_shape (codes "str_list")))
    texts_in

-- ---- the set
-- The set with these boundaries and texts, or the fault of the texts if they have one.
abbrev pub set_unless : List ℕ → List (List ℕ) → Option TextFault → Result TextSet JsonFault
set_unless ends texts None = Ok (record { code_points = ends; strings = texts })
set_unless ends texts (Some f) = Err (text_fault f)

-- The set with these boundaries and the texts that were read, or the first fault of the texts.
abbrev pub set_with : List ℕ → Result (List (List ℕ)) JsonFault → Result TextSet JsonFault
set_with ends said = and_then said (λ texts. set_unless ends texts (strings_fault texts))

-- The boundaries are tested before the texts.
abbrev pub IsReadWith : Result (List ℕ) SetJsonError → Result (List (List ℕ)) JsonFault
    → Result TextSet JsonFault → Type 0
IsReadWith (Err e) texts read = read ≡ Err (no_set e)
IsReadWith (Ok ends) texts read =
    (IsValid ends × (read ≡ set_with ends texts))
    ⊎ ((IsValid ends → ⊥) × (read ≡ Err (no_set InvalidSet)))

-- What a value is read as, given what it has at the key `cp_inv_list`.
abbrev pub IsReadAt : Option Data → Data → Result TextSet JsonFault → Type 0
IsReadAt None d read = read ≡ Err (no_shape (codes "cp_inv_list"))
IsReadAt (Some points) d read = IsReadWith (ends_of points) (texts_said d) read

-- What a value is read as, given its members if it is an object.
abbrev pub IsReadIn : Option Members → Data → Result TextSet JsonFault → Type 0
IsReadIn None d read = read ≡ Err (no_shape [])
IsReadIn (Some ms) d read = IsReadAt (get (codes "cp_inv_list") d) d read

-- What a value is read as: one set or one fault, the first in the order of the tests. Boundaries
-- either are an inversion list or are not, so no value is read in two ways.
abbrev pub IsRead : Data → Result TextSet JsonFault → Type 0
IsRead d read = IsReadIn (as_object d) d read

-- The error contains the fault that the value is read as. `Memory` is possible in any case.
abbrev pub IsRefusedAs : Data → Option JsonFault → Type 0
IsRefusedAs d None = Unit {0}
IsRefusedAs d (Some f) = IsRead d (Err f)
