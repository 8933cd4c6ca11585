-- If a value is rejected, its strings do not spell a set.
use Rattle.std.proofs.Common.{◌≡◌, ℕ, ◌+◌, List, Option, Some, None, Result, Ok, Err, refl, sym, ap, ◌∙◌, subst, arith, suc}
use Rattle.std.specs.Prelude.{◌≢◌}
use Rattle.std.specs.Option.{ok_or}
use Rattle.std.specs.Str.{chars}
use Rattle.icu_zerovec.specs.FirstFault.{before, read_from}
use Rattle.serde_json.specs.Data.{Data, null, boolean, number, string, array, object, Items, no_items, item}
use Rattle.icu_invlist.specs.SetJson.{FailsFirst, IsRefusedJson, SaysNone, SpellsNoRange, ends_of, list_of, range_at, range_or}
use Rattle.icu_invlist.specs.Inside.GivenEnds.{GivesEnds}
use Rattle.icu_invlist.specs.declared.codepointinvlist.error.SetJsonError.{SetJsonError}
use Rattle.icu_invlist.specs.declared.codepointinvlist.error.SetJsonError.TheVariants as errors
use Rattle.icu_invlist.proofs.JsonLemmas.{ends_found, fault_of_ranges}
use Rattle.icu_invlist.proofs.TextLemmas.{range_found, range_only}

-- An item that is not a string.
abbrev pub NoString : Data → Type 0
NoString d = (text : List ℕ) → d ≢ string text

-- With k items already read, item j is item i of the array, and is the first with the fault.
abbrev FailsFrom : (Data → Type 0) → ℕ → ℕ → Items → Type 0
FailsFrom Fault k i items = (j : ℕ) × (i ≡ k + j) × FailsFirst Fault j items

-- ---- the first string that does not spell a range
no_range_in : (k i : ℕ) (t : List ℕ) (items : Items) (r : Option (ℕ × ℕ)) (others : Result (List (ℕ × ℕ)) SetJsonError)
    → range_at (chars t) ≡ r
    → (others ≡ Err (errors.NotARange i) → FailsFrom SpellsNoRange (k + 1) i items)
    → before (ok_or r (errors.NotARange k)) others ≡ Err (errors.NotARange i) → FailsFrom SpellsNoRange k i (item (string t) items)
no_range_in k i t items None others e go h = let p : k ≡ i = cc in
    (0, omega arith, (t, refl, λ a b r. let q = range_only (chars t) a b r in absurd cc))
no_range_in k i t items (Some x) (Ok rest) e go h = absurd cc
no_range_in k i t items (Some x) (Err f) e go h =
    let g : ◌≡◌ {A = Result (List (ℕ × ℕ)) SetJsonError} (Err f) (Err (errors.NotARange i)) = cc in
    let later = go g in (suc later.0, (let p = later.1 in omega arith), ((t, x.0, x.1, refl, range_found (chars t) x.0 x.1 e), later.2))

no_range_from : (k i : ℕ) (items : Items) → read_from range_or k (list_of items) ≡ Err (errors.NotARange i)
    → FailsFrom SpellsNoRange k i items
unfolding read_from
no_range_from k i no_items h = absurd cc
no_range_from k i (item null items) h = absurd cc
no_range_from k i (item (boolean b) items) h = absurd cc
no_range_from k i (item (number n) items) h = absurd cc
no_range_from k i (item (string t) items) h =
    no_range_in k i t items (range_at (chars t)) (read_from range_or (k + 1) (list_of items)) refl (λ g. no_range_from (k + 1) i items g) h
no_range_from k i (item (array ds) items) h = absurd cc
no_range_from k i (item (object ms) items) h = absurd cc

-- ---- the first item that is not a string
string_in : (k i : ℕ) (t : List ℕ) (items : Items) (r : Option (ℕ × ℕ)) (others : Result (List (ℕ × ℕ)) SetJsonError)
    → range_at (chars t) ≡ r
    → (others ≡ Err (errors.NotAString i) → FailsFrom NoString (k + 1) i items)
    → before (ok_or r (errors.NotARange k)) others ≡ Err (errors.NotAString i) → FailsFrom NoString k i (item (string t) items)
string_in k i t items None others e go h = absurd cc
string_in k i t items (Some x) (Ok rest) e go h = absurd cc
string_in k i t items (Some x) (Err f) e go h =
    let g : ◌≡◌ {A = Result (List (ℕ × ℕ)) SetJsonError} (Err f) (Err (errors.NotAString i)) = cc in
    let later = go g in (suc later.0, (let p = later.1 in omega arith), ((t, x.0, x.1, refl, range_found (chars t) x.0 x.1 e), later.2))

no_string_from : (k i : ℕ) (items : Items) → read_from range_or k (list_of items) ≡ Err (errors.NotAString i) → FailsFrom NoString k i items
unfolding read_from
no_string_from k i no_items h = absurd cc
no_string_from k i (item null items) h = let p : k ≡ i = cc in (0, omega arith, λ t e. absurd cc)
no_string_from k i (item (boolean b) items) h = let p : k ≡ i = cc in (0, omega arith, λ t e. absurd cc)
no_string_from k i (item (number n) items) h = let p : k ≡ i = cc in (0, omega arith, λ t e. absurd cc)
no_string_from k i (item (string t) items) h =
    string_in k i t items (range_at (chars t)) (read_from range_or (k + 1) (list_of items)) refl (λ g. no_string_from (k + 1) i items g) h
no_string_from k i (item (array ds) items) h = let p : k ≡ i = cc in (0, omega arith, λ t e. absurd cc)
no_string_from k i (item (object ms) items) h = let p : k ≡ i = cc in (0, omega arith, λ t e. absurd cc)

-- ---- an array differs from every other kind of value
array_in : (k : ℕ) (r : Option (ℕ × ℕ)) (others : Result (List (ℕ × ℕ)) SetJsonError) → (others ≡ Err errors.NotAnArray → ⊥)
    → before (ok_or r (errors.NotARange k)) others ≡ Err errors.NotAnArray → ⊥
array_in k None others go h = absurd cc
array_in k (Some x) (Ok rest) go h = absurd cc
array_in k (Some x) (Err f) go h = let g : ◌≡◌ {A = Result (List (ℕ × ℕ)) SetJsonError} (Err f) (Err errors.NotAnArray) = cc in go g

items_of_array : (k : ℕ) (items : Items) → read_from range_or k (list_of items) ≡ Err errors.NotAnArray → ⊥
unfolding read_from
items_of_array k no_items h = absurd cc
items_of_array k (item null items) h = absurd cc
items_of_array k (item (boolean b) items) h = absurd cc
items_of_array k (item (number n) items) h = absurd cc
items_of_array k (item (string t) items) h =
    array_in k (range_at (chars t)) (read_from range_or (k + 1) (list_of items)) (λ g. items_of_array (k + 1) items g) h
items_of_array k (item (array ds) items) h = absurd cc
items_of_array k (item (object ms) items) h = absurd cc

is_array : (d : Data) (r : Result (List ℕ) SetJsonError) → ends_of d ≡ r → (r ≡ Err errors.NotAnArray → ⊥)
    → (items : Items) × (d ≡ array items)
is_array null r h n = absurd (n (sym h))
is_array (boolean b) r h n = absurd (n (sym h))
is_array (number k) r h n = absurd (n (sym h))
is_array (string t) r h n = absurd (n (sym h))
is_array (array items) r h n = (items, refl)
is_array (object ms) r h n = absurd (n (sym h))

at_front : (Fault : Data → Type 0) (i : ℕ) (items : Items) → FailsFrom Fault 0 i items → FailsFirst Fault i items
at_front Fault i items (j, p, f) = let e : j ≡ i = omega arith in subst (λ n. FailsFirst Fault n items) e f

-- A rejected value does not spell a set.
pub says_none : (d : Data) (e : SetJsonError) → IsRefusedJson d e → SaysNone d e
says_none d errors.NotAnArray h = λ items e. items_of_array 0 items (fault_of_ranges errors.NotAnArray _ (ap ends_of (sym e) ∙ h))
says_none d (errors.NotAString i) h =
    let a = is_array d _ h (λ k. absurd cc) in
    (a.0, a.1, at_front NoString i a.0 (no_string_from 0 i a.0 (fault_of_ranges (errors.NotAString i) _ (ap ends_of (sym a.1) ∙ h))))
says_none d (errors.NotARange i) h =
    let a = is_array d _ h (λ k. absurd cc) in
    (a.0, a.1, at_front SpellsNoRange i a.0 (no_range_from 0 i a.0 (fault_of_ranges (errors.NotARange i) _ (ap ends_of (sym a.1) ∙ h))))
says_none d errors.InvalidSet h =
    let a = is_array d _ h.1 (λ k. absurd cc) in (a.0, h.0, a.1, ends_found a.0 h.0 (ap ends_of (sym a.1) ∙ h.1), h.2)
says_none d errors.Memory h = tt

-- If the reader of the boundaries fails, the value is rejected.
pub given_none : (d : Data) (e : SetJsonError) → GivesEnds (Err e) (ends_of d) → SaysNone d e
given_none d errors.NotAnArray h = says_none d errors.NotAnArray h
given_none d (errors.NotAString i) h = says_none d (errors.NotAString i) h
given_none d (errors.NotARange i) h = says_none d (errors.NotARange i) h
given_none d errors.InvalidSet h = absurd h
given_none d errors.Memory h = tt
