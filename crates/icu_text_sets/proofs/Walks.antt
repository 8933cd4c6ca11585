-- Finding the first fault of a list of texts, from its start.
use Rattle.std.proofs.Common.{◌≡◌, ℕ, zero, suc, ◌+◌, ◌<◌, ◌≤◌, List, [], ◌∷◌, Option, Some, None, refl, sym, ap, ◌∙◌, arith, length, get_or, drop, drop-cons, add-one, Bor, String, Global, string_bytes, option_map}
use Rattle.std.specs.Slice.{IsItemAt}
use Rattle.std.proofs.lemmas.List.{drop_all}
use Rattle.std.proofs.lemmas.Option.{same_Some}
use Rattle.std.specs.declared.cmp.Ordering.{Ordering}
use Rattle.std.specs.declared.cmp.Ordering.TheVariants.{Less, Equal, Greater}
use Rattle.icu_text_sets.specs.TextSet.{only_char, text_cmp, texts_of, IsStringList}
use Rattle.icu_text_sets.specs.TextFaults.{TextFault, one_code_point, repeated, unsorted, fault_of_one, fault_of_two, strings_fault}
use Rattle.icu_text_sets.specs.Inside.StringFaults.{fault_at, fault_length, next_kind, kind_as, kind_of}
use Rattle.icu_text_sets.specs.declared.codepointinvliststringlist.make.Fault.{Fault}
use Rattle.icu_text_sets.specs.declared.codepointinvliststringlist.make.Fault.TheVariants.{OneCodePoint, Repeated, Unsorted}

-- ---- a text and those after it
abbrev first_text : List (String Global) → Option (List ℕ)
first_text [] = None
first_text (s ∷ strings) = Some (string_bytes s)

abbrev text_or_empty : List (String Global) → List ℕ
text_or_empty [] = []
text_or_empty (s ∷ strings) = string_bytes s

abbrev shown : List ℕ → List ℕ → Fault → TextFault
shown t u OneCodePoint = one_code_point t
shown t u Repeated = repeated t
shown t u Unsorted = unsorted t u

-- No fault.
neighbours_on : (t u : List ℕ) (o : Ordering) (later : Option TextFault) → next_kind o ≡ None → fault_of_two t u o later ≡ later
neighbours_on t u Less later h = refl
neighbours_on t u Equal later h = absurd cc
neighbours_on t u Greater later h = absurd cc

alone_on : (t : List ℕ) (o : Option ℕ) → kind_as t None o ≡ None → fault_of_one t o None ≡ None
alone_on t None h = refl
alone_on t (Some c) h = absurd cc

before_on : (t u : List ℕ) (o : Option ℕ) (later : Option TextFault) → kind_as t (Some u) o ≡ None
    → fault_of_one t o (fault_of_two t u (text_cmp t u) later) ≡ later
before_on t u None later h = neighbours_on t u (text_cmp t u) later h
before_on t u (Some c) later h = absurd cc

on : (t : List ℕ) (rest : List (String Global)) → kind_of t (first_text rest) ≡ None
    → strings_fault (t ∷ texts_of rest) ≡ strings_fault (texts_of rest)
unfolding strings_fault
on t [] h = alone_on t (only_char t) h
on t (s ∷ rest) h = before_on t (string_bytes s) (only_char t) (strings_fault (texts_of (s ∷ rest))) h

-- A fault.
neighbours_at : (t u : List ℕ) (o : Ordering) (later : Option TextFault) (f : Fault) → next_kind o ≡ Some f
    → (fault_of_two t u o later ≡ Some (shown t u f)) × (fault_length f ≤ 2)
neighbours_at t u Less later f h = absurd cc
neighbours_at t u Equal later f h = let e = same_Some Repeated f h in rw (← e) (refl, omega arith)
neighbours_at t u Greater later f h = let e = same_Some Unsorted f h in rw (← e) (refl, omega arith)

alone_at : (t : List ℕ) (o : Option ℕ) (f : Fault) → kind_as t None o ≡ Some f → (fault_of_one t o None ≡ Some (shown t [] f))
    × (fault_length f ≤ 1)
alone_at t None f h = absurd cc
alone_at t (Some c) f h = let e = same_Some OneCodePoint f h in rw (← e) (refl, omega arith)

before_at : (t u : List ℕ) (o : Option ℕ) (later : Option TextFault) (f : Fault) → kind_as t (Some u) o ≡ Some f
    → (fault_of_one t o (fault_of_two t u (text_cmp t u) later) ≡ Some (shown t u f)) × (fault_length f ≤ 2)
before_at t u None later f h = neighbours_at t u (text_cmp t u) later f h
before_at t u (Some c) later f h = let e = same_Some OneCodePoint f h in rw (← e) (refl, omega arith)

stop : (t : List ℕ) (rest : List (String Global)) (f : Fault) → kind_of t (first_text rest) ≡ Some f
    → (strings_fault (t ∷ texts_of rest) ≡ Some (shown t (text_or_empty rest) f)) × (fault_length f ≤ suc (length rest))
unfolding strings_fault
stop t [] f h = alone_at t (only_char t) f h
stop t (s ∷ rest) f h = let p = before_at t (string_bytes s) (only_char t) (strings_fault (texts_of (s ∷ rest))) f h in
    (p.0, omega (arith, p.1))

-- ---- an index of the list
here : (strings : List (String Global)) (i : ℕ) (x : String Global) → i < length strings → x ≡ get_or strings i x
    → drop i strings ≡ x ∷ drop (suc i) strings
here strings i x h e = rw (drop-cons strings i x h, ← e) refl

next_text : (strings : List (String Global)) (i : ℕ) (r : Option (Bor (String Global))) → IsItemAt strings i r
    → option_map (λ s. string_bytes s.now) r ≡ first_text (drop i strings)
next_text strings i None p = rw (drop_all i strings p.3) refl
next_text strings i (Some x) p = rw (here strings i x.now p.3.0 p.1) refl

text_at : (strings : List (String Global)) (k : ℕ) → text_or_empty (drop k strings) ≡ get_or (texts_of strings) k []
text_at [] zero = refl
text_at [] (suc k) = refl
text_at (s ∷ strings) zero = refl
text_at (s ∷ strings) (suc k) = text_at strings k

shown_at : (texts : List (List ℕ)) (i : ℕ) (f : Fault) → shown (get_or texts i []) (get_or texts (i + 1) []) f ≡ fault_at texts i f
shown_at texts i OneCodePoint = refl
shown_at texts i Repeated = refl
shown_at texts i Unsorted = refl

-- The kind of fault at index i, from what `get` returns for the next index.
pub kind_here : (strings : List (String Global)) (i : ℕ) (x : String Global) (next : Option (Bor (String Global))) (r : Option Fault)
    → IsItemAt strings (i + 1) next
    → r ≡ kind_of (string_bytes x) (option_map (λ s. string_bytes s.now) next)
    → kind_of (string_bytes x) (first_text (drop (suc i) strings)) ≡ r
kind_here strings i x next r p e =
    let q : option_map (λ s. string_bytes s.now) next ≡ first_text (drop (suc i) strings) =
    next_text strings (suc i) next (rw add-one at p) in
    sym (e ∙ ap (kind_of (string_bytes x)) q)

pub goes_on : (strings : List (String Global)) (i : ℕ) (x : String Global) (next : Option (Bor (String Global))) (whole : Option TextFault)
    → i < length strings → x ≡ get_or strings i x
    → IsItemAt strings (i + 1) next → None ≡ kind_of (string_bytes x) (option_map (λ s. string_bytes s.now) next)
    → strings_fault (texts_of (drop i strings)) ≡ whole → strings_fault (texts_of (drop (i + 1) strings)) ≡ whole
goes_on strings i x next whole h e p k w =
    rw add-one (sym (on (string_bytes x) (drop (suc i) strings) (kind_here strings i x next None p k))
    ∙ sym (ap (λ z. strings_fault (texts_of z)) (here strings i x h e)) ∙ w)

pub stops : (strings : List (String Global)) (i : ℕ) (x : String Global) (next : Option (Bor (String Global))) (whole : Option TextFault)
    (f : Fault) → i < length strings → x ≡ get_or strings i x
    → IsItemAt strings (i + 1) next → Some f ≡ kind_of (string_bytes x) (option_map (λ s. string_bytes s.now) next)
    → strings_fault (texts_of (drop i strings)) ≡ whole → whole ≡ Some (fault_at (texts_of strings) i f)
stops strings i x next whole f h e p k w =
    let first : string_bytes x ≡ get_or (texts_of strings) i [] = sym (ap text_or_empty (here strings i x h e)) ∙ text_at strings i in
    let second : text_or_empty (drop (suc i) strings) ≡ get_or (texts_of strings) (i + 1) [] =
    text_at strings (suc i) ∙ ap (λ k. get_or (texts_of strings) k []) (sym (add-one i)) in
    let found = (stop (string_bytes x) (drop (suc i) strings) f (kind_here strings i x next (Some f) p k)).0 in
    sym w ∙ ap (λ z. strings_fault (texts_of z)) (here strings i x h e) ∙ found
    ∙ ap (λ z. Some z) (ap (λ t. shown t (text_or_empty (drop (suc i) strings)) f) first
    ∙ ap (λ u. shown (get_or (texts_of strings) i []) u f) second ∙ shown_at (texts_of strings) i f)

pub at_end : (strings : List (String Global)) (i : ℕ) (whole : Option TextFault) → length strings ≤ i
    → strings_fault (texts_of (drop i strings)) ≡ whole → whole ≡ None
unfolding strings_fault
at_end strings i whole h w = sym w ∙ ap (λ z. strings_fault (texts_of z)) (drop_all i strings h)

-- ---- a list without a fault is a list of a set's strings
only_none : (t : List ℕ) (o : Option ℕ) (later : Option TextFault) → fault_of_one t o later ≡ None → (o ≡ None) × (later ≡ None)
only_none t None later h = (refl, h)
only_none t (Some c) later h = absurd cc

less_none : (t u : List ℕ) (o : Ordering) (later : Option TextFault) → fault_of_two t u o later ≡ None → (o ≡ Less) × (later ≡ None)
less_none t u Less later h = (refl, h)
less_none t u Equal later h = absurd cc
less_none t u Greater later h = absurd cc

pub faultless : (ts : List (List ℕ)) → strings_fault ts ≡ None → IsStringList ts
unfolding strings_fault
faultless [] h = tt
faultless (t ∷ []) h = (only_none t (only_char t) None h).0
faultless (t ∷ u ∷ ts) h =
    let p = only_none t (only_char t) (fault_of_two t u (text_cmp t u) (strings_fault (u ∷ ts))) h in
    let q = less_none t u (text_cmp t u) (strings_fault (u ∷ ts)) p.1 in
    (p.0, q.0, faultless (u ∷ ts) q.1)

-- A list of a set's strings has no fault.
pub no_fault : (ts : List (List ℕ)) → IsStringList ts → strings_fault ts ≡ None
unfolding strings_fault
no_fault [] s = refl
no_fault (t ∷ []) s = rw s refl
no_fault (t ∷ u ∷ ts) s = rw (s.0, s.1) (no_fault (u ∷ ts) s.2)
