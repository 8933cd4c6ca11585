-- A name is found in the group of its hash.
use Rattle.std.proofs.Common.{◌≡◌, ℕ, zero, suc, Bool, true, false, cond, List, [], ◌∷◌, ◌++◌, ◌+◌, ◌<◌, ◌≤◌, drop, get_or, length, map, slice_get, refl, sym, ap, ◌∙◌, eq-eqb}
use Rattle.std.proofs.lemmas.Bool.{and_parts}
use Rattle.std.proofs.lemmas.Slice.Eq.{bytes_eq-Decides}
use Rattle.std.proofs.lemmas.List.{drop_all, drop_more, map-append}
use Rattle.std.proofs.lemmas.List.Elements.{filter-append}
use Rattle.std.specs.List.{filter, filter_map, find}
use Rattle.std.specs.Option.{option_map}
use Rattle.std.specs.Prelude.{None, Some, ◌==◌, if◌then◌else◌, fold}
use Rattle.ucd_files.specs.Inside.Groups.{mixed, name_hash, with_hash}
use Rattle.ucd_files.specs.Names.{is_alike, is_match, is_same_name, loose, number_named}
use Rattle.ucd_files.specs.declared.names.Matching.{Matching}
use Rattle.ucd_files.specs.declared.names.Matching.TheVariants.{Exact, Loose}
use Rattle.ucd_files.specs.declared.names.Name.{Name}

-- Names that match have the same hash.
same_hash : (matching : Matching) (left right : List ℕ) → is_match matching left right ≡ true → name_hash left ≡ name_hash right
unfolding is_match is_same_name is_alike name_hash
same_hash Exact left right same = ap (λ bytes. fold mixed 0 (loose bytes)) ((bytes_eq-Decides left right).0 same)
same_hash Loose left right same =
    let alike : loose left ≡ loose right = (bytes_eq-Decides (loose left) (loose right)).0 (and_parts _ _ same).1 in
    ap (λ bytes. fold mixed 0 bytes) alike

-- A filter that keeps what a test finds does not change what it finds first.
find-filter : {X : Type 0} (test kept : X → Bool) (keeps : (x : X) → test x ≡ true → kept x ≡ true) (xs : List X)
    → find test (filter kept xs) ≡ find test xs
find-filter test kept keeps [] = refl
find-filter test kept keeps (x ∷ xs) = by_tests (kept x) (test x) refl refl (find-filter test kept keeps xs) where
  by_tests : (k t : Bool) → kept x ≡ k → test x ≡ t → find test (filter kept xs) ≡ find test xs
      → find test (filter kept (x ∷ xs)) ≡ find test (x ∷ xs)
  by_tests true t is_kept is more = rw is_kept (ap (λ rest. cond (test x) (Some x) rest) more)
  by_tests false true is_kept is more = cc (keeps x is)
  by_tests false false is_kept is more = rw (is_kept, is) more

-- ---- Names at indices

at_index : (names more : List Name) (i : ℕ) (name : Name) → slice_get names i ≡ Some name → slice_get (names ++ more) i ≡ Some name
at_index [] more i name is = cc
at_index (first ∷ names) more zero name is = is
at_index (first ∷ names) more (suc i) name is = at_index names more i name is

at_end : (names : List Name) (name : Name) → slice_get (names ++ name ∷ []) (length names) ≡ Some name
at_end [] name = refl
at_end (first ∷ names) name = at_end names name

-- the names at indices, and these before more
at_indices : (names more found : List Name) (indices : List ℕ) → map (slice_get names) indices ≡ map Some found
    → map (slice_get (names ++ more)) indices ≡ map Some found
at_indices names more [] [] is = refl
at_indices names more (name ∷ found) [] is = cc
at_indices names more [] (i ∷ indices) is = cc
at_indices names more (name ∷ found) (i ∷ indices) is =
    let first : slice_get names i ≡ Some name = cc in
    let others : map (slice_get names) indices ≡ map Some found = cc in
    rw (at_index names more i name first, at_indices names more found indices others) refl

-- the names at indices, as they are found
among : (names found : List Name) (indices : List ℕ) → map (slice_get names) indices ≡ map Some found
    → filter_map (slice_get names) indices ≡ found
among names [] [] is = refl
among names (name ∷ found) [] is = cc
among names [] (i ∷ indices) is = cc
among names (name ∷ found) (i ∷ indices) is =
    let first : slice_get names i ≡ Some name = cc in
    let others : map (slice_get names) indices ≡ map Some found = cc in
    rw (first, among names found indices others) refl

-- one more name, and its index in its group
pub group-more : (names : List Name) (name : Name) (hash : ℕ) (old new : List ℕ)
    → new ≡ old ++ (if name_hash name.text.now == hash then length names ∷ [] else [])
    → map (slice_get names) old ≡ map Some (with_hash hash names)
    → map (slice_get (names ++ name ∷ [])) new ≡ map Some (with_hash hash (names ++ name ∷ []))
group-more names name hash old new is held =
    let before = at_indices names (name ∷ []) (with_hash hash names) old held in
    rw (is, map-append, filter-append, map-append, before) (ap (λ x. map Some (with_hash hash names) ++ x)
    (one (name_hash name.text.now == hash))) where
      one : (b : Bool) → map (slice_get (names ++ name ∷ [])) (if b then length names ∷ [] else []) ≡ map Some (cond b (name ∷ []) [])
      one true = ap (λ x. x ∷ []) (at_end names name)
      one false = refl

-- ---- Look-ups

module _ (matching : Matching) (names : List Name) (indices text : List ℕ) (i : ℕ) (below : i < length indices) where
  -- the name at the next index is the same
  pub same_at : (name : Name) → slice_get names (get_or indices i 0) ≡ Some name → is_match matching name.text.now text ≡ true
      → number_named matching (filter_map (slice_get names) (drop i indices)) text ≡ Some name.number
  unfolding number_named
  same_at name at same = rw (drop_more indices i 0 below, at, same) refl

  -- the name at the next index is another one
  pub other_at : (name : Name) → slice_get names (get_or indices i 0) ≡ Some name → is_match matching name.text.now text ≡ false
      → number_named matching (filter_map (slice_get names) (drop (i + 1) indices)) text
      ≡ number_named matching (filter_map (slice_get names) (drop i indices)) text
  unfolding number_named
  other_at name at other = rw (drop_more indices i 0 below, at, other) refl

  -- the next index has no name
  pub none_at : slice_get names (get_or indices i 0) ≡ None
      → number_named matching (filter_map (slice_get names) (drop (i + 1) indices)) text
      ≡ number_named matching (filter_map (slice_get names) (drop i indices)) text
  unfolding number_named
  none_at at = rw (drop_more indices i 0 below, at) refl

pub none_left : (matching : Matching) (names : List Name) (indices text : List ℕ) (i : ℕ) → length indices ≤ i
    → number_named matching (filter_map (slice_get names) (drop i indices)) text ≡ None
unfolding number_named
none_left matching names indices text i over = rw (drop_all i indices over) refl

pub number_in_group : (matching : Matching) (names : List Name) (indices : List ℕ) (text : List ℕ) (hash : ℕ)
    → map (slice_get names) indices ≡ map Some (with_hash hash names) → hash ≡ name_hash text
    → number_named matching (filter_map (slice_get names) indices) text ≡ number_named matching names text
unfolding number_named
number_in_group matching names indices text hash is is_hash = rw (among names (with_hash hash names) indices is)
    (ap (λ name. option_map (λ n. n.number) name)
    (find-filter (λ name. is_match matching name.text.now text) (λ name. name_hash name.text.now == hash)
    (λ name same. eq-eqb _ _ (same_hash matching name.text.now text same ∙ sym is_hash)) names))

pub none_in_group : (matching : Matching) (names : List Name) (text : List ℕ) (hash : ℕ)
    → [] ≡ map Some (with_hash hash names) → hash ≡ name_hash text
    → number_named matching names text ≡ None
unfolding number_named
none_in_group matching names text hash is is_hash = sym (number_in_group matching names [] text hash is is_hash)
