-- Rows and their writes, and the stored form of the trie that a builder makes from them.
use Rattle.std.proofs.Common.{◌≡◌, ◌∙◌, refl, sym, ap, subst, ℕ, ◌^◌, ◌*◌, ◌<◌, ◌≤◌, Bool, true, false, cond, ◌&&◌, nat_le, List, [], ◌∷◌, length, map, Option, Some, None, Result, Ok, Err, arith, inl, inr, ◌⊎◌}
use Rattle.std.specs.Prelude.{nat_lt, slice_get, option_map, unwrap_or, All, IfErr, IfOk, IsSome}
use Rattle.std.specs.List.{count_by}
use Rattle.std.specs.Option.{option_or, option_and_then}
use Rattle.std.proofs.lemmas.Bool.{cases_lt}
use Rattle.std.proofs.lemmas.Bool.Decides.{nat_tests}
use Rattle.std.proofs.lemmas.List.{length-map}
use Rattle.std.proofs.lemmas.List.Sums.{count_by-le-length}
use Rattle.icu_zerovec.specs.PackedBytes.{number_of}
use Rattle.icu_trie.specs.Parts.{Parts, last_cell, trie_value}
use Rattle.icu_trie_core.specs.Contents.{contents_of}
use Rattle.icu_trie_core.specs.Format.{answer}
use Rattle.icu_trie_core.specs.ValueNumbers.{fitting, type_number}
use Rattle.icu_trie_core.specs.declared.header.CodePointTrieHeader.{CodePointTrieHeader}
use Rattle.icu_trie_core.specs.declared.header.TrieType.{TrieType}
use Rattle.icu_trie_core.specs.declared.header.TrieType.TheVariants.{Fast, Small}
use Rattle.icu_trie_binary.specs.WrittenTrie.{stored_form, why_not_written}
use Rattle.icu_trie_binary.specs.declared.error.WriteError.{WriteError}
use Rattle.icu_trie_binary.specs.declared.error.WriteError.TheVariants as write
use Rattle.icu_trie_builder.specs.declared.error.BuildError.{BuildError}
use Rattle.icu_trie_builder.specs.declared.error.BuildError.TheVariants as build
use Rattle.icu_trie_binary.proofs.CallerLemmas.{answers-stored}
use Rattle.icu_trie_builder.specs.Bounds.{IsTooLarge}
use Rattle.icu_trie_builder.specs.Built.{IsWellBuilt}
use Rattle.icu_trie_builder.specs.MapAnswers.{AnswersMap}
use Rattle.icu_trie_builder.specs.Writes.{covers as write_covers, write_first, is_accepted, write_last, last_written, value_after, write_value}
use Rattle.icu_trie_builder.specs.declared.writes.Write.{Write}
use Rattle.icu_trie_builder.proofs.CallerLemmas.{answer-of-map, error-of-map}
use Rattle.icu_collections_c.specs.Building.{AreFitting, IsBuilt, IsForm, IsTooLargeFor, IsTrieOf, IsWhyNotBuilt, covers, last_row, most_bytes, row_answer, row_value}
use Rattle.icu_collections_c.specs.BytesTrie.{value_width}
use Rattle.icu_collections_c.specs.Inside.BuiltValues.{AreWritesOf, IsBuiltOf, IsTooLargeOf, IsTrieOfNumbers, of_build, of_write, row_of}
use Rattle.icu_collections_c.specs.declared.error.Error.{Error}
use Rattle.icu_collections_c.specs.declared.error.Error.TheVariants as error_of
use Rattle.icu_collections_c.specs.declared.building.Row.{Row}

-- ---- rows and writes
covers-same : (f l c : ℕ) → (nat_le f 0x10FFFF && (nat_le f c && nat_le c l))
    ≡ ((nat_le f l && nat_le f 0x10FFFF) && (nat_le f c && nat_le c l))
covers-same f l c = grind (arith, nat_tests)

module _ {T : Type 0} (number : T → ℕ) where
  joined : (v : T) (b : Bool) (o : Option T)
      → option_or (option_map number o) (cond b (Some (number v)) None) ≡ option_map number (option_or o (cond b (Some v) None))
  joined v b (Some x) = refl
  joined v true None = refl
  joined v false None = refl

  last_row-of : (ws : List (Write T)) (c : ℕ) → last_row (map (row_of number) ws) c ≡ option_map number (last_written ws c)
  last_row-of [] c = refl
  last_row-of (w ∷ ws) c =
      ap (λ o. option_or o (cond (covers (row_of number w) c) (Some (number (write_value w))) None)) (last_row-of ws c)
      ∙ ap (λ b. option_or (option_map number (last_written ws c)) (cond b (Some (number (write_value w))) None))
      (covers-same (write_first w) (write_last w) c)
      ∙ joined (write_value w) (write_covers w c) (last_written ws c)

  unwrapped : (d : T) (default : ℕ) → number d ≡ default → (o : Option T) → unwrap_or (option_map number o) default ≡ number (unwrap_or o d)
  unwrapped d default e (Some x) = refl
  unwrapped d default e None = sym e

-- ---- the stored form
above-none : {A B : Type 0} (b : Bool) (o : Option A) (f : A → Option B) → b ≡ true → option_and_then f (cond b None o) ≡ None
above-none true o f e = refl
above-none false o f e = absurd (cc)

answer-above : {T : Type 0} (h : CodePointTrieHeader) (index : List ℕ) (values : List T) (u : ℕ) → 0x10FFFF < u
    → answer h (contents_of index values) u ≡ None
unfolding answer
answer-above h index values u l =
    let yes : nat_lt 0x10FFFF u ≡ true = grind (arith, nat_tests) in
    above-none (nat_lt 0x10FFFF u) _ (slice_get values) yes

value-stored : {T : Type 0} (width : ℕ) (number : T → ℕ) (f : ℕ → T) (e : T) (t : Parts T) → AnswersMap f e t
    → (u : ℕ) → trie_value (stored_form width number t) u ≡ Some (cond (nat_le u 0x10FFFF) (f u) e)
value-stored width number f e t of u = by (nat_le u 0x10FFFF) refl
  where
    by : (b : Bool) → nat_le u 0x10FFFF ≡ b → trie_value (stored_form width number t) u ≡ Some (cond b (f u) e)
    by true h =
        let l : u ≤ 0x10FFFF = grind (arith, nat_tests) in
        ap (λ o. option_or o (last_cell t.values)) (answers-stored width number t u (f u) (answer-of-map f e t of u l))
    by false h =
        let l : 0x10FFFF < u = grind (arith, nat_tests) in
        ap (λ o. option_or o (last_cell t.values)) (answer-above _ _ _ u l) ∙ error-of-map f e t of

-- ---- what is built from the writes, by the rows
module _ {T : Type 0} (number : T → ℕ) (rows : List Row) (ws : List (Write T)) (is : AreWritesOf number rows ws)
    (d e : T) (default error : ℕ) (d-is : number d ≡ default) (e-is : number e ≡ error) where
  row_value-of : (c : ℕ) → row_value rows default c ≡ number (value_after ws d c)
  row_value-of c =
      ap (λ rs. row_value rs default c) (sym is) ∙ ap (λ o. unwrap_or o default) (last_row-of number ws c)
      ∙ unwrapped number d default d-is (last_written ws c)

  row_answer-of : (u : ℕ) → Some (number (cond (nat_le u 0x10FFFF) (value_after ws d u) e)) ≡ Some (row_answer rows default error u)
  row_answer-of u = by (nat_le u 0x10FFFF)
    where
      by : (b : Bool) → Some (number (cond b (value_after ws d u) e)) ≡ Some (cond b (row_value rows default u) error)
      by true = ap (λ n. Some n) (sym (row_value-of u))
      by false = ap (λ n. Some n) e-is

  module _ (t : Parts T) (of : AnswersMap (value_after ws d) e t) (kind : TrieType) (k : t.header.trie_type ≡ kind) where
    pub trie-of_rows : IsTrieOfNumbers number rows default error kind t
    trie-of_rows = record { of_kind = k; answers = λ u. ap (option_map number) (of.value u) ∙ row_answer-of u }

    pub stored-of_rows : (width : ℕ) → IsTrieOfNumbers number rows default error kind (stored_form width number t)
    stored-of_rows width = record {
      of_kind = k;
      answers = λ u. ap (option_map number) (value-stored width number (value_after ws d) e t of u) ∙ row_answer-of u;
    }

  -- A trie that is well built from the writes' map is well built from the rows' map.
  pub well-of_rows : (of_number : ℕ → Option T) (t : Parts T) → IsWellBuilt of_number (λ c. number (value_after ws d c)) t
      → IsWellBuilt of_number (row_value rows default) t
  well-of_rows of_number t well =
      let same : (λ c. number (value_after ws d c)) ≡ row_value rows default = λ i c. sym (row_value-of c) i in
      subst (λ f. IsWellBuilt of_number f t) same well

  -- A map that is rejected for its size is the map of the rows, of which there are many.
  pub too_large-of_rows : IsTooLarge (λ c. number (value_after ws d c)) → (count_by (is_accepted) ws ≤ 256 → ⊥)
      → (256 < length rows) × IsTooLarge (row_value rows default)
  too_large-of_rows large many =
      let same : (λ c. number (value_after ws d c)) ≡ row_value rows default = λ i c. sym (row_value-of c) i in
      let as_many : length rows ≡ length ws = ap length (sym is) ∙ length-map ws (row_of number) in
      (by as_many (cases_lt 256 (length rows)), subst IsTooLarge same large)
    where
      by : length rows ≡ length ws → (256 < length rows) ⊎ (length rows ≤ 256) → 256 < length rows
      by m (inl h) = h
      by m (inr h) = absurd (many (omega (arith, h, m, count_by-le-length (is_accepted) ws)))

-- ---- why nothing is built
is_some-from : {A : Type 0} (o : Option A) (x : A) → o ≡ Some x → IsSome o
is_some-from (Some y) x e = refl
is_some-from None x e = absurd (cc)

pub AreFitting-from : {T : Type 0} (of_number : ℕ → Option T) (rows : List Row) (default error : ℕ) (d e : T)
    → All (λ row. IsSome (of_number row.value)) rows
    → of_number default ≡ Some d → of_number error ≡ Some e → AreFitting of_number rows default error
AreFitting-from of_number rows default error d e all d-of e-of = record {
  of_rows = all;
  of_default = is_some-from (of_number default) d d-of;
  of_error = is_some-from (of_number error) e e-of;
}

module _ {T : Type 0} (number : T → ℕ) (of_number : ℕ → Option T) (width : ℕ) (rows : List Row) (default error : ℕ) (kind : TrieType)
    (F : Type 0) (fits : F) where
  pub why-build : (x : BuildError) → (x ≡ build.TooLarge → (256 < length rows) × IsTooLarge (row_value rows default))
      → IsWhyNotBuilt (Unit {0}) F (IsTooLargeOf number of_number width rows default error kind) (of_build x)
  why-build build.TooLarge large = (tt, fits, inl (large refl))
  why-build build.Memory large = (tt, fits)

  module _ (t : Parts T) (of : IsTrieOfNumbers number rows default error kind t)
      (well : IsWellBuilt of_number (row_value rows default) t) where
    no_room : (x : WriteError) → (why_not_written width number t ≡ Some x) ⊎ ((x ≡ write.Memory) × (why_not_written width number t ≡ None))
        → (x ≡ write.Memory → ⊥) → (Unit {0}) × F × IsTooLargeOf number of_number width rows default error kind
    no_room x (inl w) other = (tt, fits, inr (t, of, well, x, w))
    no_room x (inr m) other = absurd (other m.0)

    pub why-write : (x : WriteError) → (why_not_written width number t ≡ Some x)
        ⊎ ((x ≡ write.Memory) × (why_not_written width number t ≡ None))
        → IsWhyNotBuilt (Unit {0}) F (IsTooLargeOf number of_number width rows default error kind) (of_write x)
    why-write write.UnknownWidth h = no_room write.UnknownWidth h (λ e. absurd (cc))
    why-write write.LongIndex h = no_room write.LongIndex h (λ e. absurd (cc))
    why-write write.LongData h = no_room write.LongData h (λ e. absurd (cc))
    why-write write.NullOffset h = no_room write.NullOffset h (λ e. absurd (cc))
    why-write write.HighStart h = no_room write.HighStart h (λ e. absurd (cc))
    why-write write.NullValue h = no_room write.NullValue h (λ e. absurd (cc))
    why-write write.Short h = no_room write.Short h (λ e. absurd (cc))
    why-write write.Memory h = (tt, fits)

-- ---- values that are numbers
option_map-same : (o : Option ℕ) → option_map (λ n. n) o ≡ o
option_map-same (Some x) = refl
option_map-same None = refl

type-below : (kind : TrieType) → type_number kind < 2
type-below Fast = omega arith
type-below Small = omega arith

module _ (width : ℕ) (rows : List Row) (default error : ℕ) (kind : TrieType) (n : ℕ) (n-is : n ≡ type_number kind) where
  trie-numbers : (t : Parts ℕ) → IsTrieOfNumbers (λ x. x) rows default error kind t → IsTrieOf rows default error n t
  trie-numbers t o = record {
    of_kind = ap type_number o.of_kind ∙ sym n-is;
    answers = λ u. sym (option_map-same (trie_value t u)) ∙ o.answers u;
  }

  pub form-known : value_width width ≡ width → IsForm n width
  form-known w = (rw n-is (type-below kind), w)

  built-numbers : (bytes : List ℕ) → IsBuiltOf (λ x. x)
      (λ cell. Some (number_of width cell)) width (fitting (2 ^ (8 * width))) rows default error kind bytes
      → IsBuilt rows default error n width bytes
  built-numbers bytes b = record {
    trie = b.trie;
    stored = b.stored;
    of_rows = trie-numbers b.trie b.of_rows;
    coherent = b.coherent;
    size = subst (λ x. length bytes ≤ most_bytes (length rows) x width) (sym n-is) b.size;
  }

  pub if_ok-numbers : {V : Type 0} (items : V → List ℕ) (r : Result V Error)
      → IfOk r (λ v. IsBuiltOf (λ x. x) (λ cell. Some (number_of width cell)) width (fitting (2 ^ (8 * width))) rows default error kind
      (items v))
      → IfOk r (λ v. IsBuilt rows default error n width (items v))
  if_ok-numbers items (Ok v) h = built-numbers (items v) h
  if_ok-numbers items (Err e) h = tt

  why-numbers : (F : Type 0) → value_width width ≡ width → (e : Error)
      → IsWhyNotBuilt (Unit {0}) F (IsTooLargeOf (λ x. x) (fitting (2 ^ (8 * width))) width rows default error kind) e
      → IsWhyNotBuilt (IsForm n width) F (IsTooLargeFor rows default error n width) e
  why-numbers F w error_of.InvalidFormat h = absurd (h tt)
  why-numbers F w error_of.WideValue h = (form-known w, h.1)
  why-numbers F w error_of.TooLarge h = (form-known w, h.1, by h.2)
    where
      by : IsTooLargeOf (λ x. x) (fitting (2 ^ (8 * width))) width rows default error kind → IsTooLargeFor rows default error n width
      by (inl l) = inl l
      by (inr l) = inr (l.0, trie-numbers l.0 l.1, l.2, l.3, l.4)
  why-numbers F w error_of.NoMemory h = (form-known w, h.1)
  why-numbers F w error_of.InvalidTrie h = absurd h
  why-numbers F w error_of.InvalidUtf8 h = absurd h
  why-numbers F w error_of.NoKey h = absurd h
  why-numbers F w error_of.InvalidEntries h = absurd h
  why-numbers F w error_of.LongKey h = absurd h
  why-numbers F w error_of.SameKey h = absurd h
  why-numbers F w error_of.InvalidSet h = absurd h

  pub if_err-numbers : {V : Type 0} (F : Type 0) → value_width width ≡ width → (r : Result V Error)
      → IfErr r (IsWhyNotBuilt (Unit {0}) F (IsTooLargeOf (λ x. x) (fitting (2 ^ (8 * width))) width rows default error kind))
      → IfErr r (IsWhyNotBuilt (IsForm n width) F (IsTooLargeFor rows default error n width))
  if_err-numbers F w (Ok v) h = tt
  if_err-numbers F w (Err e) h = why-numbers F w e h
