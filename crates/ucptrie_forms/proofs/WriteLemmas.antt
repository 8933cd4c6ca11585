-- Why a table is not written over narrower values, and that one that is has room.
use Rattle.std.proofs.Common.{◌≡◌, ℕ, ◌^◌, ◌-◌, ◌++◌, true, false, not, Bool, cond, nat_lt, List, [], ◌∷◌, map, length, is_none, slice_get, Option, Some, None, option_map, zero, suc, Result, Ok, Err, refl, sym, ◌∙◌, arith}
use Rattle.std.specs.Prelude.{IfErr, IfOk, OnOk}
use Rattle.std.specs.List.{find}
use Rattle.std.specs.Option.{option_to_list}
use Rattle.std.proofs.lemmas.Bool.Decides.{nat_tests}
use Rattle.icu_trie_core.specs.ValueNumbers.{fitting}
use Rattle.icu_trie.specs.Parts.{Parts, last_cell}
use Rattle.icu_trie_binary.specs.WrittenTrie.{why_not_written}
use Rattle.ucptab_table.specs.declared.error.TableError.TheVariants.{Row, TooLarge, Memory, Read, Write}
use Rattle.ucptrie_tables.specs.Numbers.{HasNumbersOf, IsWhyNotNarrowed}
use Rattle.ucptrie_tables.specs.Tables.{HasBinaryForm, IsWhyNotWritten, first_unfit, values_in_turn}
use Rattle.ucptrie_tables.specs.ValueWidth.{bytes_of}
use Rattle.ucptrie_tables.specs.declared.error.TableBuildError.{TableBuildError}
use Rattle.ucptrie_tables.specs.declared.error.TableBuildError.TheVariants.{Table as TableFailed, Width, Binary}
use Rattle.ucptrie_tables.specs.declared.table.Table.{Table}
use Rattle.ucptrie_tables.specs.declared.width.ValueWidth.{ValueWidth}
use Rattle.ucptrie_tables.specs.declared.form.Form.TheVariants.{Icu}
use Rattle.ucptrie_tables.proofs.CallerLemmas.{HasNumbersOf-same, fitted}

-- a value without a number of a type is one that is not below its limit
is_wider : (limit v : ℕ) → is_none (fitting limit v) ≡ not (nat_lt v limit)
is_wider limit v = grind (arith, nat_tests)

kept_or : (b : Bool) (v : ℕ) (o p : Option ℕ) → option_map (λ n. n) o ≡ p → option_map (λ n. n) (cond b (Some v) o) ≡ cond b (Some v) p
kept_or true v o p e = refl
kept_or false v o p e = e

first-wider : (limit : ℕ) (vs : List ℕ)
    → option_map (λ n. n) (find (λ v. is_none (fitting limit v)) vs) ≡ find (λ v. not (nat_lt v limit)) vs
first-wider limit [] = refl
first-wider limit (v ∷ vs) = rw (is_wider limit v) (kept_or (not (nat_lt v limit)) v _ _ (first-wider limit vs))

-- values that have numbers of the type are below its limit
below : (limit v w : ℕ) → fitting limit v ≡ Some w → not (nat_lt v limit) ≡ false
below limit v w e = grind (arith, nat_tests, e)

none-wider : (limit : ℕ) (vs ws : List ℕ) → map Some ws ≡ map (fitting limit) vs → find (λ v. not (nat_lt v limit)) vs ≡ None
none-wider limit [] ws e = refl
none-wider limit (v ∷ vs) [] e = absurd (cc)
none-wider limit (v ∷ vs) (w ∷ ws) e =
    let here : fitting limit v ≡ Some w = cc in
    let rest : map Some ws ≡ map (fitting limit) vs = cc in
    rw (below limit v w here) (none-wider limit vs ws rest)

one-below : (limit : ℕ) (vs ws : List ℕ) (i : ℕ) (x : ℕ) → map Some ws ≡ map (fitting limit) vs → slice_get vs i ≡ Some x
    → not (nat_lt x limit) ≡ false
one-below limit [] ws i x e found = absurd (cc)
one-below limit (v ∷ vs) [] i x e found = absurd (cc)
one-below limit (v ∷ vs) (w ∷ ws) zero x e found =
    let here : fitting limit v ≡ Some w = cc in
    let same : v ≡ x = cc in
    rw (sym same) (below limit v w here)
one-below limit (v ∷ vs) (w ∷ ws) (suc i) x e found =
    let rest : map Some ws ≡ map (fitting limit) vs = cc in
    one-below limit vs ws i x rest found

-- an option of a value below the limit before others
option-below : (limit : ℕ) (o : Option ℕ) (vs : List ℕ) → ((x : ℕ) → o ≡ Some x → not (nat_lt x limit) ≡ false)
    → find (λ v. not (nat_lt v limit)) vs ≡ None → find (λ v. not (nat_lt v limit)) (option_to_list o ++ vs) ≡ None
option-below limit None vs small rest = rest
option-below limit (Some x) vs small rest = rw (small x refl) rest

module _ (w : ValueWidth) (limit : ℕ) (unfit : (p : Parts ℕ) → first_unfit w p ≡ find (λ v. not (nat_lt v limit)) (values_in_turn p)) where
  pub unfit-none : (p t : Parts ℕ) → HasNumbersOf (λ n. n) (fitting (2 ^ 32)) (λ n. n) (fitting limit) p t → first_unfit w p ≡ None
  unfit-none p t h =
      let old : h.old_null ≡ p.header.null_value = fitted (2 ^ 32) p.header.null_value h.old_null h.old_null_is in
      let null : not (nat_lt p.header.null_value limit) ≡ false = rw (sym old) (below limit h.old_null h.null h.null_is) in
      let cells = none-wider limit p.values t.values h.values in
      let rest : find (λ v. not (nat_lt v limit)) (p.header.null_value ∷ p.values) ≡ None = rw null cells in
      rw (unfit p) (option-below limit (last_cell p.values) (p.header.null_value ∷ p.values)
      (λ x is. one-below limit p.values t.values (length p.values - 1) x h.values is) rest)

  pub HasBinaryForm-narrowed : (t : Table) (n : Parts ℕ) → t.width ≡ w
      → HasNumbersOf (λ n. n) (fitting (2 ^ 32)) (λ n. n) (fitting limit) t.trie n
      → why_not_written (bytes_of w) (λ n. n) n ≡ None → HasBinaryForm t
  HasBinaryForm-narrowed t n width h room = record {
    fits = rw width (unfit-none t.trie n h);
    room = rw (width, sym (HasNumbersOf-same (2 ^ 32) limit t.trie n h)) room;
  }

  pub IsWhyNotWritten-narrowed : (t : Table) (e : TableBuildError) → t.width ≡ w
      → IsWhyNotNarrowed (bytes_of w) (λ n. n) (fitting limit) t e → IsWhyNotWritten Icu t e
  IsWhyNotWritten-narrowed t (TableFailed Memory) width why = tt
  IsWhyNotWritten-narrowed t (TableFailed (Row k f)) width why = absurd why
  IsWhyNotWritten-narrowed t (TableFailed TooLarge) width why = absurd why
  IsWhyNotWritten-narrowed t (TableFailed Read) width why = absurd why
  IsWhyNotWritten-narrowed t (TableFailed Write) width why = absurd why
  IsWhyNotWritten-narrowed t (Width value given) width why =
      let h = why.1 in
      let null : h.null ≡ t.trie.header.null_value = fitted (2 ^ 32) t.trie.header.null_value h.null h.null_is in
      let first = sym (first-wider limit (h.error ∷ h.null ∷ t.trie.values)) ∙ h.first in
      (refl, why.0, rw (width, unfit t.trie, h.error_is, sym null) first)
  IsWhyNotWritten-narrowed t (Binary reason) width (n, (h, full)) =
      (refl, rw width (unfit-none t.trie n h), rw (width, sym (HasNumbersOf-same (2 ^ 32) limit t.trie n h)) full)

  pub HasBinaryForm-narrowed-ok : {V E : Type 0} (Bytes : V → Parts ℕ → Type 0) (t : Table) → t.width ≡ w → (r : Result V E)
      → IfOk r (λ v. (n : Parts ℕ) × HasNumbersOf (λ n. n) (fitting (2 ^ 32)) (λ n. n) (fitting limit) t.trie n
      × (why_not_written (bytes_of w) (λ n. n) n ≡ None) × Bytes v n)
      → OnOk r (HasBinaryForm t)
  HasBinaryForm-narrowed-ok Bytes t width (Ok v) over = HasBinaryForm-narrowed t over.0 width over.1 over.2
  HasBinaryForm-narrowed-ok Bytes t width (Err e) over = tt

  pub IsWhyNotWritten-narrowed-err : {V : Type 0} (t : Table) → t.width ≡ w → (r : Result V TableBuildError)
      → IfErr r (IsWhyNotNarrowed (bytes_of w) (λ n. n) (fitting limit) t) → IfErr r (IsWhyNotWritten Icu t)
  IsWhyNotWritten-narrowed-err t width (Ok v) why = tt
  IsWhyNotWritten-narrowed-err t width (Err e) why = IsWhyNotWritten-narrowed t e width why
