-- A table whose trie is written over narrower values.
use Rattle.std.proofs.Common.{◌≡◌, ℕ, List, Result, Ok, Err, sym}
use Rattle.std.specs.Prelude.{IfOk}
use Rattle.icu_zerovec.specs.PackedBytes.{low_bytes}
use Rattle.icu_trie_core.specs.ValueNumbers.{fitting}
use Rattle.icu_trie.specs.Parts.{Parts}
use Rattle.icu_trie_binary.specs.WrittenTrie.{binary_of}
use Rattle.ucptrie_tables.specs.Numbers.{HasNumbersOf}
use Rattle.ucptrie_tables.specs.Tables.{binary_bytes}
use Rattle.ucptrie_tables.specs.ValueWidth.{bytes_of}
use Rattle.ucptrie_tables.specs.declared.table.Table.{Table}
use Rattle.ucptrie_tables.specs.declared.width.ValueWidth.{ValueWidth}
use Rattle.ucptrie_tables.proofs.CallerLemmas.{HasNumbersOf-same}

module _ (w : ValueWidth) (a b : ℕ) where
  pub binary_bytes-narrowed : {V E Canonical : Type 0} (Room : Parts ℕ → Type 0) (items : V → List ℕ) (table : Table) → table.width ≡ w
      → (r : Result V E) → Canonical
      → IfOk r (λ v. (t : Parts ℕ) × HasNumbersOf (λ n. n) (fitting a) (λ n. n) (fitting b) table.trie t × Room t
      × (Canonical → items v ≡ binary_of (bytes_of w) (λ n. n) (low_bytes (bytes_of w)) t))
      → IfOk r (λ v. items v ≡ binary_bytes table)
  binary_bytes-narrowed Room items table width (Ok v) canonical over =
      rw (width, sym (HasNumbersOf-same a b table.trie over.0 over.1)) (over.3 canonical)
  binary_bytes-narrowed Room items table width (Err e) canonical over = tt
