-- A table whose trie was read over narrower values.
use Rattle.std.proofs.Common.{◌≡◌, ℕ, ◌<◌, List, None, Result, Ok, Err, arith}
use Rattle.std.specs.Prelude.{IfOk}
use Rattle.std.proofs.lemmas.Bool.Decides.{nat_tests}
use Rattle.icu_trie_core.specs.ValueNumbers.{fitting}
use Rattle.icu_trie.specs.Parts.{Parts}
use Rattle.icu_trie_binary.specs.BinaryTrie.{IsUnsignedStored}
use Rattle.icu_trie_binary.specs.SwappedTrie.{in_other_order}
use Rattle.ucptrie_readers.specs.Files.{IsBinaryOf, IsSwappedOf}
use Rattle.ucptrie_tables.specs.Numbers.{HasNumbersOf}
use Rattle.ucptrie_tables.specs.ValueWidth.{bytes_of}
use Rattle.ucptrie_tables.specs.declared.table.Table.{Table}
use Rattle.ucptrie_tables.specs.declared.width.ValueWidth.{ValueWidth}
use Rattle.ucptrie_tables.proofs.CallerLemmas.{HasNumbersOf-same}

-- a number below the limit has a value
pub always_fits : (limit n : ℕ) → n < limit → fitting limit n ≡ None → ⊥
always_fits limit n lt none = grind (arith, nat_tests, lt, none)

module _ (w : ValueWidth) (a b : ℕ) where
  pub IsBinaryOf-widened : {E : Type 0} (file : List ℕ) (trie : Parts ℕ) (len : ℕ) → IsUnsignedStored (bytes_of w) file trie len
      → (r : Result Table E)
      → IfOk r (λ t. HasNumbersOf (λ n. n) (fitting a) (λ n. n) (fitting b) trie t.trie) → IfOk r (λ t. t.width ≡ w)
      → IfOk r (IsBinaryOf file)
  IsBinaryOf-widened file trie len stored (Ok t) numbers width = (len, rw (width, HasNumbersOf-same a b trie t.trie numbers) stored)
  IsBinaryOf-widened file trie len stored (Err e) numbers width = tt

  pub IsSwappedOf-widened : {E : Type 0} (file : List ℕ) (trie : Parts ℕ) (len : ℕ)
      → IsUnsignedStored (bytes_of w) (in_other_order (bytes_of w) file) trie len → (r : Result Table E)
      → IfOk r (λ t. HasNumbersOf (λ n. n) (fitting a) (λ n. n) (fitting b) trie t.trie) → IfOk r (λ t. t.width ≡ w)
      → IfOk r (IsSwappedOf file)
  IsSwappedOf-widened file trie len stored (Ok t) numbers width = (len, rw (width, HasNumbersOf-same a b trie t.trie numbers) stored)
  IsSwappedOf-widened file trie len stored (Err e) numbers width = tt
