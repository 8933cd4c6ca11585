-- The bytes of a written index are its cells and the one after it.
use Rattle.std.proofs.Common.{◌≡◌, ℕ, ◌*◌, ◌/◌, ◌%◌, List, [], ◌∷◌, ◌++◌, length, Option, Some, refl, arith, sym, ◌∙◌, ap, lit<}
use Rattle.std.specs.Prelude.{Bool, true, false, nat_eq, ◌&&◌, if◌then◌else◌}
use Rattle.std.specs.List.{flat_map}
use Rattle.std.proofs.lemmas.Grind.{flat_map-append}
use Rattle.std.proofs.lemmas.List.{length-append}
use Rattle.std.proofs.lemmas.Nat.{div-add-mod'}
use Rattle.icu_zerovec.specs.Cells.{values_of, IsPacked}
use Rattle.icu_zerovec.specs.PackedBytes.{low_bytes, number_of}
use Rattle.icu_zerovec.proofs.CallerLemmas.{length-values_of}
use Rattle.icu_trie_binary.specs.WrittenTrie.{padding, stored_index}
use Rattle.icu_trie_binary.proofs.CellsAppended.{values_of-append}

-- Packed bytes are w for each value.
pub length-packed : {T : Type 0} (f : List ℕ → Option T) (w : ℕ) (b : List ℕ) (xs : List T) → IsPacked f w b → xs ≡ values_of f w b
    → length b ≡ length xs * w
length-packed f w b xs p e =
    let n : length xs ≡ length b / w = ap length e ∙ length-values_of f w b p in
    omega (arith, div-add-mod' (length b) w, p.whole, ap (λ k. k * w) n)

-- The bytes of one cell, or of none, are read back.
padding-values : (b : Bool) → values_of (λ c. Some (number_of 2 c)) 2 (flat_map (low_bytes 2) (if b then 0xffee ∷ [] else []))
    ≡ (if b then 0xffee ∷ [] else [])
unfolding values_of
padding-values true = refl
padding-values false = refl

padding-length : (b : Bool) → length (flat_map (low_bytes 2) (if b then 0xffee ∷ [] else []))
    ≡ length {A = ℕ} (if b then 0xffee ∷ [] else []) * 2
padding-length true = refl
padding-length false = refl

module _ (width : ℕ) (index bytes : List ℕ) (packed : IsPacked (λ c. Some (number_of 2 c)) 2 bytes)
    (gives : index ≡ values_of (λ c. Some (number_of 2 c)) 2 bytes) where
  pub values_of-stored_index : values_of (λ c. Some (number_of 2 c)) 2 (bytes ++ flat_map (low_bytes 2) (padding width (length index)))
      ≡ stored_index width index
  values_of-stored_index =
      let behind = padding-values (nat_eq width 4 && nat_eq (length index % 2) 1) in
      values_of-append (λ c. Some (number_of 2 c)) 2 (lit< tt) bytes _ (length index) (length (padding width (length index)))
      (length-packed _ 2 bytes index packed gives) (padding-length (nat_eq width 4 && nat_eq (length index % 2) 1))
      ∙ rw (sym gives, behind) refl

  pub length-stored_index : length (bytes ++ flat_map (low_bytes 2) (padding width (length index))) ≡ 2 * length (stored_index width index)
  length-stored_index =
      omega (
        arith,
        length-append bytes (flat_map (low_bytes 2) (padding width (length index))),
        length-packed _ 2 bytes index packed gives,
        padding-length (nat_eq width 4 && nat_eq (length index % 2) 1),
        length-append index (padding width (length index)),
      )

  pub flat_map-stored_index : bytes ≡ flat_map (low_bytes 2) index
      → bytes ++ flat_map (low_bytes 2) (padding width (length index)) ≡ flat_map (low_bytes 2) (stored_index width index)
  flat_map-stored_index e = ap (λ b. b ++ flat_map (low_bytes 2) (padding width (length index))) e
      ∙ sym (flat_map-append (low_bytes 2) index (padding width (length index)))
