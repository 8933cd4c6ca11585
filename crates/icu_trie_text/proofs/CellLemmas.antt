-- The first cells of an index, and the first bytes of values that take one byte each.
use Rattle.std.proofs.Common.{◌≡◌, ◌∙◌, sym, ap, subst, ℕ, zero, suc, ◌*◌, ◌/◌, ◌<◌, ◌≤◌, Bor, List, [], ◌∷◌, length, get_or, slice_get, take, drop, Option, Some, None, refl, arith}
use Rattle.std.proofs.Math.Nat.{suc-mul, zero-mul}
use Rattle.std.proofs.Math.Seq.{drop-cons}
use Rattle.std.proofs.lemmas.List.{drop-drop, get_or-take}
use Rattle.std.specs.Array.{IsFirstChunk}
use Rattle.std.specs.Int.{w16, from_le_bytes}
use Rattle.std.specs.Option.{MatchOption, unwrap_or}
use Rattle.std.specs.Simd.{first_chunks}
use Rattle.icu_zerovec.specs.Cells.{IsPacked, cell, values_of}
use Rattle.icu_zerovec.specs.PackedBytes.{number_of}
use Rattle.icu_zerovec.proofs.CallerLemmas.{get-values_of, length-values_of}
use Rattle.icu_trie_text.specs.Inside.Ascii.{AreFirstBytes}

-- ---- chunks are cells
length-chunks : (w n : ℕ) (b : List ℕ) → length (first_chunks w n b) ≡ n
length-chunks w zero b = refl
length-chunks w (suc n) b = ap suc (length-chunks w n (drop w b))

get_or-chunks : (w n i : ℕ) (b : List ℕ) → i < n → get_or (first_chunks w n b) i [] ≡ cell w b i
get_or-chunks w zero i b l = absurd (omega arith)
get_or-chunks w (suc n) zero b l = ap (λ k. take w (drop k b)) (sym (zero-mul w))
get_or-chunks w (suc n) (suc i) b l =
    get_or-chunks w n i (drop w b) (omega arith)
    ∙ ap (take w) (drop-drop (i * w) w b ∙ ap (λ k. drop k b) (omega (arith, suc-mul i w)))

abbrev unit_of : List ℕ → Option ℕ
unit_of b = Some (number_of 2 b)

-- The first 32 cells of an index that has them.
pub first_cells_are : (bytes : List ℕ) (found : Option (Bor (List (List ℕ)))) (none : Bor (List (List ℕ))) (cells : List (List ℕ))
    → IsPacked unit_of 2 bytes → cells ≡ first_chunks 2 (length bytes / 2) bytes
    → MatchOption found (length cells < 32) (λ first. IsFirstChunk cells first.now 32)
    → (i : ℕ) → i < 32 → 32 ≤ length (values_of unit_of 2 bytes)
    → slice_get (values_of unit_of 2 bytes) i ≡ Some (from_le_bytes w16 (get_or (unwrap_or found none).now i []))
first_cells_are bytes None none cells p e m i l enough =
    absurd (omega (arith, m, enough, length-values_of unit_of 2 bytes p, ap length e, length-chunks 2 (length bytes / 2) bytes))
first_cells_are bytes (Some first) none cells p e m i l enough =
    let within : i < length bytes / 2 = omega (arith, l, enough, length-values_of unit_of 2 bytes p) in
    let own : get_or first.now i [] ≡ cell 2 bytes i =
    ap (λ (cs : List (List ℕ)). get_or cs i []) (m.same ∙ ap (take 32) e)
    ∙ get_or-take 32 (first_chunks 2 (length bytes / 2) bytes) i [] l ∙ get_or-chunks 2 (length bytes / 2) i bytes within in
    rw own (get-values_of unit_of 2 bytes i p within)

-- ---- bytes
at_one : {T : Type 0} (f : List ℕ → Option T) (bytes : List ℕ) (c : ℕ) → IsPacked f 1 bytes → c < length bytes
    → slice_get (values_of f 1 bytes) c ≡ f (get_or bytes c 0 ∷ [])
at_one f bytes c p l =
    let whole : length bytes / 1 ≡ length bytes = omega arith in
    let same : c * 1 ≡ c = omega arith in
    let own : cell 1 bytes c ≡ get_or bytes c 0 ∷ [] =
    ap (λ k. take 1 (drop k bytes)) same ∙ ap (take 1) (drop-cons bytes c 0 l) in
    get-values_of f 1 bytes c p (omega (arith, l, whole)) ∙ ap f own

module _ {T : Type 0} (f : List ℕ → Option T) (bytes : List ℕ) (found : Option (Bor (List ℕ))) (none : Bor (List ℕ)) where
  abbrev AreFound : ℕ → Type 0
  AreFound w = IsPacked f w bytes → 0x80 ≤ length (values_of f w bytes) → (c : ℕ) → c < 0x80
      → f (get_or (unwrap_or found none).now c 0 ∷ []) ≡ slice_get (values_of f w bytes) c

-- The first bytes of values of one byte.
first_of_one : {T : Type 0} (f : List ℕ → Option T) (bytes : List ℕ) (found : Option (Bor (List ℕ))) (none : Bor (List ℕ))
    → MatchOption found (length bytes < 0x80) (λ first. IsFirstChunk bytes first.now 0x80) → AreFound f bytes found none 1
first_of_one f bytes None none m p enough c l =
    let whole : length bytes / 1 ≡ length bytes = omega arith in
    absurd (omega (arith, m, enough, length-values_of f 1 bytes p, whole))
first_of_one f bytes (Some first) none m p enough c l =
    let long = m.enough in
    let own : get_or first.now c 0 ≡ get_or bytes c 0 =
    ap (λ (bs : List ℕ). get_or bs c 0) m.same ∙ get_or-take 0x80 bytes c 0 l in
    rw own (sym (at_one f bytes c p (omega (arith, l, long))))

pub first_bytes_are : {T : Type 0} (f : List ℕ → Option T) (w : ℕ) (bytes : List ℕ) (found : Option (Bor (List ℕ)))
    (none : Bor (List ℕ)) → IsPacked f w bytes → MatchOption found (length bytes < 0x80) (λ first. IsFirstChunk bytes first.now 0x80)
    → 0x80 ≤ length (values_of f w bytes) → AreFirstBytes f w (values_of f w bytes) (unwrap_or found none).now
first_bytes_are f w bytes found none p m enough e c l =
    subst (AreFound f bytes found none) (sym e) (first_of_one f bytes found none m) p enough c l
