-- The chunks of bytes are their cells.
use Rattle.std.proofs.Common.{◌≡◌, ℕ, zero, suc, ◌+◌, ◌-◌, ◌*◌, ◌/◌, ◌<◌, ◌≤◌, List, [], ◌∷◌, length, take, drop, get_or, Option, Some, None, MatchOption, Bor, refl, arith, sym, ◌∙◌, ap}
use Rattle.std.proofs.Math.Nat.{zero-mul, suc-mul, add-mul, le-div_iff_mul-le, mul-div_left}
use Rattle.std.proofs.lemmas.List.{drop-drop, drop-take, length-take-le, length-drop}
use Rattle.std.proofs.lemmas.Nat.{row_fits, div-add-mod'}
use Rattle.std.specs.Simd.{first_chunks}
use Rattle.icu_zerovec.specs.Cells.{cell}

cell-zero : (w : ℕ) (b : List ℕ) → cell w b zero ≡ take w b
cell-zero w b = ap (λ k. take w (drop k b)) (zero-mul w)

cell-suc : (w : ℕ) (b : List ℕ) (i : ℕ) → cell w b (suc i) ≡ cell w (drop w b) i
cell-suc w b i = ap (take w) (ap (λ k. drop k b) (omega (arith, suc-mul i w)) ∙ sym (drop-drop (i * w) w b))

-- A whole cell has w bytes.
pub length-cell : (w i : ℕ) (b : List ℕ) → i < length b / w → length (cell w b i) ≡ w
length-cell w i b l = length-take-le w (drop (i * w) b)
    (omega (arith, length-drop (i * w) b, row_fits i w (length b / w) w l (omega arith), div-add-mod' (length b) w))

-- There are n chunks.
pub length-chunks : (w n : ℕ) (b : List ℕ) → length (first_chunks w n b) ≡ n
length-chunks w zero b = refl
length-chunks w (suc n) b = ap suc (length-chunks w n (drop w b))

-- Chunks of a width that is w are chunks of the width w.
pub chunks-width : {v w : ℕ} {xs : List (List ℕ)} (b : List ℕ) → xs ≡ first_chunks v (length b / v) b → v ≡ w
    → xs ≡ first_chunks w (length b / w) b
chunks-width b e h = e ∙ ap (λ k. first_chunks k (length b / k) b) h

-- Chunk i is cell i.
pub get_or-chunks : (w n i : ℕ) (b d : List ℕ) → i < n → get_or (first_chunks w n b) i d ≡ cell w b i
get_or-chunks w zero i b d l = absurd (omega arith)
get_or-chunks w (suc n) zero b d l = sym (cell-zero w b)
get_or-chunks w (suc n) (suc i) b d l = get_or-chunks w n i (drop w b) d (omega arith) ∙ sym (cell-suc w b i)

pub take-front : {X : Type 0} (i j : ℕ) (xs : List X) → i ≤ j → take i (take j xs) ≡ take i xs
take-front zero j xs l = refl
take-front (suc i) zero xs l = absurd (omega arith)
take-front (suc i) (suc j) [] l = refl
take-front (suc i) (suc j) (x ∷ xs) l = ap (λ ys. x ∷ ys) (take-front i j xs (omega arith))

-- A front of n whole cells has n cells.
pub length-front : (w n : ℕ) (b : List ℕ) → 0 < w → n ≤ length b / w → length (take (n * w) b) / w ≡ n
length-front w n b p l =
    let k = length-take-le (n * w) b ((le-div_iff_mul-le {k = w} {x = n} {y = length b} p).0 l) in
    ap (λ m. m / w) k ∙ mul-div_left n p

-- They are the first cells.
pub cell-front : (w n i : ℕ) (b : List ℕ) → i < n → cell w (take (n * w) b) i ≡ cell w b i
cell-front w n i b l =
    let m = n - suc i in
    let f : n ≡ i + suc m = omega (arith, l) in
    let e : n * w ≡ i * w + (w + m * w) = omega (arith, ap (λ k. k * w) f, add-mul i (suc m) w, suc-mul m w) in
    ap (λ k. take w (drop (i * w) (take k b))) e
    ∙ (ap (take w) (drop-take (i * w) (w + m * w) b) ∙ take-front w (w + m * w) (drop (i * w) b) (omega arith))

-- A cell of such a front is a cell below n.
pub below_front : (w n k i : ℕ) (b : List ℕ) → 0 < w → n ≤ length b / w → k ≡ n * w → (r : Option (Bor (List ℕ)))
    → MatchOption r (length (take k b) / w ≤ i) (λ c. (i < length (take k b) / w) × (c.now ≡ cell w (take k b) i))
    → MatchOption r (n ≤ i) (λ c. (i < n) × (c.now ≡ cell w b i))
below_front w n k i b p l e None h =
    let s = ap (λ j. length (take j b) / w) e ∙ length-front w n b p l in omega (arith, s, h)
below_front w n k i b p l e (Some c) h =
    let s = ap (λ j. length (take j b) / w) e ∙ length-front w n b p l in
    let below : i < n = omega (arith, s, h.0) in
    (below, h.1 ∙ (ap (λ j. cell w (take j b) i) e ∙ cell-front w n i b below))
