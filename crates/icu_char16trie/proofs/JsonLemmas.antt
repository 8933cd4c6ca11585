-- The units of a JSON array; what is written of a trie is read back.
use Rattle.std.proofs.Common.{◌≡◌, ℕ, suc, ◌+◌, ◌<◌, ◌^◌, true, List, [], ◌∷◌, Ok, refl, ap, ◌∙◌, arith, map}
use Rattle.std.proofs.lemmas.Bool.{lt-ltb}
use Rattle.std.specs.Prelude.{All, nat_lt}
use Rattle.serde_json.proofs.OnLiterals.{serde_json_on_literals}
use Rattle.serde_json.specs.Data.{Data, number, unsigned}
use Rattle.serde_json.specs.View.{view, items_view, items_of}
use Rattle.serde_json.specs.declared.value.Value.{Value}
use Rattle.icu_zerovec.specs.FirstFault.{before, read_from}
use Rattle.icu_char16trie.specs.Char16Json.{unit_or, list_of, units_of, json_of}

pub list_of-items_view : (vs : List Value) → list_of (items_view vs) ≡ map view vs
list_of-items_view [] = refl
list_of-items_view (v ∷ vs) = ap (λ z. view v ∷ z) (list_of-items_view vs)

list_of-items_of : (ds : List Data) → list_of (items_of ds) ≡ ds
list_of-items_of [] = refl
list_of-items_of (d ∷ ds) = ap (λ z. d ∷ z) (list_of-items_of ds)

units_read : (i : ℕ) (units : List ℕ) → All (λ u. u < 2 ^ 16) units → read_from unit_or i (map (λ u. number (unsigned u)) units) ≡ Ok units
unfolding read_from
units_read i [] h = refl
units_read i (u ∷ units) h =
    let small : nat_lt u 0x1_0000 ≡ true = lt-ltb u 0x1_0000 (h 0 0 (omega arith)) in
    rw small (ap (before (Ok u)) (units_read (i + 1) units (λ k d lt. h (suc k) d (omega arith))))

-- What is written is read back.
pub json_read : (units : List ℕ) → All (λ u. u < 2 ^ 16) units → units_of (json_of units) ≡ Ok units
unfolding serde_json_on_literals
json_read units h = ap (read_from unit_or 0) (list_of-items_of (map (λ u. number (unsigned u)) units)) ∙ units_read 0 units h
