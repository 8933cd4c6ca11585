-- The parts of a line.
use Rattle.std.proofs.Common.{◌≡◌, ℕ, ◌+◌, ◌-◌, ◌<◌, ◌≤◌, Bool, true, false, cond, ltb, List, [], ◌∷◌, ◌++◌, length, get_or, take, reverse, Option, Some, None, refl, sym, ◌∙◌, ap, arith}
use Rattle.std.proofs.lemmas.Bool.{ltb-false}
use Rattle.std.proofs.lemmas.List.{reverse-append, reverse-reverse, take_more, take_all}
use Rattle.ucptab_table.specs.TableText.{is_blank, trim_end}

-- An index that was found among n, and one that was not.
pub place_found : (place n len : ℕ) → Some place ≡ cond (ltb n len) (Some n) None → place ≡ n
place_found place n len e = by_test (ltb n len) e where
  by_test : (found : Bool) → Some place ≡ cond found (Some n) None → place ≡ n
  by_test true e = cc
  by_test false e = cc

pub place_missing : (n len : ℕ) → n ≤ len → ◌≡◌ {A = Option ℕ} None (cond (ltb n len) (Some n) None) → len ≡ n
place_missing n len within e = by_test (ltb n len) refl e where
  by_test : (found : Bool) → ltb n len ≡ found → ◌≡◌ {A = Option ℕ} None (cond found (Some n) None) → len ≡ n
  by_test true is e = cc
  by_test false is e = let least : len ≤ n = ltb-false n len is in omega arith

-- The reversed list starts with the last byte.
reversed : (bytes : List ℕ) → 0 < length bytes → reverse bytes ≡ get_or bytes (length bytes - 1) 0 ∷ reverse (take (length bytes - 1) bytes)
reversed bytes some =
    let n = length bytes - 1 in
    let whole : take (n + 1) bytes ≡ bytes = take_all (n + 1) bytes (omega arith) in
    let split : take (n + 1) bytes ≡ take n bytes ++ get_or bytes n 0 ∷ [] = take_more bytes n 0 (omega arith) in
    ap reverse (sym whole ∙ split) ∙ reverse-append (take n bytes) (get_or bytes n 0 ∷ [])

-- a blank at the end does not matter
pub trim_end_blank : (bytes : List ℕ) → 0 < length bytes → is_blank (get_or bytes (length bytes - 1) 0) ≡ true
    → trim_end bytes ≡ trim_end (take (length bytes - 1) bytes)
unfolding trim_end
trim_end_blank bytes some blank = rw (reversed bytes some, blank) refl

pub trim_end_other : (bytes : List ℕ) → 0 < length bytes → is_blank (get_or bytes (length bytes - 1) 0) ≡ false → trim_end bytes ≡ bytes
unfolding trim_end
trim_end_other bytes some other = rw (reversed bytes some, other, ← reversed bytes some) (reverse-reverse bytes)

pub trim_end_none : (bytes : List ℕ) → length bytes ≡ 0 → trim_end bytes ≡ bytes
unfolding trim_end
trim_end_none [] none = refl
trim_end_none (b ∷ bytes) none = absurd (omega arith)
