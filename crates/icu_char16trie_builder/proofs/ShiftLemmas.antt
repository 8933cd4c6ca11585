-- What is in a list of units is also in the list with others in front, at a shifted index.
use Rattle.std.proofs.Common.{◌≡◌, ℕ, ℤ, suc, ◌+◌, ◌-◌, ◌/◌, ◌%◌, ◌<◌, Bool, true, false, cond, nat_lt, nat_eq, List, [], ◌∷◌, ◌++◌, Option, Some, None, refl, sym, ap, ◌∙◌, arith, length, slice_get}
use Rattle.std.proofs.lemmas.Option.{none-some, same_Some}
use Rattle.std.specs.Prelude.{option_and_then}
use Rattle.icu_char16trie.specs.Numbers.{low_half, both_halves, number_by, end_by, short_number, short_end, delta_number, delta_end, entry_child, lower_part}
use Rattle.icu_char16trie.specs.Grammar.{UnitsBelow, UnitsFrom, IsAscending, Part, last, entry, split, branch_start, Holds, final, plain, valued, Matches, run, branch, Children, none, more}
use Rattle.icu_char16trie_builder.specs.Inside.Written.{heads, PartAt}

-- The same arms, with one more unit in front of the list.
unfoldable pub moved : List (ℕ × ℕ) → List (ℕ × ℕ)
moved [] = []
moved (a ∷ arms) = (a.0, suc a.1) ∷ moved arms

moved_append : (a b : List (ℕ × ℕ)) → moved (a ++ b) ≡ moved a ++ moved b
unfolding moved
moved_append [] b = refl
moved_append (x ∷ a) b = ap (λ z. (x.0, suc x.1) ∷ z) (moved_append a b)

below_moved : (s : ℕ) (arms : List (ℕ × ℕ)) → UnitsBelow s arms → UnitsBelow s (moved arms)
unfolding moved
below_moved s [] h = tt
below_moved s (a ∷ arms) h = (h.0, below_moved s arms h.1)

from_moved : (s : ℕ) (arms : List (ℕ × ℕ)) → UnitsFrom s arms → UnitsFrom s (moved arms)
unfolding moved
from_moved s [] h = tt
from_moved s (a ∷ arms) h = (h.0, from_moved s arms h.1)

ascending_moved : (arms : List (ℕ × ℕ)) → IsAscending arms → IsAscending (moved arms)
unfolding moved
ascending_moved [] h = tt
ascending_moved (a ∷ arms) h = (from_moved (a.0 + 1) arms h.0, ascending_moved arms h.1)

pub on : (p k : ℕ) → suc p + k ≡ suc (p + k)
on p k = omega arith

pub get_on : (x : ℕ) (units : List ℕ) (p k : ℕ) → slice_get (x ∷ units) (suc p + k) ≡ slice_get units (p + k)
get_on x units p k = rw (on p k) refl

both_moved : (x : ℕ) (units : List ℕ) (p : ℕ) → both_halves (x ∷ units) (suc p) ≡ both_halves units p
both_moved x units p = rw (on p 1) refl

pub number_moved : (two three x : ℕ) (units : List ℕ) (p w : ℕ) → number_by two three (x ∷ units) (suc p) w ≡ number_by two three units p w
unfolding number_by
number_moved two three x units p w = ap (λ z. cond (nat_lt w two) (Some w) (cond (nat_lt w three) (low_half units p (w - two)) z))
    (both_moved x units p)

end_moved_by : (b c : Bool) (p : ℕ) → cond b (suc p) (cond c (suc p + 1) (suc p + 2)) ≡ suc (cond b p (cond c (p + 1) (p + 2)))
end_moved_by true c p = refl
end_moved_by false true p = on p 1
end_moved_by false false p = on p 2

end_moved : (two three p w : ℕ) → end_by two three (suc p) w ≡ suc (end_by two three p w)
unfolding end_by
end_moved two three p w = end_moved_by (nat_lt w two) (nat_lt w three) p

jump_moved : (o : Option ℕ) (e child : ℕ) → option_and_then (λ j. Some (e + j)) o ≡ Some child
    → option_and_then (λ j. Some (suc e + j)) o ≡ Some (suc child)
jump_moved None e child h = absurd (none-some _ h)
jump_moved (Some j) e child h = let s : e + j ≡ child = same_Some _ _ h in ap Some (rw (on e j) (ap suc s))

child_moved_by : (b : Bool) (o : Option ℕ) (e q child : ℕ) → 0 < q
    → cond b (option_and_then (λ j. Some (e + j)) o) (Some (q - 1)) ≡ Some child
    → cond b (option_and_then (λ j. Some (suc e + j)) o) (Some (suc q - 1)) ≡ Some (suc child)
child_moved_by true o e q child pos h = jump_moved o e child h
child_moved_by false o e q child pos h = let s : q - 1 ≡ child = same_Some _ _ h in ap Some (omega (arith, s))

child_moved : (x : ℕ) (units : List ℕ) (q v child : ℕ) → 0 < q → entry_child units q v ≡ Some child
    → entry_child (x ∷ units) (suc q) v ≡ Some (suc child)
unfolding entry_child
child_moved x units q v child pos h = rw (number_moved 0x4000 0x7fff x units q v, end_moved 0x4000 0x7fff q v)
    (child_moved_by (nat_lt v 0x8000) (short_number units q v) (short_end q v) q child pos h)

lower_moved : (x : ℕ) (units : List ℕ) (q d low : ℕ) → lower_part units q d ≡ Some low → lower_part (x ∷ units) (suc q) d ≡ Some (suc low)
unfolding lower_part
lower_moved x units q d low h = rw (number_moved 0xfc00 0xffff x units q d, end_moved 0xfc00 0xffff q d)
    (jump_moved (delta_number units q d) (delta_end q d) low h)

pub part_moved : (x : ℕ) (units : List ℕ) {p n : ℕ} {arms : List (ℕ × ℕ)} → Part units p n arms → Part (x ∷ units) (suc p) n (moved arms)
unfolding moved
part_moved x units (last p n u arms e g a) = last (suc p) n u (moved arms) e g (ap moved a ∙ ap (λ z. (u, z) ∷ []) (sym (on p 1)))
part_moved x units (entry p n u v child rest arms many le5 g g' c r a) =
    entry (suc p) n u v (suc child) (moved rest) (moved arms) many le5 g (get_on x units p 1 ∙ g')
    (rw (on p 2) (child_moved x units (p + 2) v child (omega arith) c))
    (rw (on p 2, end_moved 0x4000 0x7fff (p + 2) (v % 0x8000)) (part_moved x units r)) (ap moved a)
part_moved x units (split p n s d low lower upper arms many g g' c l r b f a) =
    split (suc p) n s d (suc low) (moved lower) (moved upper) (moved arms) many g (get_on x units p 1 ∙ g')
    (rw (on p 2) (lower_moved x units (p + 2) d low c)) (part_moved x units l)
    (rw (on p 2, end_moved 0xfc00 0xffff (p + 2) d) (part_moved x units r))
    (below_moved s lower b) (from_moved s upper f) (ap moved a ∙ moved_append lower upper)

branch_start_by : (b : Bool) (p : ℕ) → cond b (suc p + 1) (suc p) ≡ suc (cond b (p + 1) p)
branch_start_by true p = on p 1
branch_start_by false p = refl

branch_start_moved : (p low : ℕ) → branch_start (suc p) low ≡ suc (branch_start p low)
branch_start_moved p low = branch_start_by (nat_eq low 0) p

mutual
  unfolding moved

  pub holds_moved : (x : ℕ) (units : List ℕ) {p : ℕ} {m : List (List ℕ × ℤ)} → Holds units p m → Holds (x ∷ units) (suc p) m
  holds_moved x units (final p lead n m g le s e) =
      final (suc p) lead n m g le (rw (on p 1) (number_moved 0x4000 0x7fff x units (p + 1) (lead - 0x8000) ∙ s)) e
  holds_moved x units (plain p lead m g lt node) = plain (suc p) lead m g lt (rw (on p 1) (matches_moved x units node))
  holds_moved x units (valued p lead n m rest g ge lt s node e) =
      valued (suc p) lead n m rest g ge lt (rw (on p 1) (number_moved 0x100 0x1fe x units (p + 1) (lead / 64 - 1) ∙ s))
      (rw (on p 1, end_moved 0x100 0x1fe (p + 1) (lead / 64 - 1)) (matches_moved x units node)) e

  pub matches_moved : (x : ℕ) (units : List ℕ) {p low : ℕ} {m : List (List ℕ × ℤ)} → Matches units p low m
      → Matches (x ∷ units) (suc p) low m
  matches_moved x units (run p low m rest h l within node e) =
      run (suc p) low m rest h l (omega (arith, within)) (rw (on p (low - 0x2f)) (holds_moved x units node)) e
  matches_moved x units (branch p low n arms m lt len many part up c) =
      branch (suc p) low n (moved arms) m lt len many (rw (branch_start_moved p low) (part_moved x units part)) (ascending_moved arms up)
      (children_moved x units c)

  pub children_moved : (x : ℕ) (units : List ℕ) {arms : List (ℕ × ℕ)} {m : List (List ℕ × ℤ)} → Children units arms m
      → Children (x ∷ units) (moved arms) m
  children_moved x units (none arms m a e) = none (moved arms) m (ap moved a) e
  children_moved x units (more u q rest arms m others all a node c e) =
      more u (suc q) (moved rest) (moved arms) m others all (ap moved a) (holds_moved x units node) (children_moved x units c) e

-- The same with any units in front.
pub holds_behind : (front units : List ℕ) {p : ℕ} {m : List (List ℕ × ℤ)} → Holds units p m → Holds (front ++ units) (length front + p) m
holds_behind [] units {p = p} h = let z : 0 + p ≡ p = omega arith in rw z h
holds_behind (x ∷ front) units {p = p} h = rw (on (length front) p) (holds_moved x (front ++ units) (holds_behind front units h))

pub matches_behind : (front units : List ℕ) {p low : ℕ} {m : List (List ℕ × ℤ)} → Matches units p low m
    → Matches (front ++ units) (length front + p) low m
matches_behind [] units {p = p} h = let z : 0 + p ≡ p = omega arith in rw z h
matches_behind (x ∷ front) units {p = p} h = rw (on (length front) p) (matches_moved x (front ++ units) (matches_behind front units h))

pub heads_moved : (arms : List (ℕ × ℕ)) → heads (moved arms) ≡ heads arms
unfolding moved heads
heads_moved [] = refl
heads_moved (a ∷ arms) = ap (λ z. a.0 ∷ z) (heads_moved arms)

pub part_at_moved : (x : ℕ) (units : List ℕ) {p n : ℕ} {us : List ℕ} {m : List (List ℕ × ℤ)} → PartAt units p n us m
    → PartAt (x ∷ units) (suc p) n us m
part_at_moved x units h = record {
  arms = moved h.arms;
  part = part_moved x units h.part;
  heads = heads_moved h.arms ∙ h.heads;
  children =
      children_moved x units h.children;
}

pub part_at_behind : (front units : List ℕ) {p n : ℕ} {us : List ℕ} {m : List (List ℕ × ℤ)} → PartAt units p n us m
    → PartAt (front ++ units) (length front + p) n us m
part_at_behind [] units {p = p} h = let z : 0 + p ≡ p = omega arith in rw z h
part_at_behind (x ∷ front) units {p = p} h = rw (on (length front) p) (part_at_moved x (front ++ units) (part_at_behind front units h))
