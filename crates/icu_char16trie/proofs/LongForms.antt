-- More units and their maps: the longer forms of values, lengths, jumps and deltas.
use Rattle.std.proofs.Common.{◌≡◌, ℕ, ◌+◌, pos, negsuc, List, [], ◌∷◌, Some, refl, lit<, lit≤}
use Rattle.icu_char16trie.specs.Numbers.{number_by, end_by, entry_child, delta_number, delta_end, lower_part}
use Rattle.icu_char16trie.specs.Grammar.{Part, last, entry, split, Holds, final, plain, valued, Matches, run, branch, none, more, IsTrieOf}
use Rattle.icu_char16trie.specs.Grammar as grammar

abbrev two_units : List ℕ
two_units = 0x40B0 ∷ 5 ∷ 0x62 ∷ 0x8002 ∷ []

two_b : Matches two_units 2 0x30 ((0x62 ∷ [], pos 2) ∷ [])
unfolding number_by
two_b = run 2 0x30 _ (([], pos 2) ∷ []) (lit≤ tt) (lit< tt) (lit≤ tt) (final 3 0x8002 2 _ refl (lit≤ tt) refl refl) refl

two : IsTrieOf two_units (([], pos 0x10005) ∷ (0x62 ∷ [], pos 2) ∷ [])
unfolding number_by end_by
two = grammar.node (valued 0 0x40B0 0x10005 _ ((0x62 ∷ [], pos 2) ∷ []) refl (lit≤ tt) (lit< tt) refl two_b refl)

abbrev three_units : List ℕ
three_units = 0x7FF0 ∷ 0xFFFF ∷ 0xFFFF ∷ 0x62 ∷ 0x8002 ∷ []

three_b : Matches three_units 3 0x30 ((0x62 ∷ [], pos 2) ∷ [])
unfolding number_by
three_b = run 3 0x30 _ (([], pos 2) ∷ []) (lit≤ tt) (lit< tt) (lit≤ tt) (final 4 0x8002 2 _ refl (lit≤ tt) refl refl) refl

three : IsTrieOf three_units (([], negsuc 0) ∷ (0x62 ∷ [], pos 2) ∷ [])
unfolding number_by end_by
three = grammar.node (valued 0 0x7FF0 0xFFFFFFFF _ ((0x62 ∷ [], pos 2) ∷ []) refl (lit≤ tt) (lit< tt) refl three_b refl)

-- A branch whose length is a unit of its own, with a jump of two units.
abbrev long_units : List ℕ
long_units = 0 ∷ 1 ∷ 0x61 ∷ 0x4000 ∷ 2 ∷ 0x62 ∷ 0x8002 ∷ 0x8001 ∷ []

long_a : Holds long_units 7 (([], pos 1) ∷ [])
unfolding number_by
long_a = final 7 0x8001 1 _ refl (lit≤ tt) refl refl

long_b : Holds long_units 6 (([], pos 2) ∷ [])
unfolding number_by
long_b = final 6 0x8002 2 _ refl (lit≤ tt) refl refl

long_arms : Part long_units 2 2 ((0x61, 7) ∷ (0x62, 6) ∷ [])
unfolding entry_child number_by end_by
long_arms = entry 2 2 0x61 0x4000 7 ((0x62, 6) ∷ []) _ (lit< tt) (lit≤ tt) refl refl refl (last 5 1 0x62 _ refl refl refl) refl

long : IsTrieOf long_units ((0x61 ∷ [], pos 1) ∷ (0x62 ∷ [], pos 2) ∷ [])
long =
    grammar.node
    (plain 0 0 _ refl (lit< tt) (branch 1 0 1 ((0x61, 7) ∷ (0x62, 6) ∷ []) _ (lit< tt) refl (lit≤ tt) long_arms ((lit≤ tt, tt), (tt, tt))
    (more 0x61 7 ((0x62, 6) ∷ []) _ _ ((0x62 ∷ [], pos 2) ∷ []) _ refl long_a
    (more 0x62 6 [] _ _ [] _ refl long_b (none [] [] refl refl) refl) refl)))

-- A jump of three units.
abbrev far_units : List ℕ
far_units = 1 ∷ 0x61 ∷ 0x7FFF ∷ 0 ∷ 2 ∷ 0x62 ∷ 0x8002 ∷ 0x8001 ∷ []

far_arms : Part far_units 1 2 ((0x61, 7) ∷ (0x62, 6) ∷ [])
unfolding entry_child number_by end_by
far_arms = entry 1 2 0x61 0x7FFF 7 ((0x62, 6) ∷ []) _ (lit< tt) (lit≤ tt) refl refl refl (last 5 1 0x62 _ refl refl refl) refl

abbrev delta_two_units : List ℕ
delta_two_units = 0x5 ∷ 0x64 ∷ 0xFC00 ∷ 0x6 ∷ 0x64 ∷ 0x8004 ∷ 0x65 ∷ 0x8005 ∷ 0x66 ∷ 0x8006 ∷ 0x61 ∷ 0x8001 ∷ 0x62 ∷ 0x8002 ∷ 0x63 ∷ 0x8003
    ∷ []

delta_two_upper : Part delta_two_units 4 3 ((0x64, 5) ∷ (0x65, 7) ∷ (0x66, 9) ∷ [])
unfolding entry_child number_by end_by
delta_two_upper = entry 4 3 0x64 0x8004 5 ((0x65, 7) ∷ (0x66, 9) ∷ []) _ (lit< tt) (lit≤ tt) refl refl refl
    (entry 6 2 0x65 0x8005 7 ((0x66, 9) ∷ []) _ (lit< tt) (lit≤ tt) refl refl refl (last 8 1 0x66 _ refl refl refl) refl) refl

delta_two_lower : Part delta_two_units 10 3 ((0x61, 11) ∷ (0x62, 13) ∷ (0x63, 15) ∷ [])
unfolding entry_child number_by end_by
delta_two_lower = entry 10 3 0x61 0x8001 11 ((0x62, 13) ∷ (0x63, 15) ∷ []) _ (lit< tt) (lit≤ tt) refl refl refl
    (entry 12 2 0x62 0x8002 13 ((0x63, 15) ∷ []) _ (lit< tt) (lit≤ tt) refl refl refl (last 14 1 0x63 _ refl refl refl) refl) refl

delta_two_arms : Part delta_two_units 1 6 ((0x61, 11) ∷ (0x62, 13) ∷ (0x63, 15) ∷ (0x64, 5) ∷ (0x65, 7) ∷ (0x66, 9) ∷ [])
unfolding number_by end_by lower_part
delta_two_arms = split 1 6 0x64 0xFC00 10 ((0x61, 11) ∷ (0x62, 13) ∷ (0x63, 15) ∷ [])
    ((0x64, 5) ∷ (0x65, 7) ∷ (0x66, 9) ∷ []) _ (lit< tt) refl refl refl delta_two_lower delta_two_upper
    (lit< tt, (lit< tt, (lit< tt, tt))) (lit≤ tt, (lit≤ tt, (lit≤ tt, tt))) refl

abbrev delta_three_units : List ℕ
delta_three_units = 0x5 ∷ 0x64 ∷ 0xFFFF ∷ 0x0 ∷ 0x6 ∷ 0x64 ∷ 0x8004 ∷ 0x65 ∷ 0x8005 ∷ 0x66 ∷ 0x8006 ∷ 0x61 ∷ 0x8001 ∷ 0x62 ∷ 0x8002 ∷ 0x63 ∷
    0x8003 ∷ []

delta_three_upper : Part delta_three_units 5 3 ((0x64, 6) ∷ (0x65, 8) ∷ (0x66, 10) ∷ [])
unfolding entry_child number_by end_by
delta_three_upper = entry 5 3 0x64 0x8004 6 ((0x65, 8) ∷ (0x66, 10) ∷ []) _ (lit< tt) (lit≤ tt) refl refl refl
    (entry 7 2 0x65 0x8005 8 ((0x66, 10) ∷ []) _ (lit< tt) (lit≤ tt) refl refl refl (last 9 1 0x66 _ refl refl refl) refl) refl

delta_three_lower : Part delta_three_units 11 3 ((0x61, 12) ∷ (0x62, 14) ∷ (0x63, 16) ∷ [])
unfolding entry_child number_by end_by
delta_three_lower = entry 11 3 0x61 0x8001 12 ((0x62, 14) ∷ (0x63, 16) ∷ []) _ (lit< tt) (lit≤ tt) refl refl refl
    (entry 13 2 0x62 0x8002 14 ((0x63, 16) ∷ []) _ (lit< tt) (lit≤ tt) refl refl refl (last 15 1 0x63 _ refl refl refl) refl) refl

delta_three_arms : Part delta_three_units 1 6 ((0x61, 12) ∷ (0x62, 14) ∷ (0x63, 16) ∷ (0x64, 6) ∷ (0x65, 8) ∷ (0x66, 10) ∷ [])
unfolding number_by end_by lower_part
delta_three_arms = split 1 6 0x64 0xFFFF 11 ((0x61, 12) ∷ (0x62, 14) ∷ (0x63, 16) ∷ [])
    ((0x64, 6) ∷ (0x65, 8) ∷ (0x66, 10) ∷ []) _ (lit< tt) refl refl refl delta_three_lower delta_three_upper
    (lit< tt, (lit< tt, (lit< tt, tt))) (lit≤ tt, (lit≤ tt, (lit≤ tt, tt))) refl

-- The border between a delta of one unit and one of two.
one_unit_delta : (units : List ℕ) (p : ℕ) → delta_number units p 0xFBFF ≡ Some 0xFBFF
unfolding number_by
one_unit_delta units p = refl

two_unit_delta : (p : ℕ) → delta_end p 0xFC00 ≡ p + 1
unfolding end_by
two_unit_delta p = refl
