-- Small tries and their maps, at least one for each rule of the grammar.
use Rattle.std.proofs.Common.{ℕ, ℤ, pos, negsuc, List, [], ◌∷◌, refl, lit<, lit≤}
use Rattle.icu_char16trie.specs.Numbers.{number_by, end_by, entry_child, lower_part}
use Rattle.icu_char16trie.specs.Grammar.{Arms, Part, last, entry, split, Holds, final, plain, valued, Matches, run, branch, Children, none, more, IsTrieOf}
use Rattle.icu_char16trie.specs.Grammar as grammar

-- The empty list of units.
no_units : IsTrieOf [] []
no_units = grammar.empty refl refl

-- Values of one, two and three units.
one_unit : IsTrieOf (0x8007 ∷ []) (([], pos 7) ∷ [])
unfolding number_by
one_unit = grammar.node (final 0 0x8007 7 _ refl (lit≤ tt) refl refl)

two_units : IsTrieOf (0xC000 ∷ 0x0001 ∷ []) (([], pos 1) ∷ [])
unfolding number_by
two_units = grammar.node (final 0 0xC000 1 _ refl (lit≤ tt) refl refl)

three_units : IsTrieOf (0xFFFF ∷ 0xFFFF ∷ 0xFFFE ∷ []) (([], negsuc 1) ∷ [])
unfolding number_by
three_units = grammar.node (final 0 0xFFFF 0xFFFFFFFE _ refl (lit≤ tt) refl refl)

-- Linear matches: of two letters, of a character of two units, of a lone surrogate, of two, of the
-- unit 0.
letters : IsTrieOf (0x31 ∷ 0x61 ∷ 0x62 ∷ 0x8003 ∷ []) ((0x61 ∷ 0x62 ∷ [], pos 3) ∷ [])
unfolding number_by
letters =
    grammar.node (plain 0 0x31 _ refl (lit< tt)
    (run 1 0x31 _ (([], pos 3) ∷ []) (lit≤ tt) (lit< tt) (lit≤ tt) (final 3 0x8003 3 _ refl (lit≤ tt) refl refl) refl))

pair : IsTrieOf (0x31 ∷ 0xD83D ∷ 0xDE00 ∷ 0x8001 ∷ []) ((0xD83D ∷ 0xDE00 ∷ [], pos 1) ∷ [])
unfolding number_by
pair =
    grammar.node (plain 0 0x31 _ refl (lit< tt)
    (run 1 0x31 _ (([], pos 1) ∷ []) (lit≤ tt) (lit< tt) (lit≤ tt) (final 3 0x8001 1 _ refl (lit≤ tt) refl refl) refl))

lone_surrogate : IsTrieOf (0x30 ∷ 0xD800 ∷ 0x8005 ∷ []) ((0xD800 ∷ [], pos 5) ∷ [])
unfolding number_by
lone_surrogate =
    grammar.node (plain 0 0x30 _ refl (lit< tt)
    (run 1 0x30 _ (([], pos 5) ∷ []) (lit≤ tt) (lit< tt) (lit≤ tt) (final 2 0x8005 5 _ refl (lit≤ tt) refl refl) refl))

two_trails : IsTrieOf (0x31 ∷ 0xDC00 ∷ 0xDC00 ∷ 0x8001 ∷ []) ((0xDC00 ∷ 0xDC00 ∷ [], pos 1) ∷ [])
unfolding number_by
two_trails =
    grammar.node (plain 0 0x31 _ refl (lit< tt)
    (run 1 0x31 _ (([], pos 1) ∷ []) (lit≤ tt) (lit< tt) (lit≤ tt) (final 3 0x8001 1 _ refl (lit≤ tt) refl refl) refl))

unit_zero : IsTrieOf (0x30 ∷ 0 ∷ 0x8001 ∷ []) ((0 ∷ [], pos 1) ∷ [])
unfolding number_by
unit_zero =
    grammar.node (plain 0 0x30 _ refl (lit< tt)
    (run 1 0x30 _ (([], pos 1) ∷ []) (lit≤ tt) (lit< tt) (lit≤ tt) (final 2 0x8001 1 _ refl (lit≤ tt) refl refl) refl))

-- A branch of two entries, the first by a jump.
abbrev jump_units : List ℕ
jump_units = 1 ∷ 0x61 ∷ 2 ∷ 0x62 ∷ 0x8002 ∷ 0x8001 ∷ []

jump_a : Holds jump_units 5 (([], pos 1) ∷ [])
unfolding number_by
jump_a = final 5 0x8001 1 _ refl (lit≤ tt) refl refl

jump_b : Holds jump_units 4 (([], pos 2) ∷ [])
unfolding number_by
jump_b = final 4 0x8002 2 _ refl (lit≤ tt) refl refl

jump_arms : Part jump_units 1 2 ((0x61, 5) ∷ (0x62, 4) ∷ [])
unfolding entry_child number_by end_by
jump_arms = entry 1 2 0x61 2 5 ((0x62, 4) ∷ []) _ (lit< tt) (lit≤ tt) refl refl refl (last 3 1 0x62 _ refl refl refl) refl

jump : IsTrieOf jump_units ((0x61 ∷ [], pos 1) ∷ (0x62 ∷ [], pos 2) ∷ [])
jump =
    grammar.node
    (plain 0 1 _ refl (lit< tt) (branch 1 1 1 ((0x61, 5) ∷ (0x62, 4) ∷ []) _ (lit< tt) refl (lit≤ tt) jump_arms ((lit≤ tt, tt), (tt, tt))
    (more 0x61 5 ((0x62, 4) ∷ []) _ _ ((0x62 ∷ [], pos 2) ∷ []) _ refl jump_a
    (more 0x62 4 [] _ _ [] _ refl jump_b (none [] [] refl refl) refl) refl)))

-- An intermediate value, and a linear match after it.
abbrev valued_units : List ℕ
valued_units = 0x30 ∷ 0x61 ∷ 0xB0 ∷ 0x62 ∷ 0x8002 ∷ []

valued_b : Matches valued_units 3 0x30 ((0x62 ∷ [], pos 2) ∷ [])
unfolding number_by
valued_b = run 3 0x30 _ (([], pos 2) ∷ []) (lit≤ tt) (lit< tt) (lit≤ tt) (final 4 0x8002 2 _ refl (lit≤ tt) refl refl) refl

valued_a : Holds valued_units 2 (([], pos 1) ∷ (0x62 ∷ [], pos 2) ∷ [])
unfolding number_by end_by
valued_a = valued 2 0xB0 1 _ ((0x62 ∷ [], pos 2) ∷ []) refl (lit≤ tt) (lit< tt) refl valued_b refl

intermediate : IsTrieOf valued_units ((0x61 ∷ [], pos 1) ∷ (0x61 ∷ 0x62 ∷ [], pos 2) ∷ [])
intermediate =
    grammar.node (plain 0 0x30 _ refl (lit< tt)
    (run 1 0x30 _ (([], pos 1) ∷ (0x62 ∷ [], pos 2) ∷ []) (lit≤ tt) (lit< tt) (lit≤ tt) valued_a refl))

-- A branch of two entries, the first with a final value in its row.
abbrev row_units : List ℕ
row_units = 1 ∷ 0x61 ∷ 0x8001 ∷ 0x62 ∷ 0x8002 ∷ []

row_a : Holds row_units 2 (([], pos 1) ∷ [])
unfolding number_by
row_a = final 2 0x8001 1 _ refl (lit≤ tt) refl refl

row_b : Holds row_units 4 (([], pos 2) ∷ [])
unfolding number_by
row_b = final 4 0x8002 2 _ refl (lit≤ tt) refl refl

row_arms : Part row_units 1 2 ((0x61, 2) ∷ (0x62, 4) ∷ [])
unfolding entry_child number_by end_by
row_arms = entry 1 2 0x61 0x8001 2 ((0x62, 4) ∷ []) _ (lit< tt) (lit≤ tt) refl refl refl (last 3 1 0x62 _ refl refl refl) refl

final_in_row : IsTrieOf row_units ((0x61 ∷ [], pos 1) ∷ (0x62 ∷ [], pos 2) ∷ [])
final_in_row =
    grammar.node
    (plain 0 1 _ refl (lit< tt) (branch 1 1 1 ((0x61, 2) ∷ (0x62, 4) ∷ []) _ (lit< tt) refl (lit≤ tt) row_arms ((lit≤ tt, tt), (tt, tt))
    (more 0x61 2 ((0x62, 4) ∷ []) _ _ ((0x62 ∷ [], pos 2) ∷ []) _ refl row_a
    (more 0x62 4 [] _ _ [] _ refl row_b (none [] [] refl refl) refl) refl)))

-- A branch of six entries, which is split.
abbrev split_units : List ℕ
split_units = 5 ∷ 0x64 ∷ 6 ∷ 0x64 ∷ 0x8004 ∷ 0x65 ∷ 0x8005 ∷ 0x66 ∷ 0x8006 ∷ 0x61 ∷ 0x8001 ∷ 0x62 ∷ 0x8002 ∷ 0x63 ∷ 0x8003 ∷ []

upper_arms : Part split_units 3 3 ((0x64, 4) ∷ (0x65, 6) ∷ (0x66, 8) ∷ [])
unfolding entry_child number_by end_by
upper_arms = entry 3 3 0x64 0x8004 4 ((0x65, 6) ∷ (0x66, 8) ∷ []) _ (lit< tt) (lit≤ tt) refl refl refl
    (entry 5 2 0x65 0x8005 6 ((0x66, 8) ∷ []) _ (lit< tt) (lit≤ tt) refl refl refl (last 7 1 0x66 _ refl refl refl) refl) refl

lower_arms : Part split_units 9 3 ((0x61, 10) ∷ (0x62, 12) ∷ (0x63, 14) ∷ [])
unfolding entry_child number_by end_by
lower_arms = entry 9 3 0x61 0x8001 10 ((0x62, 12) ∷ (0x63, 14) ∷ []) _ (lit< tt) (lit≤ tt) refl refl refl
    (entry 11 2 0x62 0x8002 12 ((0x63, 14) ∷ []) _ (lit< tt) (lit≤ tt) refl refl refl (last 13 1 0x63 _ refl refl refl) refl) refl

abbrev arms : Arms
arms = (0x61, 10) ∷ (0x62, 12) ∷ (0x63, 14) ∷ (0x64, 4) ∷ (0x65, 6) ∷ (0x66, 8) ∷ []

split_arms : Part split_units 1 6 arms
unfolding number_by end_by lower_part
split_arms = split 1 6 0x64 6 9 ((0x61, 10) ∷ (0x62, 12) ∷ (0x63, 14) ∷ [])
    ((0x64, 4) ∷ (0x65, 6) ∷ (0x66, 8) ∷ []) _ (lit< tt) refl refl refl lower_arms upper_arms
    (lit< tt, (lit< tt, (lit< tt, tt))) (lit≤ tt, (lit≤ tt, (lit≤ tt, tt))) refl

-- An entry with a final value, before the others.
leaf : (u p v : ℕ) (rest : Arms) (others : List (List ℕ × ℤ)) → Holds split_units p (([], pos v) ∷ []) → Children split_units rest others
    → Children split_units ((u, p) ∷ rest) ((u ∷ [], pos v) ∷ others)
leaf u p v rest others h c = more u p rest _ (([], pos v) ∷ []) others _ refl h c refl

six_entries : IsTrieOf split_units ((0x61 ∷ [], pos 1) ∷ (0x62 ∷ [], pos 2) ∷ (0x63 ∷ [], pos 3) ∷ (0x64 ∷ [], pos 4) ∷ (0x65 ∷ [], pos 5) ∷
    (0x66 ∷ [], pos 6) ∷ [])
unfolding number_by
six_entries = grammar.node (plain 0 5 _ refl (lit< tt) (branch 1 5 5 arms _ (lit< tt) refl (lit≤ tt) split_arms (
  (lit≤ tt, (lit≤ tt, (lit≤ tt, (lit≤ tt, (lit≤ tt, tt))))),
  (
    (lit≤ tt, (lit≤ tt, (lit≤ tt, (lit≤ tt, tt)))),
    ((lit≤ tt, (lit≤ tt, (lit≤ tt, tt))), ((lit≤ tt, (lit≤ tt, tt)), ((lit≤ tt, tt), (tt, tt)))),
  ),
)
    (leaf 0x61 10 1 _ _ (final 10 0x8001 1 _ refl (lit≤ tt) refl refl) (leaf 0x62 12 2 _ _ (final 12 0x8002 2 _ refl (lit≤ tt) refl refl)
    (leaf 0x63 14 3 _ _ (final 14 0x8003 3 _ refl (lit≤ tt) refl refl) (leaf 0x64 4 4 _ _ (final 4 0x8004 4 _ refl (lit≤ tt) refl refl)
    (leaf 0x65 6 5 _ _ (final 6 0x8005 5 _ refl (lit≤ tt) refl refl)
    (leaf 0x66 8 6 _ _ (final 8 0x8006 6 _ refl (lit≤ tt) refl refl) (none [] [] refl refl)))))))))
