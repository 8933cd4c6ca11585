-- What the remaining steps make from what is in front of the units so far and from what was saved.
use Rattle.std.specs.Prelude.{◌≡◌, ℕ, ℤ, ◌+◌, ◌-◌, ◌*◌, ◌/◌, ◌^◌, ◌<◌, ◌≤◌, List, [], ◌∷◌, ◌++◌, length, reverse, Option, Some, None}
use Rattle.icu_char16trie.specs.Constants.{max_branch_linear_sub_node_length, max_linear_match_length}
use Rattle.icu_char16trie.specs.Grammar.{Holds}
use Rattle.icu_char16trie.specs.UnitMap.{UnitMap, under}
use Rattle.icu_char16trie_builder.specs.Inside.Cuts.{cut, room, IsBelow, arm_units, arm_map}
use Rattle.icu_char16trie_builder.specs.Inside.Written.{PartAt, Below, From, Ascends, own_entry}
use Rattle.icu_char16trie_builder.specs.declared.entry.Arm.{Arm}
use Rattle.icu_char16trie_builder.specs.declared.entry.Entry.{Entry}
use Rattle.icu_char16trie_builder.specs.declared.known.KnownNode.{KnownNode}
use Rattle.icu_char16trie_builder.specs.declared.step.Step.{Step}
use Rattle.icu_char16trie_builder.specs.declared.step.Step.TheVariants as steps

-- What can be in front: nothing yet, a node of a map, or a part of a branch with n entries, their
-- units and its map.
pub data Piece : Type 0 where
  nothing : Piece
  node : (m : UnitMap) → Piece
  part : (n : ℕ) (us : List ℕ) (m : UnitMap) → Piece

-- A piece is at index p.
abbrev pub Stands : List ℕ → ℕ → Piece → Type 0
Stands units p nothing = Unit {0}
Stands units p (node m) = Holds units p m
Stands units p (part n us m) = PartAt units p n us m

-- A piece is `from_end` units before the end.
pub record IsSaved (units : List ℕ) (from_end : ℕ) (x : Piece) : Type 0 where
  pub within : from_end ≤ length units
  pub stands : Stands units (length units - from_end) x

-- Pieces are at these indices, which are counted from the end.
abbrev pub AreSaved : List ℕ → List ℕ → List Piece → Type 0
AreSaved units [] [] = Unit {0}
AreSaved units [] (x ∷ saved) = ⊥
AreSaved units (p ∷ places) [] = ⊥
AreSaved units (p ∷ places) (x ∷ saved) = IsSaved units p x × AreSaved units places saved

-- The known nodes are at their indices.
abbrev pub AreKnown : List ℕ → List KnownNode → Type 0
AreKnown units [] = Unit {0}
AreKnown units (k ∷ known) =
    IsSaved units k.place (node (cut k.depth k.entries.now)) × AreKnown units known

-- What is in front, and what was saved, the last first.
pub record State : Type 0 where
  pub front : Piece
  pub saved : List Piece

-- The unit u of the last entry of a row is written in front of its node.
pub record TakesLast (u : ℕ) (s t : State) : Type 0 where
  pub m : UnitMap
  pub was : s.front ≡ node m
  pub is : t ≡ record { front = part 1 (u ∷ []) (under (u ∷ []) m); saved = s.saved }

-- The entry of the unit u, with a jump to the node saved last, is written in front of a row.
pub record TakesJump (u : ℕ) (s t : State) : Type 0 where
  pub n : ℕ
  pub us : List ℕ
  pub m1 : UnitMap
  pub m2 : UnitMap
  pub rest : List Piece
  pub many : 1 < n
  pub few : n ≤ max_branch_linear_sub_node_length
  pub was : s ≡ record { front = part (n - 1) us m2; saved = node m1 ∷ rest }
  pub is : t ≡ record { front = part n (u ∷ us) (under (u ∷ []) m1 ++ m2); saved = rest }

-- The entry of the unit u, with the final value v, is written in front of a row.
pub record TakesValue (u : ℕ) (v : ℤ) (s t : State) : Type 0 where
  pub n : ℕ
  pub us : List ℕ
  pub m : UnitMap
  pub many : 1 < n
  pub few : n ≤ max_branch_linear_sub_node_length
  pub was : s.front ≡ part (n - 1) us m
  pub is : t ≡ record { front = part n (u ∷ us) ((u ∷ [], v) ∷ m); saved = s.saved }

-- A split at x is written in front of the upper part. The lower part is the one saved last.
pub record TakesSplit (x : ℕ) (s t : State) : Type 0 where
  pub n : ℕ
  pub us1 : List ℕ
  pub us2 : List ℕ
  pub m1 : UnitMap
  pub m2 : UnitMap
  pub rest : List Piece
  pub many : max_branch_linear_sub_node_length < n
  pub was : s ≡ record { front = part (n - n / 2) us2 m2; saved = part (n / 2) us1 m1 ∷ rest }
  pub below : Below x us1
  pub from : From x us2
  pub is : t ≡ record { front = part n (us1 ++ us2) (m1 ++ m2); saved = rest }

-- A linear match, and its own value, if it has one, is written in front of its node.
pub record TakesRun (units : List ℕ) (value : Option ℤ) (s t : State) : Type 0 where
  pub m : UnitMap
  pub some : 0 < length units
  pub few : length units ≤ max_linear_match_length
  pub was : s.front ≡ node m
  pub is : t ≡ record { front = node (own_entry value ++ under units m); saved = s.saved }

-- The lead of a branch, and its own value, if it has one, is written in front of its part.
pub record TakesBranch (count : ℕ) (value : Option ℤ) (s t : State) : Type 0 where
  pub us : List ℕ
  pub m : UnitMap
  pub some : 2 ≤ count
  pub few : count ≤ 2 ^ 16
  pub ascends : Ascends us
  pub was : s.front ≡ part count us m
  pub is : t ≡ record { front = node (own_entry value ++ m); saved = s.saved }

-- A step leads from the state s to the state t.
abbrev pub Takes : Step → State → State → Type 0
Takes (steps.Node entries d) s t =
    IsBelow d entries.now × (t ≡ record { front = node (cut d entries.now); saved = s.saved })
Takes steps.Save s t = t ≡ record { front = s.front; saved = s.front ∷ s.saved }
Takes (steps.Place entries d) s t =
    IsBelow d entries.now
    × (t ≡ record { front = nothing; saved = node (cut d entries.now) ∷ s.saved })
Takes (steps.Keep entries d) s t =
    (s.front ≡ node (cut d entries.now))
    × (t ≡ record { front = nothing; saved = node (cut d entries.now) ∷ s.saved })
Takes (steps.Last u) s t = TakesLast u s t
Takes (steps.Jump u) s t = TakesJump u s t
Takes (steps.Value u v) s t = TakesValue u v s t
Takes (steps.Split u) s t = TakesSplit u s t
Takes (steps.Run units value) s t = TakesRun units.now value s t
Takes (steps.Branch count value) s t = TakesBranch count value s t

-- The steps, the next one first, make a node of the map goal.
abbrev pub Gives : List Step → State → UnitMap → Type 0
Gives [] s goal = s ≡ record { front = node goal; saved = [] }
Gives (x ∷ others) s goal = (t : State) × Takes x s t × Gives others t goal

-- The remaining steps make a node of the map goal from what is in the units.
abbrev pub Leads : List ℕ → List ℕ → List KnownNode → List Step → UnitMap → Type 0
Leads units places known others goal =
    (s : State) × Stands units 0 s.front × AreSaved units places s.saved × Gives others s goal
    × AreKnown units known

-- The part of a branch with these arms. The first d units of their keys have been passed.
abbrev pub part_of : ℕ → List Arm → Piece
part_of d arms = part (length arms) (arm_units arms) (arm_map d arms)

-- The node of the entries below d, and of the empty key, if it has a value.
abbrev pub node_of : Option ℤ → ℕ → List Entry → Piece
node_of value d es = node (own_entry value ++ cut d es)

-- Steps were added that put a piece in front, in any state: the new steps make what the old steps
-- make when the piece is in front.
abbrev pub PutsInFront : List Step → List Step → Piece → Type 0
PutsInFront old new x = (s : State) (goal : UnitMap)
    → Gives (reverse old) (record { front = x; saved = s.saved }) goal → Gives (reverse new) s goal

-- The largest number of units in a trie of the entries below d, and of the empty key, if it has a
-- value.
abbrev pub room_of : Option ℤ → ℕ → List Entry → ℕ
room_of value d es = 16 * length (own_entry value) + room d es

-- The largest number of units in a lead.
abbrev pub lead_cost : Option ℤ → ℕ
lead_cost None = 1
lead_cost (Some v) = 3

-- The largest number of units that a step writes, together with the steps that it adds.
abbrev pub step_cost : Step → ℕ
step_cost (steps.Node entries d) = 1 + (room d entries.now - 7)
step_cost steps.Save = 1
step_cost (steps.Place entries d) = 3 + (room d entries.now - 7)
step_cost (steps.Keep entries d) = 1
step_cost (steps.Last u) = 1
step_cost (steps.Jump u) = 4
step_cost (steps.Value u v) = 4
step_cost (steps.Split u) = 4
step_cost (steps.Run units value) = lead_cost value + length units.now
step_cost (steps.Branch count value) = lead_cost value + 1

-- The largest number of units that all steps write.
abbrev pub cost : List Step → ℕ
cost [] = 0
cost (x ∷ others) = step_cost x + cost others

-- The arguments of a step are valid.
abbrev pub IsReady : Step → Type 0
IsReady (steps.Node entries d) = IsBelow d entries.now
IsReady steps.Save = Unit {0}
IsReady (steps.Place entries d) = IsBelow d entries.now
IsReady (steps.Keep entries d) = Unit {0}
IsReady (steps.Last u) = Unit {0}
IsReady (steps.Jump u) = Unit {0}
IsReady (steps.Value u v) = Unit {0}
IsReady (steps.Split u) = Unit {0}
IsReady (steps.Run units value) =
    (0 < length units.now) × (length units.now ≤ max_linear_match_length)
IsReady (steps.Branch count value) = (2 ≤ count) × (count ≤ 2 ^ 16)
