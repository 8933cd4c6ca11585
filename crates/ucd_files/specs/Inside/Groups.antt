-- Names of values in groups, by their hash. A look-up compares the names of one group only.
use Rattle.std.specs.Prelude.{◌≡◌, ℕ, ◌+◌, ◌*◌, ◌%◌, ◌^◌, ◌==◌, nat_eq, List, [], Vec, Some, fold, map, slice_get}
use Rattle.std.specs.Global.{Global}
use Rattle.std.specs.HashMap.{HashMap, get}
use Rattle.std.specs.List.{filter}
use Rattle.std.specs.Option.{option_map_or}
use Rattle.ucd_files.specs.Names.{loose}
use Rattle.ucd_files.specs.declared.names.Name.{Name}

-- A hash with one more byte, in 64 bits.
unfoldable pub mixed : ℕ → ℕ → ℕ
mixed hash byte = (hash * 0x100000001b3 % 2 ^ 64 + byte) % 2 ^ 64

-- The hash of a name, of what is compared: names that are the same have the same hash.
unfoldable pub name_hash : List ℕ → ℕ
name_hash text = fold mixed 0 (loose text)

-- The names with this hash, in order.
abbrev pub with_hash : ℕ → List Name → List Name
with_hash hash names = filter (λ name. name_hash name.text.now == hash) names

-- The group of a hash: the indices of names. It is empty if the map has none.
abbrev pub group : {S : Type 0} → HashMap ℕ (Vec ℕ Global) S → ℕ → List ℕ
group groups hash = option_map_or (λ indices. indices.items) (get nat_eq groups hash) []

-- The group of each hash has the indices of the names with this hash, in order.
abbrev pub AreGroups : {S : Type 0} → HashMap ℕ (Vec ℕ Global) S → List Name → Type 0
AreGroups groups names = (hash : ℕ)
    → map (slice_get names) (group groups hash) ≡ map Some (with_hash hash names)
