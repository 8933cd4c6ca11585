-- The names of values as lines `NUMBER;NAME`.
use Rattle.std.specs.Prelude.{ℕ, Bool, false, Option, Some, None, List, [], ◌++◌, codes, decimal, nat_le, if◌then◌else◌}
use Rattle.std.specs.Borrow.{Bor}
use Rattle.std.specs.BTreeMap.{insert_entry, is_at}
use Rattle.std.specs.List.{flat_map, fold}
use Rattle.std.specs.Map.{lookup}
use Rattle.std.specs.Ordering.{nat_cmp}
use Rattle.ucd_files.specs.declared.names.Name.{Name}
use Rattle.ucptrie_names.specs.ValueIdentifiers.{name_length}

-- Numbers with their names, in ascending order of the numbers.
abbrev pub Entries : Type 0
Entries = List (ℕ × Bor (List ℕ))

-- The name that a number has so far has at least as many bytes as this one. A name of digits alone
-- counts as empty.
abbrev pub is_as_long : Option (Bor (List ℕ)) → Name → Bool
is_as_long None name = false
is_as_long (Some text) name = nat_le (name_length name.text.now) (name_length text.now)

-- The entries with a name: its number has it from now on, unless the number has one that is as
-- long. So of several names of a number the longest one stays, and of several of these the first.
abbrev pub with_longest : Entries → Name → Entries
with_longest entries name = if is_as_long (lookup (is_at (nat_cmp name.number)) entries) name
    then entries else insert_entry nat_cmp entries name.number name.text

-- The line of a number: `NUMBER;NAME`.
abbrev pub named_line : ℕ → List ℕ → List ℕ
named_line number name = decimal number ++ codes ";" ++ name ++ codes "\n"

-- The lines of entries.
abbrev pub lines_of : Entries → List ℕ
lines_of entries = flat_map (λ e. named_line e.0 e.1.now) entries

-- The lines of all numbers that have a name, in ascending order.
abbrev pub names_list : List Name → List ℕ
names_list names = lines_of (fold with_longest [] names)
