-- What a function leaves in the caller's buffer.
use Rattle.std.specs.Prelude.{List, ◌++◌, length, take, drop}

-- The buffer starts with the items, as many as fit. The rest of it is unchanged.
abbrev pub written : {T : Type 0} → List T → List T → List T
written items old = take (length old) items ++ drop (length items) old
