-- The writes of one statement more.
use Rattle.std.proofs.Common.{◌≡◌, List, [], ◌∷◌, ◌++◌, Option, Some, None, refl, ap}
use Rattle.std.specs.Prelude.{option_to_list}
use Rattle.std.specs.List.{filter_map, cons_option}
use Rattle.std.proofs.lemmas.List.Elements.{filter_map-append}
use Rattle.ucd_files.specs.Files.{explicit_write, missing_write}
use Rattle.ucd_files.specs.declared.statement.Statement.{Statement}

one_more : {A B : Type 0} (h : A → Option B) (xs : List A) (x : A)
    → filter_map h (xs ++ x ∷ []) ≡ filter_map h xs ++ option_to_list (h x)
one_more h xs x = rw (filter_map-append h xs (x ∷ [])) (ap (λ rest. filter_map h xs ++ rest) (as_list (h x))) where
  as_list : {B : Type 0} (said : Option B) → cons_option said [] ≡ option_to_list said
  as_list None = refl
  as_list (Some y) = refl

pub missing_push : (xs : List Statement) (x : Statement)
    → filter_map missing_write (xs ++ x ∷ []) ≡ filter_map missing_write xs ++ option_to_list (missing_write x)
missing_push xs x = one_more missing_write xs x

pub explicit_push : (xs : List Statement) (x : Statement)
    → filter_map explicit_write (xs ++ x ∷ []) ≡ filter_map explicit_write xs ++ option_to_list (explicit_write x)
explicit_push xs x = one_more explicit_write xs x
