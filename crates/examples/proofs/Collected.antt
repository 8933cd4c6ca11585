-- What an iterator yields and a function collects.
use Rattle.std.proofs.Common.{List, Option, Result, Ok, Err}
use Rattle.std.specs.Iterator.{Drains}
use Rattle.std.specs.Prelude.{IfOk, IfSome}
use Rattle.std.specs.Result.{result_ok}
use Rattle.std.proofs.lemmas.Iterator.{YieldsList}
use Rattle.std.proofs.lemmas.Iterator.Adapters.{fact_from_collect}

-- A function that takes all items returns what it states about these.
from_all : {S A V E : Type 0} {steps : S → Option A → S → Type 0} {s : S} {all : List A} (Q : List A → V → Type 0) (r : Result V E)
    → IfOk r (λ v. (xs : List A) × Drains steps s xs × Q xs v) → YieldsList steps (λ x. x) s all → IfOk r (λ v. Q all v)
from_all {E = E} Q (Ok v) told road =
    let run = told.1.1 in
    fact_from_collect {E = E} Q (Ok v) (told.0, (run.0, run.1, λ _. (told.1.0, run.2)), told.2) road
from_all Q (Err e) told road = tt

some_of_ok : {V E : Type 0} (P : V → Type 0) (r : Result V E) → IfOk r P → IfSome (result_ok r) P
some_of_ok P (Ok v) told = told
some_of_ok P (Err e) told = tt

-- The same of its result without the error.
pub some_from_all : {S A V E : Type 0} {steps : S → Option A → S → Type 0} {s : S} {all : List A} (Q : List A → V → Type 0) (r : Result V E)
    → IfOk r (λ v. (xs : List A) × Drains steps s xs × Q xs v) → YieldsList steps (λ x. x) s all → IfSome (result_ok r) (λ v. Q all v)
some_from_all Q r told road = some_of_ok (Q _) r (from_all Q r told road)
