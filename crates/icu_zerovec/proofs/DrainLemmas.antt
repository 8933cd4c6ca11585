-- What an iterator yielded until its end, for callers of `ZeroVec::alloc_from_iter`.
use Rattle.std.proofs.Common.{◌≡◌, List, Option, map}
use Rattle.std.specs.Iterator.{Drains}
use Rattle.std.proofs.lemmas.Iterator.{YieldsList, items_from_drains}

-- An iterator that can only yield one list yielded that list. v is `λ x. x`, or `λ x. x.now` for
-- references.
pub drained_list : {S A B : Type 0} {steps : S → Option A → S → Type 0} {v : A → B} {s : S} {all : List B} (xs : List A) → Drains steps s xs
    → YieldsList steps v s all → map v xs ≡ all
drained_list xs d y = items_from_drains xs (d.1.0, d.1.1, λ _. (d.0, d.1.2)) y
