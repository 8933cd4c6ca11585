use Rattle.std.proofs.Common.{◌≡◌, ◌∙◌, sym, IfSome, Some, None, Option, ℕ, List}
use Rattle.icu_invlist.specs.SetJson.{range_at, IsRange}
use Rattle.icu_invlist.proofs.TextLemmas.{range_found, range_only}
use Rattle.icu_invlist.proofs.spelling.range_of.Goals as goal

found_of : (cs : List ℕ) (r : Option (ℕ × ℕ)) → r ≡ range_at cs → IfSome r (λ x. IsRange cs x.0 x.1)
found_of cs None e = tt
found_of cs (Some x) e = range_found cs x.0 x.1 (sym e)

pub returns-clause-found : goal.returns-clause-found
returns-clause-found c = found_of _ _ c.range_at.ensures.exact

pub returns-clause-only : goal.returns-clause-only
returns-clause-only c = λ a b h. c.range_at.ensures.exact ∙ range_only _ a b h
