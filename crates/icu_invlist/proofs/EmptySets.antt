-- Operations with the empty set.
use Rattle.std.proofs.Common.{◌≡◌, ℕ, List, [], Bool, refl, sym, ◌∙◌, true, false}
use Rattle.std.proofs.lemmas.Bool.{true≢false}
use Rattle.icu_invlist.specs.InversionList.{Acts, IsSubset, IsValid, either, holds, one_of, without}
use Rattle.icu_invlist.proofs.EqualSets.{same_sets}
use Rattle.icu_invlist.proofs.Parity.{holds-ends_below}

none_held : (xs : List ℕ) (c : ℕ) → xs ≡ [] → holds xs c ≡ false
none_held xs c e = rw e (holds-ends_below [] c)

pub either_none : (x : Bool) → either x false ≡ x
either_none true = refl
either_none false = refl

pub without_none : (x : Bool) → without x false ≡ x
without_none true = refl
without_none false = refl

pub one_of_none : (x : Bool) → one_of x false ≡ x
one_of_none true = refl
one_of_none false = refl

pub unchanged : (f : Bool → Bool → Bool) (old set : List ℕ) → ((x : Bool) → f x false ≡ x) → set ≡ [] → Acts f old (holds set) old
unchanged f old set k e c h = rw (none_held set c e) (sym (k (holds old c)))

-- Only the set itself is the result.
pub the_same : (old set new : List ℕ) → set ≡ [] → IsValid old → IsValid new → Acts one_of old (holds set) new → new ≡ old
the_same old set new e v w h = same_sets new old w v (λ c k. h c k ∙ sym (unchanged one_of old set one_of_none e c k))

pub none_within : (part whole : List ℕ) → part ≡ [] → IsSubset part whole
none_within part whole e c h k = absurd (true≢false (sym k ∙ none_held part c e))
