-- The same names, and fields.
use Rattle.std.proofs.Common.{◌≡◌, ◌<◌, ◌-◌, ◌+◌, ℕ, suc, true, false, [], ◌∷◌, List, Option, Some, None, refl, sym, eq-eqb, arith}
use Rattle.std.specs.Prelude.{nat_eq, IfNone, IfSome, is_none}
use Rattle.std.proofs.lemmas.Bool.{eqb-true, false_from_ne_true}
use Rattle.ucptab_table.specs.TableText.{after}
use Rattle.ucd_files.specs.Fields.{part}
use Rattle.ucd_files.specs.Names.{is_alike, loose}

module _ (left right left_after right_after : List ℕ) (b other : ℕ) (is : loose left ≡ b ∷ loose left_after)
    (is_right : loose right ≡ other ∷ loose right_after)
  where
    -- Names with the same first byte are the same if what follows is.
    pub same_more : other ≡ b → is_alike left right ≡ is_alike left_after right_after
    unfolding is_alike
    same_more same = let equal : nat_eq b other ≡ true = eq-eqb b other (sym same) in rw (is, is_right, equal) refl

    -- Names with another first byte are not the same.
    pub same_not : ¬ (other ≡ b) → is_alike left right ≡ false
    unfolding is_alike
    same_not different =
        let unequal : nat_eq b other ≡ false =
        false_from_ne_true (nat_eq b other) (λ e. different (sym (eqb-true b other e))) in
        rw (is, is_right, unequal) refl

-- A name with a first byte is not the same as one without.
pub same_short : (left right after : List ℕ) (b : ℕ) → loose left ≡ b ∷ after → loose right ≡ [] → is_alike left right ≡ false
unfolding is_alike
same_short left right after b is none = rw (is, none) refl

-- A name without a byte that counts is the same as another one.
pub same_end : {X : Type 0} (left right : List ℕ) (r : Option X) (byte : X → ℕ) (after : X → List ℕ) → loose left ≡ []
    → IfNone r (loose right ≡ []) → IfSome r (λ x. loose right ≡ byte x ∷ after x) → is_none r ≡ is_alike left right
unfolding is_alike
same_end left right None byte after none is some = rw (none, is) refl
same_end left right (Some x) byte after none is some = rw (none, some) refl

-- A part after the first one is a part of what follows the first separator.
pub part_more : (separator n i : ℕ) (content : List ℕ) → i < n
    → part separator (n - i) content ≡ part separator (n - (i + 1)) (after separator content)
part_more separator n i content below = let step : n - i ≡ suc (n - (i + 1)) = omega arith in rw step refl
