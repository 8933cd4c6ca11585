-- The entries of a branch, one after another.
use Rattle.std.proofs.Common.{◌≡◌, ℕ, ℤ, ◌+◌, ◌<◌, ◌≤◌, List, [], ◌∷◌, ◌++◌, Some, true, false, nat_eq, refl, sym, ap, subst, ◌∙◌, arith, slice_get, append_assoc}
use Rattle.std.proofs.lemmas.Bool.{ne_eqb, eq-eqb}
use Rattle.std.proofs.lemmas.Option.{same_Some}
use Rattle.icu_char16trie.specs.Grammar.{Part, Holds, Matches, Children, none, more}
use Rattle.icu_char16trie.specs.UnitMap.{under}
use Rattle.icu_char16trie.specs.Pending.{ArmsHold}
use Rattle.icu_char16trie.proofs.NodeLemmas.{matches_branch, no_cons}

pub under_append : (front : List ℕ) (m n : List (List ℕ × ℤ)) → under front (m ++ n) ≡ under front m ++ under front n
under_append front [] n = refl
under_append front (e ∷ m) n = ap (λ z. (front ++ e.0, e.1) ∷ z) (under_append front m n)

pub under_under : (front more' : List ℕ) (m : List (List ℕ × ℤ)) → under front (under more' m) ≡ under (front ++ more') m
under_under front more' [] = refl
under_under front more' (e ∷ m) = rw (sym (append_assoc front more' e.0))
    (ap (λ z. ((front ++ more') ++ e.0, e.1) ∷ z) (under_under front more' m))

pub record TwoParts (units : List ℕ) (lower upper : List (ℕ × ℕ)) (m : List (List ℕ × ℤ)) : Type 0 where
  pub low : List (List ℕ × ℤ)
  pub high : List (List ℕ × ℤ)
  pub below : Children units lower low
  pub above : Children units upper high
  pub is : m ≡ low ++ high

pub children_split : (units : List ℕ) {arms : List (ℕ × ℕ)} {m : List (List ℕ × ℤ)} → Children units arms m → (lower upper : List (ℕ × ℕ))
    → arms ≡ lower ++ upper → TwoParts units lower upper m
children_split units {m = m} c [] upper h = record { low = []; high = m; below = none [] [] refl refl; above = rw (sym h) c; is = refl }
children_split units (none arms m a e) (x ∷ lower) upper h = absurd (no_cons (sym a ∙ h))
children_split units (more u q rest arms m others all a node c e) (x ∷ lower) upper h =
    let same : rest ≡ lower ++ upper = cc (a, h) in
    let head : x ≡ (u, q) = cc (a, h) in
    let r = children_split units c lower upper same in
    record {
      low = under (u ∷ []) m ++ r.low;
      high = r.high;
      below = more u q lower (x ∷ lower) m r.low (under (u ∷ []) m ++ r.low) (ap (λ z. z ∷ lower) head) node r.below refl;
      above = r.above;
      is = e ∙ ap (λ z. under (u ∷ []) m ++ z) r.is ∙ sym (append_assoc (under (u ∷ []) m) r.low r.high);
    }

pub record FirstAndOthers (units : List ℕ) (q u : ℕ) (rest : List (ℕ × ℕ)) (m : List (List ℕ × ℤ)) : Type 0 where
  pub first : List (List ℕ × ℤ)
  pub others : List (List ℕ × ℤ)
  pub node : Holds units q first
  pub children : Children units rest others
  pub is : m ≡ under (u ∷ []) first ++ others

pub children_cons : (units : List ℕ) {arms : List (ℕ × ℕ)} {m : List (List ℕ × ℤ)} → Children units arms m → (u q : ℕ) (rest : List (ℕ × ℕ))
    → arms ≡ (u, q) ∷ rest → FirstAndOthers units q u rest m
children_cons units (none arms m a e) u q rest h = absurd (no_cons (sym a ∙ h))
children_cons units (more u' q' rest' arms m others all a node c e) u q rest h =
    let same : rest' ≡ rest = cc (a, h) in
    let both : ◌≡◌ {A = ℕ × ℕ} (u', q') (u, q) = cc (a, h) in
    let su : u' ≡ u = ap (λ z. z.0) both in
    let sq : q' ≡ q = ap (λ z. z.1) both in
    record { first = m; others = others; node = rw (← sq) node; children = rw (← same) c; is = e ∙ ap (λ z. under (z ∷ []) m ++ others) su }

pub children_nil : (units : List ℕ) {arms : List (ℕ × ℕ)} {m : List (List ℕ × ℤ)} → Children units arms m → arms ≡ [] → m ≡ []
children_nil units (none arms m a e) h = e
children_nil units (more u q rest arms m others all a node c e) h = absurd (no_cons (sym h ∙ a))

-- The part with all entries of a branch.
pub branch_plain : (units : List ℕ) {p low : ℕ} {m : List (List ℕ × ℤ)} → Matches units p low m → low < 0x30 → 0 < low
    → ArmsHold units p (low + 1) m
branch_plain units {p = p} {low = low} {m = m} h lt pos =
    let b = matches_branch units h lt in
    let not_zero : nat_eq low 0 ≡ false = ne_eqb low 0 (λ e. absurd (omega arith)) in
    let len : b.n ≡ low = sym (same_Some low b.n (rw not_zero at b.len)) in
    let part : Part units p (b.n + 1) b.arms = rw not_zero at b.part in
    (b.arms, subst (λ z. Part units p (z + 1) b.arms) len part, b.children)

pub branch_long : (units : List ℕ) {p low : ℕ} {m : List (List ℕ × ℤ)} → Matches units p low m → low ≤ 0 → (n : ℕ)
    → slice_get units p ≡ Some n → ArmsHold units (p + 1) (n + 1) m
branch_long units {p = p} {low = low} {m = m} h zero' n g =
    let b = matches_branch units h (omega arith) in
    let is_zero : nat_eq low 0 ≡ true = eq-eqb low 0 (omega arith) in
    let at : slice_get units p ≡ Some b.n = rw is_zero at b.len in
    let len : b.n ≡ n = same_Some b.n n (sym at ∙ g) in
    let part : Part units (p + 1) (b.n + 1) b.arms = rw is_zero at b.part in
    (b.arms, subst (λ z. Part units (p + 1) (z + 1) b.arms) len part, b.children)
