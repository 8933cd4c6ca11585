-- The merge into a buffer that may be too short.
use Rattle.std.proofs.Common.{◌≡◌, ℕ, ◌+◌, ◌-◌, ◌<◌, ◌≤◌, ◌^◌, List, [], ◌∷◌, ◌++◌, length, set, take, drop, get_or, refl, ap, sym, ◌∙◌, subst, arith, zero, suc, min, append_assoc, Bool, true, false, not, inl, inr}
use Rattle.std.specs.Prelude.{if◌then◌else◌, ◌⊎◌}
use Rattle.std.proofs.lemmas.List.{append-nil, drop-drop, drop-set-lt, length-append, length-drop, length-set, length_push, set_past, take-append-drop}
use Rattle.icu_invlist.specs.InversionList.{is_odd, IsValid}
use Rattle.icu_invlist.specs.Inside.Merging.{Merging, MovesOver}
use Rattle.icu_zerovec.specs.Buffers.{written}
use Rattle.icu_invlist.specs.Merge.{HasMerged}
use Rattle.icu_invlist.specs.Inside.MergeSteps.{MergeSteps, filled, filled_from}
use Rattle.std.proofs.Math.Seq.{take-suc-set}
use mathlib.Core.Bool.{beq}
use Rattle.icu_invlist.proofs.Merging.{merged_step, none_yet, rests, odd_more, moves_within, turned, turned_both, TurnsAtBoth}
use Rattle.icu_invlist.proofs.PlaceLemmas.{valid-length}

-- ---- the buffer
pub put_fits : (ends base : List ℕ) (n : ℕ) → set (filled ends base) (length ends) n ≡ filled (ends ++ n ∷ []) base
unfolding filled
put_fits [] [] n = refl
put_fits [] (o ∷ os) n = refl
put_fits (x ∷ xs) [] n = refl
put_fits (x ∷ xs) (o ∷ os) n = ap (λ (ys : List ℕ). x ∷ ys) (put_fits xs os n)

append_one : (xs ys : List ℕ) (n : ℕ) → (xs ++ n ∷ []) ++ ys ≡ xs ++ (n ∷ ys)
append_one [] ys n = refl
append_one (x ∷ xs) ys n = ap (λ (zs : List ℕ). x ∷ zs) (append_one xs ys n)

-- What is put after the items stands after them.
pub write_after : (ends base xs : List ℕ) → filled_from (filled ends base) (length ends) xs ≡ filled (ends ++ xs) base
unfolding filled_from filled
write_after ends base [] = ap (λ (ys : List ℕ). filled ys base) (sym (append-nil ends))
write_after ends base (x ∷ xs) =
    ap (λ (ys : List ℕ). filled_from ys (suc (length ends)) xs) (put_fits ends base x)
    ∙ (ap (λ (k : ℕ). filled_from (filled (ends ++ x ∷ []) base) k xs) (sym (let l = length_push ends x in omega arith))
    ∙ (write_after (ends ++ x ∷ []) base xs ∙ ap (λ (ys : List ℕ). filled ys base) (append_one ends xs x)))

-- ---- one step
-- The steps after a boundary that is written if `keep` is true.
abbrev After : (Bool → Bool → Bool) → List ℕ → List ℕ → List ℕ → List ℕ → ℕ → ℕ → ℕ → ℕ → Bool → Type 0
After f a b base out p q w n keep = MergeSteps f a b base (if keep then set out w n else out) p q (if keep then w + 1 else w)

walks_step : (f : Bool → Bool → Bool) (a b base out : List ℕ) (w i j n p q : ℕ) → MergeSteps f a b base out i j w → i < length a → j < length b
    → MovesOver n a i p → MovesOver n b j q → i + j < p + q
    → After f a b base out p q w n (not (beq (f (is_odd p) (is_odd q)) (f (is_odd i) (is_odd j))))
walks_step f a b base out w i j n p q s hi hj x y on =
    both (f (is_odd i) (is_odd j)) (f (is_odd p) (is_odd q)) refl refl
  where
    m : Merging f a b s.ends s.merged.passed i j
    m = s.merged.so_far

    stays : (v : Bool) → v ≡ f (is_odd i) (is_odd j) → v ≡ f (is_odd p) (is_odd q) → MergeSteps f a b base out p q w
    stays v e o = record {
      valid = s.valid;
      first = moves_within n a i p x hi;
      second = moves_within n b j q y hj;
      ends = s.ends;
      merged = record {
        passed = suc n;
        so_far =
            rw (append-nil s.ends) at (merged_step f a b s.ends [] s.merged.passed i j n p q m s.valid.0 s.valid.1 hi hj x y on tt
            (rw (append-nil s.ends) (m.parity ∙ (sym e ∙ o))));
      };
      count = s.count;
      few = (let k = s.few in omega arith);
      buffer = s.buffer;
    }

    grows : (v : Bool) → not v ≡ f (is_odd i) (is_odd j) → v ≡ f (is_odd p) (is_odd q) → MergeSteps f a b base (set out w n) p q (w + 1)
    grows v e o = record {
      valid = s.valid;
      first = moves_within n a i p x hi;
      second = moves_within n b j q y hj;
      ends = s.ends ++ n ∷ [];
      merged = record {
        passed = suc n;
        so_far =
            merged_step f a b s.ends (n ∷ []) s.merged.passed i j n p q m s.valid.0 s.valid.1 hi hj x y on (omega arith, omega arith, tt)
            (ap is_odd (length_push s.ends n) ∙ (odd_more _ v (m.parity ∙ sym e) ∙ o));
      };
      count = (let l = length_push s.ends n in let k = s.count in omega arith);
      few = (let k = s.few in omega arith);
      buffer = rw (s.buffer, s.count) (put_fits s.ends base n);
    }

    both : (held now : Bool) → held ≡ f (is_odd i) (is_odd j) → now ≡ f (is_odd p) (is_odd q)
        → After f a b base out p q w n (not (beq now held))
    both true true e o = stays true e o
    both false false e o = stays false e o
    both true false e o = grows false e o
    both false true e o = grows true e o

pub walks_first : (f : Bool → Bool → Bool) (a b base out : List ℕ) (w i j : ℕ) → MergeSteps f a b base out i j w → i < length a → j < length b
    → get_or a i 0 < get_or b j 0
    → After f a b base out (i + 1) j w (get_or a i 0) (not (beq (f true (is_odd j)) (f false (is_odd j))))
walks_first f a b base out w i j s hi hj h = subst (λ (k : Bool). After f a b base out (i + 1) j w (get_or a i 0) k)
    (turned (λ x. f x (is_odd j)) i)
    (walks_step f a b base out w i j (get_or a i 0) (i + 1) j s hi hj
    (record { least = omega arith; place = inl (refl, refl) }) (record { least = omega arith; place = inr (h, refl) }) (omega arith))

pub walks_second : (f : Bool → Bool → Bool) (a b base out : List ℕ) (w i j : ℕ) → MergeSteps f a b base out i j w → i < length a → j < length b
    → get_or b j 0 < get_or a i 0
    → After f a b base out i (j + 1) w (get_or b j 0) (not (beq (f (is_odd i) true) (f (is_odd i) false)))
walks_second f a b base out w i j s hi hj h = subst (λ (k : Bool). After f a b base out i (j + 1) w (get_or b j 0) k)
    (turned (λ y. f (is_odd i) y) j)
    (walks_step f a b base out w i j (get_or b j 0) i (j + 1) s hi hj
    (record { least = omega arith; place = inr (h, refl) }) (record { least = omega arith; place = inl (refl, refl) }) (omega arith))

pub walks_both : (f : Bool → Bool → Bool) (a b base out : List ℕ) (w i j : ℕ) → MergeSteps f a b base out i j w → i < length a → j < length b
    → get_or a i 0 ≡ get_or b j 0
    → After f a b base out (i + 1) (j + 1) w (get_or a i 0) (TurnsAtBoth f (is_odd i) (is_odd j))
walks_both f a b base out w i j s hi hj e = subst (λ (k : Bool). After f a b base out (i + 1) (j + 1) w (get_or a i 0) k)
    (turned_both f i j)
    (walks_step f a b base out w i j (get_or a i 0) (i + 1) (j + 1) s hi hj
    (record { least = omega arith; place = inl (refl, refl) }) (record { least = omega arith; place = inl (sym e, refl) }) (omega arith))

pub walks_none : (f : Bool → Bool → Bool) (a b base : List ℕ) → f false false ≡ false → IsValid a → IsValid b → MergeSteps f a b base base 0 0 0
unfolding filled
walks_none f a b base e v w = record {
  valid = (v, w);
  first = omega arith;
  second = omega arith;
  ends = [];
  merged = record { passed = 0; so_far = none_yet f a b e };
  count = refl;
  few = omega arith;
  buffer = refl;
}

-- ---- the end
filled_is : (xs old : List ℕ) → filled xs old ≡ written xs old
unfolding filled
filled_is [] [] = refl
filled_is [] (y ∷ ys) = refl
filled_is (x ∷ xs) [] = refl
filled_is (x ∷ xs) (y ∷ ys) = ap (λ (zs : List ℕ). x ∷ zs) (filled_is xs ys)

-- One of the lists is used up, and the rest of either is written if it is wanted.
pub has_merged : (f : Bool → Bool → Bool) (a b base out out1 new : List ℕ) (i j w p q n1 n : ℕ) → f false false ≡ false
    → MergeSteps f a b base out i j w
    → (i ≡ length a) ⊎ (j ≡ length b)
    → p ≡ (if f true false then i else length a) → q ≡ (if f false true then j else length b)
    → out1 ≡ filled_from out w (drop p a) → n1 ≡ w + (length a - p)
    → new ≡ filled_from out1 n1 (drop q b) → n ≡ n1 + (length b - q)
    → HasMerged f a b base new n
has_merged f a b base out out1 new i j w p q n1 n none s passed k l e1 c1 e2 c2 =
    let all = rests f a b s.ends i j p q none s.merged s.valid.0 s.valid.1 s.first s.second passed k l in
    let d1 = length-append s.ends (drop p a) in
    let d2 = length-append (s.ends ++ drop p a) (drop q b) in
    let g1 = length-drop p a in
    let g2 = length-drop q b in
    let m1 : n1 ≡ length (s.ends ++ drop p a) = (let x = s.count in omega arith) in
    let o1 : out1 ≡ filled (s.ends ++ drop p a) base = e1 ∙ (rw (s.buffer, s.count) (write_after s.ends base (drop p a))) in
    record {
      ends = (s.ends ++ drop p a) ++ drop q b;
      valid = all.0;
      set = all.1;
      count = omega arith;
      buffer = e2 ∙ (rw (o1, m1) (write_after (s.ends ++ drop p a) base (drop q b)) ∙ filled_is ((s.ends ++ drop p a) ++ drop q b) base);
    }

-- Past the end of the buffer nothing is put.
write_past : (out xs : List ℕ) (w : ℕ) → length out ≤ w → filled_from out w xs ≡ out
unfolding filled_from
write_past out [] w h = refl
write_past out (x ∷ xs) w h = rw (set_past out w x h) (write_past out xs (suc w) (omega arith))

-- If there is no item, or no room, nothing is put.
pub write_nothing : (out xs : List ℕ) (w : ℕ) → min (length xs) (length out - w) ≡ 0 → filled_from out w xs ≡ out
unfolding filled_from
write_nothing out [] w h = refl
write_nothing out (x ∷ xs) w h = write_past out (x ∷ xs) w (omega arith)

-- Items that are put one by one are put as a slice, as many as fit.
pub write_slice : (out xs : List ℕ) (w n : ℕ) → w ≤ length out → n ≡ min (length xs) (length out - w)
    → filled_from out w xs ≡ take w out ++ (take n xs ++ drop n (drop w out))
unfolding filled_from
write_slice out [] w zero h e = sym (take-append-drop w out)
write_slice out [] w (suc n) h e = absurd (omega arith)
write_slice out (x ∷ xs) w zero h e = write_past out (x ∷ xs) w (omega arith) ∙ sym (take-append-drop w out)
write_slice out (x ∷ xs) w (suc n) h e =
    let i : w < length out = omega arith in
    let rest : drop n (drop (suc w) (set out w x)) ≡ drop (suc n) (drop w out) =
    ap (drop n) (drop-set-lt (suc w) out w x (omega arith)) ∙ (drop-drop n (suc w) out ∙ (ap (λ k. drop k out) (omega arith) ∙ sym (drop-drop (suc n) w out))) in
    write_slice (set out w x) xs (suc w) n (omega (arith, length-set out w x)) (omega (arith, length-set out w x))
    ∙ (rw (take-suc-set out w x i, rest) (append_assoc (take w out) (x ∷ []) (take n xs ++ drop (suc n) (drop w out))))

-- There is a next index.
pub walks_small : (f : Bool → Bool → Bool) (a b base out : List ℕ) (i j w : ℕ) → MergeSteps f a b base out i j w → w + 1 < 2 ^ 64
walks_small f a b base out i j w s =
    let x = s.few in let y = s.first in let z = s.second in
    let u = valid-length a s.valid.0 in let v = valid-length b s.valid.1 in omega arith

least_cond : (t : Bool) (i l p : ℕ) → i ≤ l → p ≡ (if t then i else l) → i ≤ p
least_cond true i l p h e = omega arith
least_cond false i l p h e = omega arith

pub few_filled : (f : Bool → Bool → Bool) (a b base out : List ℕ) (i j w p q n1 n : ℕ) → MergeSteps f a b base out i j w
    → p ≡ (if f true false then i else length a) → q ≡ (if f false true then j else length b)
    → n1 ≡ w + (length a - p) → n ≡ n1 + (length b - q) → n ≤ length a + length b
few_filled f a b base out i j w p q n1 n s k l c1 c2 =
    let x = least_cond (f true false) i (length a) p s.first k in
    let y = least_cond (f false true) j (length b) q s.second l in
    let u = s.few in let v = s.first in let z = s.second in omega arith

-- A list that fits stands in the buffer as a whole.
pub written_fits : (ends base : List ℕ) → length ends ≤ length base → take (length ends) (written ends base) ≡ ends
written_fits [] base h = refl
written_fits (x ∷ xs) [] h = absurd (omega arith)
written_fits (x ∷ xs) (y ∷ ys) h = ap (λ (zs : List ℕ). x ∷ zs) (written_fits xs ys (omega arith))

pub length-written : (ends base : List ℕ) → length (written ends base) ≡ length base
length-written [] [] = refl
length-written [] (y ∷ ys) = refl
length-written (x ∷ xs) [] = refl
length-written (x ∷ xs) (y ∷ ys) = ap suc (length-written xs ys)
