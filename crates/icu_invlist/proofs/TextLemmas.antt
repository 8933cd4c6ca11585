-- The reader of a text agrees with the grammar.
use Rattle.std.proofs.Common.{◌≡◌, ℕ, ◌+◌, ◌*◌, ◌<◌, List, [], ◌∷◌, ◌++◌, Option, Some, None, Bool, true, false, cond, nat_eq, nat_lt, option_and_then, inl, inr, refl, sym, ap, subst, append-nil, ◌∙◌, arith}
use Rattle.std.specs.Char.{digit_value}
use Rattle.std.proofs.lemmas.Bool.{eqb-true, lt-ltb, ltb-true}
use Rattle.icu_invlist.specs.SetJson.{IsHex, IsPoint, IsRange, digit_at, hex_at, point_at, last_point, second_point, range_from, range_at}

guard_some : {A : Type 0} (b : Bool) (x y : A) → cond b (Some x) None ≡ Some y → (b ≡ true) × (x ≡ y)
guard_some true x y h = (refl, cc)
guard_some false x y h = absurd cc

record TakesDigit (n : ℕ) (cs : List ℕ) (x : ℕ × List ℕ) : Type 0 where
  c : ℕ
  is : cs ≡ c ∷ x.1
  digit : digit_value c < 16
  value : x.0 ≡ n * 16 + digit_value c

digit_takes : (n : ℕ) (cs : List ℕ) (x : ℕ × List ℕ) → digit_at n cs ≡ Some x → TakesDigit n cs x
unfolding digit_at
digit_takes n [] x h = absurd cc
digit_takes n (c ∷ cs) x h =
    let g = guard_some (nat_lt (digit_value c) 16) (n * 16 + digit_value c, cs) x h in
    record { c = c; is = ap (λ z. c ∷ z.1) g.1; digit = ltb-true (digit_value c) 16 g.0; value = sym (ap (λ z. z.0) g.1) }

digit_again : (n c : ℕ) (cs : List ℕ) → digit_value c < 16 → digit_at n (c ∷ cs) ≡ Some (n * 16 + digit_value c, cs)
unfolding digit_at
digit_again n c cs h = rw (lt-ltb (digit_value c) 16 h) refl

bind_some : {A B : Type 0} (r : Option A) (f : A → Option B) (y : B) → option_and_then f r ≡ Some y
    → (x : A) × (r ≡ Some x) × (f x ≡ Some y)
bind_some None f y h = absurd cc
bind_some (Some x) f y h = (x, refl, h)

-- Four digits at the start.
record TakesHex (cs : List ℕ) (x : ℕ × List ℕ) : Type 0 where
  digits : List ℕ
  is : cs ≡ digits ++ x.1
  hex : IsHex digits x.0

hex_takes : (cs : List ℕ) (x : ℕ × List ℕ) → hex_at cs ≡ Some x → TakesHex cs x
unfolding hex_at
hex_takes cs x h =
    let s = bind_some (digit_at 0 cs) _ x h in
    let t = bind_some (digit_at s.0.0 s.0.1) _ x s.2 in
    let u = bind_some (digit_at t.0.0 t.0.1) _ x t.2 in
    let a = digit_takes 0 cs s.0 s.1 in
    let b = digit_takes s.0.0 s.0.1 t.0 t.1 in
    let c = digit_takes t.0.0 t.0.1 u.0 u.1 in
    let d = digit_takes u.0.0 u.0.1 x u.2 in
    record {
      digits = a.c ∷ b.c ∷ c.c ∷ d.c ∷ [];
      is = a.is ∙ ap (λ z. a.c ∷ z) (b.is ∙ ap (λ z. b.c ∷ z) (c.is ∙ ap (λ z. c.c ∷ z) d.is));
      hex = record {
        a = a.c;
        b = b.c;
        c = c.c;
        d = d.c;
        is = refl;
        digits = (a.digit, b.digit, c.digit, d.digit);
        value = d.value ∙ ap (λ z. z * 16 + digit_value d.c)
            (c.value ∙ ap (λ z. z * 16 + digit_value c.c) (b.value ∙ ap (λ z. z * 16 + digit_value b.c) (a.value ∙ omega arith)));
      };
    }

hex_again : (digits rest : List ℕ) (n : ℕ) → IsHex digits n → hex_at (digits ++ rest) ≡ Some (n, rest)
unfolding hex_at
hex_again digits rest n h =
    rw h.is (rw (
      digit_again 0 h.a _ h.digits.0,
      digit_again _ h.b _ h.digits.1,
      digit_again _ h.c _ h.digits.2,
      digit_again _ h.d rest h.digits.3,
    ) (ap (λ z. Some (z, rest)) (omega (arith, h.value))))

record TakesPoint (cs : List ℕ) (x : ℕ × List ℕ) : Type 0 where
  front : List ℕ
  is : cs ≡ front ++ x.1
  point : IsPoint front x.0

either : {A : Type 0} (b : Bool) (x : A) → cond b x x ≡ x
either true x = refl
either false x = refl

chosen : {A : Type 0} (b : Bool) (x : Option A) (y : A) → cond b x None ≡ Some y → (b ≡ true) × (x ≡ Some y)
chosen true x y h = (refl, h)
chosen false x y h = absurd cc

some_same : {A : Type 0} {x y : A} → Some x ≡ Some y → x ≡ y
some_same h = cc

one_char : (c : ℕ) (cs : List ℕ) (x : ℕ × List ℕ) → ◌≡◌ {A = Option (ℕ × List ℕ)} (Some (c, cs)) (Some x) → TakesPoint (c ∷ cs) x
one_char c cs x h =
    let e : ◌≡◌ {A = ℕ × List ℕ} (c, cs) x = some_same h in
    record { front = c ∷ []; is = ap (λ z. c ∷ z.1) e; point = inl (ap (λ z. z.0 ∷ []) e) }

two_chars : (c d : ℕ) (cs : List ℕ) (x : ℕ × List ℕ) (a b : Bool) → (a ≡ true → c ≡ 0x55) → (b ≡ true → d ≡ 0x2B)
    → cond a (cond b (hex_at cs) (Some (c, d ∷ cs))) (Some (c, d ∷ cs)) ≡ Some x → TakesPoint (c ∷ d ∷ cs) x
two_chars c d cs x true true ea eb h =
    let t = hex_takes cs x h in
    record {
      front = 0x55 ∷ 0x2B ∷ t.digits;
      is = ap (λ z. c ∷ d ∷ z) t.is ∙ ap (λ z. z ∷ d ∷ (t.digits ++ x.1)) (ea refl) ∙ ap (λ z. 0x55 ∷ z ∷ (t.digits ++ x.1)) (eb refl);
      point = inr (t.digits, refl, t.hex);
    }
two_chars c d cs x true false ea eb h = one_char c (d ∷ cs) x h
two_chars c d cs x false b ea eb h = one_char c (d ∷ cs) x h

point_takes : (cs : List ℕ) (x : ℕ × List ℕ) → point_at cs ≡ Some x → TakesPoint cs x
unfolding point_at
point_takes [] x h = absurd cc
point_takes (c ∷ []) x h = one_char c [] x h
point_takes (c ∷ d ∷ cs) x h = two_chars c d cs x (nat_eq c 0x55) (nat_eq d 0x2B) (eqb-true c 0x55) (eqb-true d 0x2B) h

-- A text that may follow a code point: empty, or not starting with +.
abbrev Follows : List ℕ → Type 0
Follows [] = Unit {0}
Follows (c ∷ cs) = nat_eq c 0x2B ≡ false

point_again : (front rest : List ℕ) (p : ℕ) → IsPoint front p → Follows rest → point_at (front ++ rest) ≡ Some (p, rest)
unfolding point_at
point_again front [] p (inl e) f = rw e refl
point_again front (c ∷ rest) p (inl e) f = rw (e, f) (either (nat_eq p 0x55) (Some (p, c ∷ rest)))
point_again front rest p (inr (digits, e, h)) f = rw e (hex_again digits rest p h)

from_back : (cs front middle rest : List ℕ) (a x b : ℕ) (r : Option (ℕ × List ℕ)) → ((y : ℕ × List ℕ) → r ≡ Some y → TakesPoint rest y)
    → cs ≡ front ++ (middle ++ rest) → IsPoint front x
    → IsPoint middle 0x2D → last_point x r ≡ Some (a, b) → IsRange cs a b
from_back cs front middle rest a x b None t e p m h = absurd cc
from_back cs front middle rest a x b (Some (y, [])) t e p m h =
    let both : ◌≡◌ {A = ℕ × ℕ} (x, y) (a, b) = some_same h in
    let k = t (y, []) refl in
    let pa : IsPoint front a = subst (IsPoint front) (ap (λ z. z.0) both) p in
    let pb : IsPoint rest b = rw (k.is ∙ append-nil k.front) (subst (IsPoint k.front) (ap (λ z. z.1) both) k.point) in
    inr (front, middle, rest, e, pa, m, pb)
from_back cs front middle rest a x b (Some (y, d ∷ more)) t e p m h = absurd cc

from_second : (cs front rest : List ℕ) (a x b : ℕ) (r : Option (ℕ × List ℕ)) → ((y : ℕ × List ℕ) → r ≡ Some y → TakesPoint rest y)
    → cs ≡ front ++ rest → IsPoint front x
    → second_point x r ≡ Some (a, b) → IsRange cs a b
from_second cs front rest a x b None t e p h = absurd cc
from_second cs front rest a x b (Some (m, back)) t e p h =
    let k = t (m, back) refl in
    let g = chosen (nat_eq m 0x2D) (last_point x (point_at back)) (a, b) h in
    from_back cs front k.front back a x b (point_at back) (point_takes back)
    (e ∙ ap (λ z. front ++ z) k.is) p (subst (IsPoint k.front) (eqb-true m 0x2D g.0) k.point) g.1

from_point : (cs : List ℕ) (r : Option (ℕ × List ℕ)) → ((y : ℕ × List ℕ) → r ≡ Some y → TakesPoint cs y) → (a b : ℕ)
    → range_from r ≡ Some (a, b) → IsRange cs a b
from_point cs None t a b h = absurd cc
from_point cs (Some (x, [])) t a b h =
    let both : ◌≡◌ {A = ℕ × ℕ} (x, x) (a, b) = some_same h in
    let k = t (x, []) refl in
    let pa : IsPoint cs a = rw (k.is ∙ append-nil k.front) (subst (IsPoint k.front) (ap (λ z. z.0) both) k.point) in
    inl (pa, sym (ap (λ z. z.1) both) ∙ ap (λ z. z.0) both)
from_point cs (Some (x, c ∷ rest)) t a b h =
    let k = t (x, c ∷ rest) refl in
    from_second cs k.front (c ∷ rest) a x b (point_at (c ∷ rest)) (point_takes (c ∷ rest)) k.is k.point h

pub range_found : (cs : List ℕ) (a b : ℕ) → range_at cs ≡ Some (a, b) → IsRange cs a b
unfolding range_at
range_found cs a b h = from_point cs (point_at cs) (point_takes cs) a b h

minus_again : (middle back : List ℕ) → IsPoint middle 0x2D → point_at (middle ++ back) ≡ Some (0x2D, back)
unfolding point_at
minus_again middle [] (inl e) = rw e refl
minus_again middle (c ∷ rest) (inl e) = rw e refl
minus_again middle back (inr (digits, e, h)) = rw e (hex_again digits back 0x2D h)

back_at : (back : List ℕ) (b : ℕ) → IsPoint back b → point_at back ≡ Some (b, [])
back_at back b pb = ap point_at (sym (append-nil back)) ∙ point_again back [] b pb tt

tail_minus : (back : List ℕ) (a b : ℕ) → IsPoint back b → range_from (Some (a, 0x2D ∷ back)) ≡ Some (a, b)
tail_minus back a b pb = ap (second_point a) (minus_again (0x2D ∷ []) back (inl refl)) ∙ ap (last_point a) (back_at back b pb)

tail_hex : (digits back : List ℕ) (a b : ℕ) → IsHex digits 0x2D → IsPoint back b
    → range_from (Some (a, 0x55 ∷ 0x2B ∷ (digits ++ back))) ≡ Some (a, b)
tail_hex digits back a b h pb = ap (second_point a) (minus_again (0x55 ∷ 0x2B ∷ digits) back (inr (digits, refl, h)))
    ∙ ap (last_point a) (back_at back b pb)

after_front : (front middle back : List ℕ) (a b : ℕ) → IsPoint front a → IsPoint middle 0x2D → IsPoint back b
    → range_from (point_at (front ++ (middle ++ back))) ≡ Some (a, b)
after_front front middle back a b pa (inl e) pb =
    ap (λ z. range_from (point_at (front ++ (z ++ back)))) e ∙ ap range_from (point_again front (0x2D ∷ back) a pa refl)
    ∙ tail_minus back a b pb
after_front front middle back a b pa (inr (digits, e, h)) pb =
    ap (λ z. range_from (point_at (front ++ (z ++ back)))) e ∙ ap range_from (point_again front (0x55 ∷ 0x2B ∷ (digits ++ back)) a pa refl)
    ∙ tail_hex digits back a b h pb

pub range_only : (cs : List ℕ) (a b : ℕ) → IsRange cs a b → range_at cs ≡ Some (a, b)
unfolding range_at
range_only cs a b (inl h) =
    let e : point_at cs ≡ Some (a, []) = ap point_at (sym (append-nil cs)) ∙ point_again cs [] a h.0 tt in
    rw (e, h.1) refl
range_only cs a b (inr (front, middle, back, e, pa, pm, pb)) =
    ap (λ z. range_from (point_at z)) e ∙ after_front front middle back a b pa pm pb
