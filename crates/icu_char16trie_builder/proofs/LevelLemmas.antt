-- One level of a trie, written in front of what it leads to.
use Rattle.std.proofs.Common.{◌≡◌, ℕ, ℤ, false, ◌+◌, ◌-◌, ◌*◌, ◌/◌, ◌%◌, ◌<◌, ◌≤◌, nat_lt, nat_eq, List, [], ◌∷◌, ◌++◌, Some, refl, sym, ap, subst, ◌∙◌, arith, length, length-append, append_assoc, append-nil, take, drop, of_z, to_z, SFits}
use Rattle.std.proofs.lemmas.Bool.{lt-ltb, le-ltb, ne_eqb}
use Rattle.std.proofs.Math.Seq.{take-append_seam}
use Rattle.std.proofs.lemmas.List.{take-append-drop, drop-drop}
use Rattle.std.specs.Int.{cast_signed, w32}
use Rattle.std.proofs.lemmas.Int.{to_z-of_z}
use Rattle.icu_char16trie.specs.Numbers.{short_number, short_end, node_number, node_end, delta_number, delta_end, entry_child, lower_part}
use Rattle.icu_char16trie_builder.specs.Inside.Encoding.{lead_by, tail_by, short_units, delta_units, node_units, final_units}
use Rattle.icu_char16trie.specs.Grammar.{UnitsBelow, UnitsFrom, IsAscending, last, entry, split, branch_start, Holds, final, plain, valued, Matches, run, branch, Part, Children, none, more}
use Rattle.icu_char16trie.specs.UnitMap.{UnitMap, under}
use Rattle.icu_char16trie_builder.specs.Inside.Written.{heads, PartAt, Below, From, Ascends, Grew}
use Rattle.icu_char16trie_builder.proofs.ShiftLemmas.{number_moved, holds_behind, part_at_behind, holds_moved, part_at_moved, matches_behind}
use Rattle.icu_char16trie_builder.proofs.EncodingLemmas.{read_back, pick, skip}

-- A number is read back as the value from which it was cast.
pub back_of : (v : ℤ) (n : ℕ) → n ≡ of_z w32 (to_z w32 (of_z w32 v)) → SFits w32 v → cast_signed w32 n ≡ v
back_of v n e fits = rw e (ap (λ t. to_z w32 (of_z w32 t)) (to_z-of_z w32 v fits) ∙ to_z-of_z w32 v fits)

-- A final value.
pub final_level : (v : ℤ) (n : ℕ) (units new : List ℕ) → cast_signed w32 n ≡ v → new ≡ final_units n ++ units → Holds new 0 (([], v) ∷ [])
final_level v n units new e f =
    let r = read_back 0x4000 0x7fff n units (omega arith) in
    let w : ℕ = 0x8000 + lead_by 0x4000 0x7fff n in
    let lead : w - 0x8000 ≡ lead_by 0x4000 0x7fff n = omega arith in
    let number : short_number (final_units n ++ units) 1 (w - 0x8000) ≡ Some n = rw lead (number_moved 0x4000 0x7fff _ _ 0 _ ∙ r.number) in
    rw f (final 0 w n _ refl (omega arith) number (ap (λ z. ([], z) ∷ []) (sym e)))

-- The last arm of a row: its unit, directly before its node.
pub last_level : (u : ℕ) (units : List ℕ) (m : UnitMap) → Holds units 0 m → PartAt (u ∷ units) 0 1 (u ∷ []) (under (u ∷ []) m)
unfolding heads
last_level u units m h = record {
  arms = (u, 1) ∷ [];
  part = last 0 1 u _ refl refl refl;
  heads = refl;
  children = more u 1 [] _ m [] _ refl (holds_moved u units h) (none [] [] refl refl) (sym (append-nil (under (u ∷ []) m)));
}

-- An arm, its unit and the units of its value or jump, before the other arms of a row.
arm_before : (u w n child : ℕ) (tail units us : List ℕ) (m1 m2 : UnitMap) → 1 < n → n ≤ 5 → PartAt units 0 (n - 1) us m2
    → entry_child (u ∷ w ∷ (tail ++ units)) 2 w ≡ Some child → short_end 2 (w % 0x8000) ≡ 2 + length tail
    → Holds (u ∷ w ∷ (tail ++ units)) child m1
    → PartAt (u ∷ w ∷ (tail ++ units)) 0 n (u ∷ us) (under (u ∷ []) m1 ++ m2)
unfolding heads
arm_before u w n child tail units us m1 m2 many few rest leads end node =
    let others : PartAt (u ∷ w ∷ (tail ++ units)) (length (u ∷ w ∷ tail) + 0) (n - 1) us m2 = part_at_behind (u ∷ w ∷ tail) units rest in
    let place : length (u ∷ w ∷ tail) + 0 ≡ short_end 2 (w % 0x8000) = rw end (omega arith) in
    record {
      arms = (u, child) ∷ others.arms;
      part = entry 0 n u w child others.arms _ many few refl refl leads (rw place at others.part) refl;
      heads = ap (λ z. u ∷ z) others.heads;
      children = more u child others.arms _ m1 m2 _ refl node others.children refl;
    }

-- An arm that jumps to a later node.
pub entry_level : (u j n : ℕ) (units mid new us : List ℕ) (m1 m2 : UnitMap) → 1 < n → n ≤ 5 → Holds units j m1
    → PartAt units 0 (n - 1) us m2
    → mid ≡ short_units j ++ units → new ≡ u ∷ mid → PartAt new 0 n (u ∷ us) (under (u ∷ []) m1 ++ m2)
unfolding entry_child
entry_level u j n units mid new us m1 m2 many few node rest e f =
    let r = read_back 0x4000 0x7fff j units (omega arith) in
    let w : ℕ = lead_by 0x4000 0x7fff j in
    let tail : List ℕ = tail_by 0x4000 0x7fff j in
    let number : short_number (u ∷ w ∷ (tail ++ units)) 2 w ≡ Some j =
    number_moved 0x4000 0x7fff _ _ 1 _ ∙ number_moved 0x4000 0x7fff _ _ 0 _ ∙ r.number in
    let child : 2 + length tail + j ≡ length (u ∷ w ∷ tail) + j = omega arith in
    let leads : entry_child (u ∷ w ∷ (tail ++ units)) 2 w ≡ Some (length (u ∷ w ∷ tail) + j) =
    pick (nat_lt w 0x8000) _ _ (lt-ltb w 0x8000 (omega (arith, r.within))) ∙ rw (number, r.end 2) (ap Some child) in
    let low : w % 0x8000 ≡ w = omega (arith, r.within) in
    rw (f, e) (arm_before u w n _ tail units us m1 m2 many few rest leads (rw low (r.end 2)) (holds_behind (u ∷ w ∷ tail) units node))

-- An arm whose key ends there, with its value.
pub value_level : (u : ℕ) (v : ℤ) (k n : ℕ) (units mid new us : List ℕ) (m : UnitMap) → cast_signed w32 k ≡ v → 1 < n → n ≤ 5
    → PartAt units 0 (n - 1) us m
    → mid ≡ final_units k ++ units → new ≡ u ∷ mid → PartAt new 0 n (u ∷ us) ((u ∷ [], v) ∷ m)
unfolding entry_child
value_level u v k n units mid new us m e many few rest f g =
    let r = read_back 0x4000 0x7fff k units (omega arith) in
    let w : ℕ = 0x8000 + lead_by 0x4000 0x7fff k in
    let low : w % 0x8000 ≡ lead_by 0x4000 0x7fff k = omega (arith, r.within) in
    rw (g, f) (arm_before u w n 1 (tail_by 0x4000 0x7fff k) units us (([], v) ∷ []) m many few rest
    (skip (nat_lt w 0x8000) _ _ (le-ltb w 0x8000 (omega arith))) (rw low (r.end 2))
    (holds_moved u (final_units k ++ units) (final_level v k units _ e refl)))

heads_below : (s : ℕ) (arms : List (ℕ × ℕ)) → Below s (heads arms) → UnitsBelow s arms
unfolding heads
heads_below s [] h = tt
heads_below s (a ∷ arms) h = (h.0, heads_below s arms h.1)

heads_from : (s : ℕ) (arms : List (ℕ × ℕ)) → From s (heads arms) → UnitsFrom s arms
unfolding heads
heads_from s [] h = tt
heads_from s (a ∷ arms) h = (h.0, heads_from s arms h.1)

heads_ascend : (arms : List (ℕ × ℕ)) → Ascends (heads arms) → IsAscending arms
unfolding heads
heads_ascend [] h = tt
heads_ascend (a ∷ arms) h = (heads_from (a.0 + 1) arms h.0, heads_ascend arms h.1)

heads_append : (a b : List (ℕ × ℕ)) → heads (a ++ b) ≡ heads a ++ heads b
unfolding heads
heads_append [] b = refl
heads_append (x ∷ a) b = ap (λ z. x.0 ∷ z) (heads_append a b)

children_append : (units : List ℕ) {a b : List (ℕ × ℕ)} {m n : UnitMap} → Children units a m → Children units b n
    → Children units (a ++ b) (m ++ n)
children_append units (none a m e i) c = rw (e, i) c
children_append units {b = b} {n = n} (more u q rest arms m others all a node d e) c =
    more u q (rest ++ b) (arms ++ b) m (others ++ n) (all ++ n) (ap (λ z. z ++ b) a) node (children_append units d c)
    (ap (λ z. z ++ n) e ∙ append_assoc (under (u ∷ []) m) others n)

-- A split, before the part with the upper arms.
pub split_level : (s j n : ℕ) (units mid new us1 us2 : List ℕ) (m1 m2 : UnitMap) → 5 < n → PartAt units j (n / 2) us1 m1
    → PartAt units 0 (n - n / 2) us2 m2
    → Below s us1 → From s us2 → mid ≡ delta_units j ++ units → new ≡ s ∷ mid → PartAt new 0 n (us1 ++ us2) (m1 ++ m2)
unfolding lower_part
split_level s j n units mid new us1 us2 m1 m2 many lower upper below from e f =
    let r = read_back 0xfc00 0xffff j units (omega arith) in
    let w : ℕ = lead_by 0xfc00 0xffff j in
    let front : List ℕ = s ∷ delta_units j in
    let up : PartAt (front ++ units) (length front + 0) (n - n / 2) us2 m2 = part_at_behind front units upper in
    let low : PartAt (front ++ units) (length front + j) (n / 2) us1 m1 = part_at_behind front units lower in
    let number : delta_number (front ++ units) 2 w ≡ Some j = number_moved 0xfc00 0xffff _ _ 1 _ ∙ number_moved 0xfc00 0xffff _ _ 0 _
    ∙ r.number in
    let place : length front + 0 ≡ delta_end 2 w = rw (r.end 2) (omega arith) in
    let there : delta_end 2 w + j ≡ length front + j = rw (r.end 2) (omega arith) in
    rw (f, e) (record {
      arms = low.arms ++ up.arms;
      part = split 0 n s w (length front + j) low.arms up.arms _ many refl refl (rw number (ap Some there)) low.part (rw place at up.part)
          (heads_below s low.arms (subst (λ z. Below s z) (sym low.heads) below))
          (heads_from s up.arms (subst (λ z. From s z) (sym up.heads) from)) refl;
      heads = heads_append low.arms up.arms ∙ rw (low.heads, up.heads) refl;
      children = children_append _ low.children up.children;
    })

-- ---- match nodes, after their lead

pub run_level : (low : ℕ) (front units mid : List ℕ) (m : UnitMap) → low ≡ 0x2f + length front → mid ≡ front ++ units → 0 < length front
    → length front ≤ 16 → Holds units 0 m
    → Matches mid 0 low (under front m)
run_level low front units mid m e f some few h =
    let count : low - 0x2f ≡ length front = omega (arith, e) in
    let place : length front + 0 ≡ 0 + (low - 0x2f) = omega (arith, count) in
    rw f (run 0 low (under front m) m (omega (arith, e, some)) (omega (arith, e, few))
    (rw count (rw (length-append front units) (omega arith)))
    (rw place at (holds_behind front units h)) (rw count (ap (λ z. under z m) (sym (take-append_seam front units)))))

pub branch_level : (n : ℕ) (units us : List ℕ) (m : UnitMap) → 2 ≤ n → n ≤ 0x30 → PartAt units 0 n us m → Ascends us
    → Matches units 0 (n - 1) m
branch_level n units us m some few p up =
    let count : n ≡ (n - 1) + 1 = omega (arith, some) in
    let no : nat_eq (n - 1) 0 ≡ false = ne_eqb (n - 1) 0 (λ e. absurd (omega (arith, e, some))) in
    let start : 0 ≡ branch_start 0 (n - 1) = sym (skip (nat_eq (n - 1) 0) _ _ no) in
    branch 0 (n - 1) (n - 1) p.arms m (omega (arith, few, some)) (skip (nat_eq (n - 1) 0) _ _ no) (omega (arith, some))
    (rw (count, start) at p.part)
    (heads_ascend p.arms (subst (λ z. Ascends z) (sym p.heads) up)) p.children

pub long_branch_level : (n : ℕ) (units us : List ℕ) (m : UnitMap) → 2 ≤ n → PartAt units 0 n us m → Ascends us
    → Matches ((n - 1) ∷ units) 0 0 m
long_branch_level n units us m some p up =
    let count : n ≡ (n - 1) + 1 = omega (arith, some) in
    let q : PartAt ((n - 1) ∷ units) 1 n us m = part_at_moved (n - 1) units p in
    branch 0 0 (n - 1) q.arms m (omega arith) refl (omega (arith, some)) (subst (λ z. Part ((n - 1) ∷ units) 1 z q.arms) count q.part)
    (heads_ascend q.arms (subst (λ z. Ascends z) (sym q.heads) up)) q.children

-- ---- leads

pub plain_level : (low : ℕ) (units : List ℕ) (m : UnitMap) → low < 0x40 → Matches units 0 low m → Holds (low ∷ units) 0 m
plain_level low units m h node = plain 0 low m refl h (matches_behind (low ∷ []) units node)

pub valued_level : (v : ℤ) (n low : ℕ) (units new : List ℕ) (m : UnitMap) → cast_signed w32 n ≡ v → low < 0x40
    → new ≡ node_units n low ++ units
    → Matches units 0 low m → Holds new 0 (([], v) ∷ m)
valued_level v n low units new m e h f node =
    let r = read_back 0x100 0x1fe n units (omega arith) in
    let l : ℕ = lead_by 0x100 0x1fe n in
    let w : ℕ = (l + 1) * 64 + low in
    let lead : w / 64 - 1 ≡ l = omega (arith, h) in
    let bits : low ≡ w % 64 = omega (arith, h) in
    let number : node_number (node_units n low ++ units) 1 w ≡ Some n = rw lead (number_moved 0x100 0x1fe _ _ 0 _ ∙ r.number) in
    let end : length (node_units n low) + 0 ≡ node_end 1 w = rw (lead, r.end 1) (omega arith) in
    let behind : Matches (node_units n low ++ units) (node_end 1 w) low m = rw end at (matches_behind (node_units n low) units node) in
    rw f (valued 0 w n _ m refl (omega arith)
    (omega (arith, h, r.within)) number (subst (λ z. Matches (node_units n low ++ units) (node_end 1 w) z m) bits behind)
    (ap (λ z. ([], z) ∷ m) (sym e)))

-- ---- the number of units that were written

-- More units were written in front of others.
pub grew_more : (j k : ℕ) (front units mid new : List ℕ) → mid ≡ front ++ units → length front ≤ k → Grew j mid new → Grew (j + k) units new
grew_more j k front units mid new e h g =
    (g.0 ++ front, g.1 ∙ ap (λ z. g.0 ++ z) e ∙ sym (append_assoc g.0 front units), omega (arith, length-append g.0 front, g.2, h))

pub grew_twice : (j k : ℕ) (units mid new : List ℕ) → Grew k units mid → Grew j mid new → Grew (j + k) units new
grew_twice j k units mid new f g = grew_more j k f.0 units mid new f.1 f.2 g

pub grew_same : (k : ℕ) (units : List ℕ) → Grew k units units
grew_same k units = ([], refl, omega arith)

pub grew_at_most : (j k : ℕ) (units new : List ℕ) → j ≤ k → Grew j units new → Grew k units new
grew_at_most j k units new h g = (g.0, g.1, omega (arith, g.2, h))

pub grew_last : (u : ℕ) (units new : List ℕ) → new ≡ u ∷ units → Grew 1 units new
grew_last u units new f = (u ∷ [], f, omega arith)

pub grew_number : (two three w n : ℕ) (units new : List ℕ) → two < three → new ≡ w ∷ (tail_by two three n ++ units) → Grew 3 units new
grew_number two three w n units new h f = (w ∷ tail_by two three n, f, omega (arith, (read_back two three n units h).few))

pub grew_arm : (two three u w n : ℕ) (units mid new : List ℕ) → two < three → mid ≡ w ∷ (tail_by two three n ++ units) → new ≡ u ∷ mid
    → Grew 4 units new
grew_arm two three u w n units mid new h e f =
    grew_twice 1 3 units mid new (grew_number two three w n units mid h e) (grew_last u mid new f)

-- A chunk of a list in front of the rest.
pub chunk_before : (start left : ℕ) (units : List ℕ) → start ≤ left
    → take (left - start) (drop start units) ++ drop left units ≡ drop start units
chunk_before start left units h =
    let place : start + (left - start) ≡ left = omega (arith, h) in
    ap (λ z. take (left - start) (drop start units) ++ drop z units) (sym place)
    ∙ ap (λ z. take (left - start) (drop start units) ++ z) (sym (drop-drop (left - start) start units))
    ∙ take-append-drop (left - start) (drop start units)

pub tail_step : (start left : ℕ) (v : ℤ) (units new : List ℕ) → start ≤ left
    → Holds new 0 (under (take (left - start) (drop start units)) ((drop left units, v) ∷ [])) → Holds new 0 ((drop start units, v) ∷ [])
tail_step start left v units new h k = subst (λ z. Holds new 0 ((z, v) ∷ [])) (chunk_before start left units h) k
