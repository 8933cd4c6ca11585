-- The parts of a trie's binary form one after another.
use Rattle.std.proofs.Common.{◌≡◌, ℕ, ◌+◌, List, ◌++◌, length, take, drop, refl, arith, sym, ◌∙◌, ap, append_assoc}
use Rattle.std.proofs.lemmas.List.{length-append, drop-drop, drop_at, take_at}

-- A header, an index, its padding, data, and what follows.
module _ (a b c d rest : List ℕ) where
  -- Everything except what follows.
  split-joined : a ++ ((b ++ c) ++ (d ++ rest)) ≡ ((a ++ (b ++ c)) ++ d) ++ rest
  split-joined = simp append_assoc

  pub drop-joined : length a ≡ 16 → drop (16 + length b + length c + length d) (a ++ ((b ++ c) ++ (d ++ rest))) ≡ rest
  drop-joined e =
      let n : length ((a ++ (b ++ c)) ++ d) ≡ 16 + length b + length c + length d =
      omega (arith, e, length-append (a ++ (b ++ c)) d, length-append a (b ++ c), length-append b c) in
      rw split-joined (drop_at ((a ++ (b ++ c)) ++ d) rest _ n)

  pub front-joined : (front : List ℕ) → a ++ (b ++ c) ≡ front → take (length front) (a ++ ((b ++ c) ++ (d ++ rest))) ≡ front
  front-joined front e =
      let s : a ++ ((b ++ c) ++ (d ++ rest)) ≡ front ++ (d ++ rest) =
      sym (append_assoc a (b ++ c) (d ++ rest)) ∙ ap (λ x. x ++ (d ++ rest)) e in
      rw s (take_at front (d ++ rest) (length front) refl)

-- The parts that were copied to their offsets.
pub joined-copied : (bytes a b c d header index behind cells at_index at_behind at_cells rest : List ℕ)
    → header ≡ a → index ≡ b → behind ≡ c → cells ≡ d
    → at_index ≡ drop 16 bytes → at_behind ≡ drop (length b) at_index → at_cells ≡ drop (length c) at_behind
    → rest ≡ drop (length d) at_cells
    → header ++ (index ++ (behind ++ (cells ++ rest))) ≡ a ++ ((b ++ c) ++ (d ++ drop (16 + length b + length c + length d) bytes))
joined-copied bytes a b c d header index behind cells at_index at_behind at_cells rest e1 e2 e3 e4 p1 p2 p3 p4 =
    let far : rest ≡ drop (16 + length b + length c + length d) bytes =
    p4
    ∙
    (ap (drop (length d)) (p3 ∙ (ap (drop (length c)) (p2 ∙ (ap (drop (length b)) p1 ∙ drop-drop (length b) 16 bytes))
    ∙ drop-drop (length c) (16 + length b) bytes))
    ∙ drop-drop (length d) (16 + length b + length c) bytes) in
    rw (e1, e2, e3, e4, far) (ap (λ x. a ++ x) (sym (append_assoc b c _)))
