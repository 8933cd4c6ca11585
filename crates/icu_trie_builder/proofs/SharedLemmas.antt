-- Blocks of 16 of one number move to a block of 64 of that number. Equal blocks move to the same
-- position.
use Rattle.std.proofs.Common.{◌≡◌, ℕ, ◌+◌, ◌<◌, ◌≤◌, List, length, get_or, arith, ◌∙◌, sym, ap, inl, inr}
use Rattle.std.proofs.lemmas.Bool.{cases_lt}
use Rattle.icu_trie_core.specs.Blocks.{window}
use Rattle.icu_trie_builder.specs.Inside.FilledBlocks.{AreFilledPlaces, IsFilled, IsMoved, IsSharedPlace}
use Rattle.icu_trie_builder.proofs.NullLemmas.{filled-windows}

-- There is one such position.
pub shared-same : (cells places : List ℕ) (at x y : ℕ) → IsSharedPlace cells places at x → IsSharedPlace cells places at y → x ≡ y
unfolding IsSharedPlace
shared-same cells places at x y (inl (f, (k, lk, pk, vk, nk))) (inl (g, (l, ll, pl, vl, nl))) = elim (cases_lt k l) [
  | inl low ↦ absurd (nl k low (ap (λ n. get_or cells n 0) pk ∙ vk))
  | inr high ↦ elim (cases_lt l k) [
    | inl low ↦ absurd (nk l low (ap (λ n. get_or cells n 0) pl ∙ vl))
    | inr both ↦ let e : k ≡ l = omega (arith, high, both) in sym pk ∙ ap (λ n. get_or places n 0) e ∙ pl
  ]
]
shared-same cells places at x y (inl (f, (k, lk, pk, vk, nk))) (inr (e, none)) = absurd (none f k lk (ap (λ n. get_or cells n 0) pk ∙ vk))
shared-same cells places at x y (inr (e, none)) (inl (f, (k, lk, pk, vk, nk))) = absurd (none f k lk (ap (λ n. get_or cells n 0) pk ∙ vk))
shared-same cells places at x y (inr (e, none)) (inr (d, other)) = e ∙ sym d

-- The cells there are the same.
pub shared-window : (cells places : List ℕ) (at x : ℕ) → AreFilledPlaces cells places → at + 16 ≤ length cells
    → IsSharedPlace cells places at x
    → (x + 16 ≤ length cells) × (window 16 x cells ≡ window 16 at cells)
unfolding IsSharedPlace
shared-window cells places at x all inside (inl (f, (k, lk, pk, vk, nk))) =
    let room : x + 16 ≤ length cells = omega (arith, all.inside k lk, pk) in
    let g : IsFilled (get_or cells at 0) 16 x cells = λ i l. ap (λ n. get_or cells (n + i) 0) (sym pk)
    ∙ all.filled k lk i (omega (arith, l)) ∙ ap (λ n. get_or cells n 0) pk ∙ vk in
    (room, filled-windows 16 x at (get_or cells at 0) cells cells g f room inside)
shared-window cells places at x all inside (inr (e, none)) = (omega (arith, inside, e), ap (λ n. window 16 n cells) e)

-- Blocks that get such positions satisfy `IsMoved`.
pub moved-shared : (cells places old new : List ℕ) → AreFilledPlaces cells places → length new ≡ length old
    → ((j : ℕ) → j < length old → get_or old j 0 + 16 ≤ length cells)
    → ((j : ℕ) → j < length old → IsSharedPlace cells places (get_or old j 0) (get_or new j 0)) → IsMoved cells cells old new
moved-shared cells places old new all count inside shared = record {
  count = count;
  inside = λ j l. let lt : j < length old = omega (arith, l, count) in
      (shared-window cells places (get_or old j 0) (get_or new j 0) all (inside j lt) (shared j lt)).0;
  copies = λ j l. let lt : j < length old = omega (arith, l, count) in
      (shared-window cells places (get_or old j 0) (get_or new j 0) all (inside j lt) (shared j lt)).1;
  same = λ i j li lj e. shared-same cells places (get_or old j 0) (get_or new i 0) (get_or new j 0) (rw (← e) (shared i li)) (shared j lj);
}
