-- Blocks of one number are moved to the null block.
use Rattle.std.proofs.Common.{◌≡◌, ◌≢◌, ℕ, ◌+◌, ◌<◌, ◌≤◌, List, length, get_or, take, drop, arith, ◌∙◌, sym, ap, inl, inr}
use Rattle.std.proofs.lemmas.Bool.{cases_eq}
use Rattle.std.proofs.lemmas.List.{same_lists, get_or_default, length-take}
use Rattle.icu_trie_core.specs.Blocks.{window}
use Rattle.icu_trie_builder.specs.Inside.FilledBlocks.{IsApart, IsFilled, IsMoved, IsNull}
use Rattle.icu_trie_builder.proofs.CompactionLemmas.TableLemmas.{append-kept}
use Rattle.icu_trie_builder.proofs.CompactionLemmas.Windows.{length-window, window-read, window-append}

-- Windows of the same number throughout are equal.
pub filled-windows : (k a b v : ℕ) (xs ys : List ℕ) → IsFilled v k a xs → IsFilled v k b ys → a + k ≤ length xs → b + k ≤ length ys
    → window k a xs ≡ window k b ys
filled-windows k a b v xs ys f g inx iny =
    let la = length-window k a xs inx in
    let lb = length-window k b ys iny in
    same_lists (window k a xs) (window k b ys) (la ∙ sym lb)
    (λ i d l. let lt : i < k = omega (arith, l, la) in
    window-read k a i xs d lt ∙ (get_or_default xs (a + i) d 0 (omega (arith, lt, inx))
    ∙ (f i lt ∙ (sym (g i lt) ∙ (get_or_default ys (b + i) 0 d (omega (arith, lt, iny)) ∙ sym (window-read k b i ys d lt))))))

-- Appending cells does not change a window.
pub window-kept : (k at : ℕ) (before after : List ℕ) → take (length before) after ≡ before → at + k ≤ length before
    → window k at after ≡ window k at before
window-kept k at before after kept inside = ap (λ ys. window k at ys) (sym (append-kept before after kept))
    ∙ window-append k at before (drop (length before) after) inside

-- Blocks of one number are moved.
pub moved : (before after old new : List ℕ) (from to v : ℕ) → take (length before) after ≡ before → length new ≡ length old
    → ((j : ℕ) → j < length old → get_or old j 0 + 16 ≤ length before)
    → ((j : ℕ) → j < length old → get_or old j 0 ≡ from → get_or new j 0 ≡ to)
    → ((j : ℕ) → get_or old j 0 ≢ from → get_or new j 0 ≡ get_or old j 0)
    → IsFilled v 16 from before → from + 16 ≤ length before → IsFilled v 16 to after → to + 16 ≤ length after → IsMoved before after old new
moved before after old new from to v kept len inside renamed others f inf g ing =
    let longer : length before ≤ length after = omega (arith, ap length kept, length-take (length before) after) in
    let both : window 16 to after ≡ window 16 from before = filled-windows 16 to from v after before g f ing inf in
    record {
      count = len;
      inside = λ j l. let lt : j < length old = omega (arith, l, len) in elim (cases_eq (get_or old j 0) from) [
        | inl e ↦ omega (arith, renamed j lt e, ing)
        | inr ne ↦ omega (arith, others j ne, inside j lt, longer)
      ];
      copies = λ j l. let lt : j < length old = omega (arith, l, len) in elim (cases_eq (get_or old j 0) from) [
        | inl e ↦ ap (λ at. window 16 at after) (renamed j lt e) ∙ (both ∙ ap (λ at. window 16 at before) (sym e))
        | inr ne ↦ ap (λ at. window 16 at after) (others j ne) ∙ window-kept 16 (get_or old j 0) before after kept (inside j lt)
      ];
      same = λ i j li lj e. elim (cases_eq (get_or old i 0) from) [
        | inl t ↦ renamed i li t ∙ sym (renamed j lj (sym e ∙ t))
        | inr ne ↦ others i ne ∙ (e ∙ sym (others j (λ t. ne (e ∙ t))))
      ];
    }

-- A block of 16 that starts where no block of 64 does.
pub null-small : (fast small cells : List ℕ) (offset value n : ℕ) → IsApart offset fast → IsFilled value 16 offset cells → n < length small
    → get_or small n 0 ≡ offset → IsNull fast small cells offset value
null-small fast small cells offset value n apart filled lt is = record {
  on_fast = λ j l e. absurd (apart j l e);
  on_small = λ j l e. filled;
  used = inr (n, lt, is);
}
