use Rattle.std.proofs.Common.{◌∙◌, ◌+◌, ◌++◌, List, ℕ, ap, encode_utf8, inl, inr, sym}
use Rattle.std.proofs.lemmas.List.{drop-drop, take_rest}
use Rattle.icu_utf.proofs.CallerLemmas.{past_part}
use Rattle.icu_collections_c.proofs.UnitPrefixLemmas.{no_more}
use Rattle.icu_collections_c.proofs.text_steps.pass_character.Goals as goal

pub returns-then-is_empty : goal.returns-then-is_empty
returns-then-is_empty c = inl (record {
  exact = sym c.is_empty.ensures.exact ∙ c.if-is_empty.true;
  keys = λ m w h. no_more _ (sym (c.is_empty.ensures.empty m w h) ∙ c.if-is_empty.true);
})

pub returns-in_err-c : goal.returns-in_err-c
returns-in_err-c c = rw c.from_residual.ensures (inr (rw (take_rest c.args.bytes.now c.args.end) at c.in_err-c.ensures))

pub returns : goal.returns
returns c =
    let bytes : List ℕ = c.args.bytes.now in
    let end : ℕ = c.args.end in
    let size : ℕ = c.in_ok-c.size in
    let part = rw (take_rest bytes end) at c.in_ok-c.ensures in
    record {
      c = c.in_ok-c.c;
      scalar = part.0;
      next_is = ap (λ k. end + k) part.1;
      within = past_part bytes end size c.in_ok-c.c c.requires part.1 part.2;
      bytes_are = part.2 ∙ ap (λ (bs : List ℕ). encode_utf8 c.in_ok-c.c ++ bs) (drop-drop size end bytes);
      passes = c.step.ensures.passes;
    }
