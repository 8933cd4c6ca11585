-- Comments, one after another.
use Rattle.std.proofs.Common.{◌≡◌, ◌≢◌, ℕ, ◌<◌, List, [], ◌∷◌, ◌++◌, length, get_or, All, append_assoc, refl, sym, ap, ◌∙◌, arith}
use Rattle.std.specs.List.{flat_map}
use Rattle.std.proofs.lemmas.Grind.{common_steps, flat_map-append}
use Rattle.std.proofs.lemmas.List.Elements.{All-append}
use Rattle.std.proofs.lemmas.List.{append-nil, get_or_default}
use Rattle.ucptab_table.specs.TableText.{answers_text}
use Rattle.ucptrie_tables.specs.Shown.{AddsComments, AreComments, IsExplained, comment_line}

-- each byte of a text without a line feed
pub one_line-parts : (xs : List ℕ) → ((i : ℕ) → i < length xs → get_or xs i 0 ≢ 10) → All (λ b. b ≢ 10) xs
one_line-parts xs each = λ k d below is. each k below (get_or_default xs k 0 d below ∙ is)

-- a blank before a text of one line
pub one_line-blank : (xs : List ℕ) → All (λ b. b ≢ 10) xs → All (λ b. b ≢ 10) (32 ∷ xs)
one_line-blank xs one = All-append (λ b. b ≢ 10) (32 ∷ []) xs (λ k d below. grind (arith, common_steps)) one

-- one more comment
pub AddsComments-more : (old text new comment : List ℕ) → AddsComments old text → All (λ b. b ≢ 10) comment
    → new ≡ text ++ comment_line comment → AddsComments old new
AddsComments-more old text new comment (bytes, (are, is)) one grown = (
  bytes ++ comment_line comment,
  (
    record {
      comments = are.comments ++ comment ∷ [];
      one_line = All-append (λ c. All (λ b. b ≢ 10) c) are.comments (comment ∷ []) are.one_line
          (λ k d below. grind (arith, common_steps, one));
      lines = ap (λ b. b ++ comment_line comment) are.lines
          ∙ sym (flat_map-append comment_line are.comments (comment ∷ [])
          ∙ ap (λ b. flat_map comment_line are.comments ++ b) (append-nil (comment_line comment)));
    },
    grown ∙ (ap (λ t. t ++ comment_line comment) is ∙ append_assoc old bytes (comment_line comment)),
  ),
)

pub AddsComments-none : (old : List ℕ) → AddsComments old old
AddsComments-none old =
    ([], (record { comments = []; one_line = λ k d below. absurd (omega (arith, below)); lines = refl }, sym (append-nil old)))

-- one more number is explained
pub IsExplained-more : (given : ℕ → ℕ) (asked : List ℕ) (n : ℕ) (text bytes new : List ℕ) → IsExplained given asked text → AreComments bytes
    → new ≡ text ++ (bytes ++ answers_text given (n ∷ [])) → IsExplained given (asked ++ n ∷ []) new
IsExplained-more given [] n text bytes new none are is =
    let line = answers_text given (n ∷ []) in
    (bytes, [], are, is ∙ (ap (λ t. t ++ (bytes ++ line)) none ∙ ap (λ t. bytes ++ t) (sym (append-nil line))), refl)
IsExplained-more given (m ∷ asked) n text bytes new h are is =
    let more = bytes ++ answers_text given (n ∷ []) in
    let line = answers_text given (m ∷ []) in (
      h.0,
      h.1 ++ more,
      h.2,
      is ∙ (ap (λ t. t ++ more) h.3 ∙ (append_assoc h.0 (line ++ h.1) more ∙ ap (λ t. h.0 ++ t) (append_assoc line h.1 more))),
      IsExplained-more given asked n h.1 bytes (h.1 ++ more) h.4 are refl,
    )
