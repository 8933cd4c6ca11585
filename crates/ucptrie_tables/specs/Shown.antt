-- What is shown of a table: comments, and its rows.
use Rattle.std.specs.Prelude.{◌≡◌, ◌≢◌, ℕ, List, [], ◌∷◌, ◌++◌, All}
use Rattle.std.specs.List.{flat_map}
use Rattle.icu_trie_core.specs.Runs.{Run, AreMaximalRuns}
use Rattle.ucptab_table.specs.TableText.{answers_text, runs_text}

-- The line of a comment: `#`, the comment, and LF.
abbrev pub comment_line : List ℕ → List ℕ
comment_line comment = 35 ∷ (comment ++ (10 ∷ []))

-- The bytes are whole lines, each of them a comment.
pub record AreComments (bytes : List ℕ) : Type 0 where
  pub comments : List (List ℕ)
  pub one_line : All (λ comment. All (λ b. b ≢ 10) comment) comments
  pub lines : bytes ≡ flat_map comment_line comments

-- Comments are appended to a text.
abbrev pub AddsComments : List ℕ → List ℕ → Type 0
AddsComments old new = (bytes : List ℕ) × (AreComments bytes × (new ≡ old ++ bytes))

-- The text is comments, and behind them the lines of the maximal runs of a map, each once: the rows
-- of the map's table, since `ucptab` reads no comment.
pub record IsShown (value : ℕ → ℕ) (text : List ℕ) : Type 0 where
  pub comments : List ℕ
  pub are_comments : AreComments comments
  pub runs : List (Run ℕ)
  pub all_runs : AreMaximalRuns value runs
  pub lines : text ≡ comments ++ runs_text runs

-- The text explains numbers: for each of them, in order, comments and then its line with the given
-- value.
abbrev pub IsExplained : (ℕ → ℕ) → List ℕ → List ℕ → Type 0
IsExplained given [] text = text ≡ []
IsExplained given (n ∷ asked) text = (comments : List ℕ) × (rest : List ℕ)
    × AreComments comments × (text ≡ comments ++ (answers_text given (n ∷ []) ++ rest))
    × IsExplained given asked rest
