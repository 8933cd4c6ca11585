-- One row more.
use Rattle.std.proofs.Common.{◌≡◌, ◌⊎◌, inl, inr, ℕ, ℤ, not, true, false, cond, Some, Result, Ok, Err, List, [], ◌∷◌, ◌++◌, refl, sym, ◌∙◌, ap, subst, append_assoc, arith}
use Rattle.std.specs.Prelude.{IfErr, IsErrAnd, String, string_bytes}
use Rattle.std.specs.List.{find}
use Rattle.std.specs.Option.{option_map}
use Rattle.std.specs.Global.{Global}
use Rattle.std.proofs.lemmas.List.Elements.{All-cons}
use Rattle.icu_char16trie.specs.LossyText.{key_text}
use Rattle.icu_char16trie.specs.UnitMap.{UnitMap}
use Rattle.ucptrie_words.specs.Rows.{AreRowsOf, HasRow, can_be_key, first_without_row, line_of}
use Rattle.ucptrie_words.specs.declared.error.RowsError.{RowsError}
use Rattle.ucptrie_words.specs.declared.error.RowsError.TheVariants.{Key, Memory}

-- The line of an entry, before those of the entries after it.
pub rows_cons : (key : List ℕ) (value : ℤ) (rest m : UnitMap) (shown more : List ℕ) → m ≡ (key, value) ∷ rest → shown ≡ key_text key
    → can_be_key shown ≡ true → AreRowsOf rest more → AreRowsOf m (line_of shown value ++ more)
rows_cons key value rest m shown more is text can rows =
    subst (λ z. AreRowsOf z (line_of shown value ++ more)) (sym is)
    (subst (λ z. AreRowsOf ((key, value) ∷ rest) (line_of z value ++ more)) (sym text)
    (record {
      rows = ap (λ z. line_of (key_text key) value ++ z) rows.rows;
      keys = All-cons HasRow (key, value) rest (subst (λ z. can_be_key z ≡ true) text can) rows.keys;
    }))

-- The text so far, the line of an entry, and what follows.
pub rows_after : (m : UnitMap) (text new line more : List ℕ) → new ≡ text ++ line → AreRowsOf m (text ++ (line ++ more))
    → AreRowsOf m (new ++ more)
rows_after m text new line more is rows =
    subst (λ z. AreRowsOf m z) (sym (ap (λ z. z ++ more) is ∙ append_assoc text line more)) rows

pub no_rows : (m : UnitMap) → m ≡ [] → AreRowsOf m []
no_rows m none =
    subst (λ z. AreRowsOf z []) (sym none) (record { rows = refl; keys = λ k d within. absurd (omega (arith, within)) })

-- ---- the first key that no line can have

-- The first entry's, or the first of the entries after it.
pub first_here : (key : List ℕ) (value : ℤ) (rest m : UnitMap) (text : List ℕ) → m ≡ (key, value) ∷ rest → text ≡ key_text key
    → can_be_key text ≡ false → first_without_row m ≡ Some text
first_here key value rest m text is shown none =
    let here : first_without_row ((key, value) ∷ rest) ≡ Some (key_text key) =
    ap (λ b. option_map (λ e. key_text e.0) (cond (not b) (Some (key, value)) (find (λ e. not (can_be_key (key_text e.0))) rest)))
    (subst (λ z. can_be_key z ≡ false) shown none) in
    ap first_without_row is ∙ (here ∙ ap Some (sym shown))

pub first_later : (key : List ℕ) (value : ℤ) (rest m : UnitMap) (text : List ℕ) → m ≡ (key, value) ∷ rest → text ≡ key_text key
    → can_be_key text ≡ true → first_without_row m ≡ first_without_row rest
first_later key value rest m text is shown can =
    let later : first_without_row ((key, value) ∷ rest) ≡ first_without_row rest =
    ap (λ b. option_map (λ e. key_text e.0) (cond (not b) (Some (key, value)) (find (λ e. not (can_be_key (key_text e.0))) rest)))
    (subst (λ z. can_be_key z ≡ true) shown can) in
    ap first_without_row is ∙ later

-- The key that an error has is that one.
pub key_of_error : {T : Type 0} (r : Result T RowsError) (x : RowsError) (m : UnitMap) (text : List ℕ) (key : String Global)
    → IsErrAnd r (λ e. e ≡ x) → (can_be_key text ≡ false → first_without_row m ≡ Some text)
    → (x ≡ Memory) ⊎ ((given : String Global) × (x ≡ Key given) × (string_bytes given ≡ text) × (can_be_key text ≡ false))
    → IfErr r (λ e. e ≡ Key key → first_without_row m ≡ Some (string_bytes key))
key_of_error (Ok y) x m text key same first why = absurd same
key_of_error (Err e) x m text key same first (inl memory) = λ is. absurd (cc)
key_of_error (Err e) x m text key same first (inr why) = λ is.
    let given : why.0 ≡ key = cc in
    let bytes : text ≡ string_bytes key = sym why.2 ∙ ap string_bytes given in
    first why.3 ∙ ap Some bytes
