-- A trie whose values are mapped by a closure.
use Rattle.std.specs.Prelude.{◌≡◌, ℕ, List, [], ◌∷◌, length, Option, Some, None, Result, Ok, Err}
use Rattle.icu_trie.specs.declared.map_value.MapError.{MapError}
use Rattle.icu_trie.specs.declared.map_value.MapError.TheVariants.{Closure, Memory}
use Rattle.icu_trie.specs.Parts.{Parts, last_cell}
use Rattle.icu_trie.specs.Conversion.{with_null_value}

-- A value as the successful result of a closure.
abbrev pub ok_answer : {B E : Type 0} → B → Result B E
ok_answer y = Ok y

module _ {F A B E : Type 0} (step : F → A → Result B E → F → Type 0) where
  -- The closure computes h: in every state it returns h of its argument.
  abbrev pub AnswersAlways : (A → Result B E) → Type 0
  AnswersAlways h = (s : F) (x : A) (r : Result B E) (t : F) → step s x r t → r ≡ h x

  -- From state f, the closure was called with the items of a prefix of xs in order. It returned Ok
  -- with these values and then, if `refusal` is Some, one error, after which it was not called. g
  -- is its final state.
  abbrev pub CallsInTurn : F → List A → List B → Option E → F → Type 0
  CallsInTurn f xs [] None g = g ≡ f
  CallsInTurn f [] [] (Some e) g = ⊥
  CallsInTurn f (x ∷ xs) [] (Some e) g = step f x (Err e) g
  CallsInTurn f [] (y ∷ ys) refusal g = ⊥
  CallsInTurn f (x ∷ xs) (y ∷ ys) refusal g =
      (next : F) × step f x (Ok y) next × CallsInTurn next xs ys refusal g

-- The mapped trie, from the closure's results for the error value, the null value and each cell.
-- Header and index are those of p, except for the number of the null value, and the data are the
-- results for the cells.
abbrev pub IsTrieOfAnswers : {T P : Type 0} → (P → ℕ) → Parts T → List P → Parts P → Type 0
IsTrieOfAnswers number p [] t = ⊥
IsTrieOfAnswers number p (error ∷ []) t = ⊥
IsTrieOfAnswers number p (error ∷ null ∷ values) t =
    (length values ≡ length p.values)
    × (t ≡ record {
      header = with_null_value p.header (number null);
      index = p.index;
      values =
          values;
    })

-- The reason of a MapError: the closure's error, or a failed allocation if the closure returned
-- none.
abbrev pub IsWhyNone : {E : Type 0} → Option E → MapError E → Type 0
IsWhyNone refusal (Closure e) = refusal ≡ Some e
IsWhyNone refusal Memory = refusal ≡ None

-- The mapped trie, or the reason why there is none.
abbrev pub IsMapOfTrie : {T P E : Type 0} → (P → ℕ) → Parts T → List P → Option E
    → Result (Parts P) (MapError E) → Type 0
IsMapOfTrie number p answers refusal (Ok t) = (refusal ≡ None) × IsTrieOfAnswers number p answers t
IsMapOfTrie number p answers refusal (Err e) = IsWhyNone refusal e

module _ {F T P E : Type 0} (step : F → T → Result P E → F → Type 0) (f : F) where
  -- The closure was called with each of the values in order and returned Ok with these results.
  pub record AnswersAll (values : List T) (answers : List P) : Type 0 where
    pub last : F
    pub calls : CallsInTurn step f values answers None last
    pub whole : length answers ≡ length values

  -- The closure was called with a prefix of the values in order. The error is its own, or a failed
  -- allocation.
  pub record BreaksOffAt (values : List T) (e : MapError E) : Type 0 where
    pub answers : List P
    pub refusal : Option E
    pub last : F
    pub calls : CallsInTurn step f values answers refusal last
    pub why : IsWhyNone refusal e

  -- The closure was called, in order, with the error value of p, its null value and each cell of
  -- its data.
  pub record MapsInTurn (of_number : ℕ → Option T) (number : P → ℕ) (p : Parts T)
      (result : Result (Parts P) (MapError E)) : Type 0 where
    pub error : T
    pub error_is : last_cell p.values ≡ Some error
    pub null : T
    pub null_is : of_number p.header.null_value ≡ Some null
    pub answers : List P
    pub refusal : Option E
    pub last : F
    pub calls : CallsInTurn step f (error ∷ null ∷ p.values) answers refusal last
    pub gives : IsMapOfTrie number p answers refusal result
