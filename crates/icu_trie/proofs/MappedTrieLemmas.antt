-- A trie whose values are mapped by a closure: which calls were made, and what they returned.
use Rattle.std.proofs.Common.{append_assoc, append-nil, ◌≡◌, ℕ, ◌+◌, ◌-◌, ◌*◌, List, [], ◌∷◌, ◌++◌, map, length, slice_get, Option, Some, None, IsSome, Result, Ok, Err, refl, sym, ap, ◌∙◌, arith, rules}
use Rattle.std.specs.Option.{option_map, option_and_then, option_or}
use Rattle.std.specs.Result.{IsErr, IsErrAnd}
use Rattle.std.proofs.lemmas.Option.{slice_get-map}
use Rattle.icu_trie_core.specs.Contents.{contents_of}
use Rattle.icu_trie_core.specs.declared.header.CodePointTrieHeader.{CodePointTrieHeader}
use Rattle.icu_trie.specs.Parts.{Parts, trie_value, last_cell}
use Rattle.icu_trie_core.specs.Format.{answer, place, high_cell, high_value}
use Rattle.icu_trie_core.specs.Coherence.{IsCoherent, AnswersNull}
use Rattle.icu_trie.specs.Conversion.{with_null_value}
use Rattle.icu_trie.specs.Ranges.{answers, IsCoherentTrie}
use Rattle.icu_trie.specs.declared.map_value.MapError.{MapError}
use Rattle.icu_trie.specs.declared.map_value.MapError.TheVariants.{Memory}
use Rattle.icu_trie.specs.MappedTrie.{ok_answer, AnswersAlways, CallsInTurn, IsMapOfTrie, AnswersAll, BreaksOffAt, MapsInTurn}

module _ {F A B E : Type 0} (step : F → A → Result B E → F → Type 0) (h : A → Result B E) (always : AnswersAlways step h) where
  -- The results for all of xs are h of each.
  answers-by : (f : F) (xs : List A) (ys : List B) (g : F) → CallsInTurn step f xs ys None g → length ys ≡ length xs
      → map (ok_answer {E = E}) ys ≡ map h xs
  answers-by f [] [] g calls same = refl
  answers-by f (x ∷ xs) [] g calls same = absurd (omega (arith, same))
  answers-by f [] (y ∷ ys) g calls same = absurd calls
  answers-by f (x ∷ xs) (y ∷ ys) g calls same =
      let here : Ok y ≡ h x = always f x (Ok y) calls.0 calls.1 in
      let rest = answers-by calls.0 xs ys g calls.2 (omega (arith, same)) in
      λ i. here i ∷ rest i

-- An Option that is mapped to Ok has one value.
pub Ok-injective : {B E : Type 0} (o p : Option B) → option_map (ok_answer {E = E}) o ≡ option_map (ok_answer {E = E}) p → o ≡ p
Ok-injective None None e = refl
Ok-injective None (Some y) e = absurd (cc)
Ok-injective (Some x) None e = absurd (cc)
Ok-injective (Some x) (Some y) e = cc

module _ {A B E : Type 0} (h : A → Result B E) (header : CodePointTrieHeader) (index : List ℕ) (xs : List A) (ys : List B) (number : ℕ)
    (mapped : map (ok_answer {E = E}) ys ≡ map h xs) (same : length ys ≡ length xs) where
  at_cell : (i : ℕ) → option_map (ok_answer {E = E}) (slice_get ys i) ≡ option_map h (slice_get xs i)
  at_cell i = sym (slice_get-map (ok_answer {E = E}) ys i) ∙ (ap (λ l. slice_get l i) mapped ∙ slice_get-map h xs i)

  at_place : (o : Option ℕ) → option_map (ok_answer {E = E})
      (option_and_then (slice_get ys) o) ≡ option_map h (option_and_then (slice_get xs) o)
  at_place None = refl
  at_place (Some i) = at_cell i

  -- The look-up results of the mapped trie.
  answers-mapped : (u : ℕ) → option_map (ok_answer {E = E}) (answer (with_null_value header number) (contents_of index ys) u)
      ≡ option_map h (answer header (contents_of index xs) u)
  unfolding answer
  answers-mapped u = rw same (at_place (place header index (length xs) u))

  high-mapped : option_map (ok_answer {E = E}) (high_value ys) ≡ option_map h (high_value xs)
  high-mapped = rw same (at_place (high_cell (length xs)))

  or-mapped : (o : Option A) (p : Option B) (q : Option A) (r : Option B) → option_map (ok_answer {E = E}) p ≡ option_map h o
      → option_map (ok_answer {E = E}) r ≡ option_map h q
      → option_map (ok_answer {E = E}) (option_or p r) ≡ option_map h (option_or o q)
  or-mapped None None q r e d = d
  or-mapped None (Some y) q r e d = absurd (cc)
  or-mapped (Some x) None q r e d = absurd (cc)
  or-mapped (Some x) (Some y) q r e d = e

  last-mapped : option_map (ok_answer {E = E}) (last_cell ys) ≡ option_map h (last_cell xs)
  last-mapped = rw same (at_cell (length xs - 1))

  -- The values of the mapped trie, including the error value.
  value-mapped : (u : ℕ) → option_map (ok_answer {E = E})
      (trie_value (record { header = with_null_value header number; index = index; values = ys }) u)
      ≡ option_map h (trie_value (record { header = header; index = index; values = xs }) u)
  value-mapped u = or-mapped _ _ _ _ (answers-mapped u) last-mapped

  some-mapped : (o : Option A) (p : Option B) → option_map (ok_answer {E = E}) p ≡ option_map h o → IsSome o → IsSome p
  some-mapped None p e s = absurd (cc)
  some-mapped (Some x) None e s = absurd (cc)
  some-mapped (Some x) (Some y) e s = search rules

  module _ (of_number : ℕ → Option A) (of_other : ℕ → Option B) (x : A) (y : B) (before : of_number header.null_value ≡ Some x)
      (after : of_other number ≡ Some y) (null : h x ≡ Ok y) where
    null-mapped : (k b : ℕ) → AnswersNull of_number header (contents_of index xs) k b
        → AnswersNull of_other (with_null_value header number) (contents_of index ys) k b
    null-mapped k b is i lt =
        Ok-injective {E = E} _ _ (answers-mapped (b * k + i)
        ∙ (ap (option_map h) (is i lt ∙ before) ∙ (ap (λ r. Some r) null ∙ ap (option_map (ok_answer {E = E})) (sym after))))

    -- A mapped trie is coherent if the original one is.
    IsCoherent-mapped : IsCoherent of_number header (contents_of index xs)
        → IsCoherent of_other (with_null_value header number) (contents_of index ys)
    IsCoherent-mapped coherent = record {
      aligned = coherent.aligned;
      within = coherent.within;
      high = λ c from below. let at = coherent.high c from below in (
        Ok-injective {E = E} _ _ (answers-mapped c ∙ (ap (option_map h) at.0 ∙ sym high-mapped)),
        some-mapped (high_value xs) (high_value ys) high-mapped at.1,
      );
      inside = λ c below. some-mapped _ _ (answers-mapped c) (coherent.inside c below);
      null_64 = λ b lt below is. null-mapped 64 b (coherent.null_64 b lt below is);
      null_16 = λ b from below is. null-mapped 16 b (coherent.null_16 b from below is);
      null_512 = λ b from below is. null-mapped 512 b (coherent.null_512 b from below is);
    }

-- ---- The calls to come follow the calls so far.
module _ {F A B E : Type 0} (step : F → A → Result B E → F → Type 0) (f0 : F) (values : List A) (answers : List B) (f next : F)
    (items rest : List A) (x : A) (is : items ≡ x ∷ rest)
    (onward : (zs : List B) (refusal : Option E) (last : F) → CallsInTurn step f items zs refusal last
    → CallsInTurn step f0 values (answers ++ zs) refusal last) where
  -- One more call returned Ok.
  pub onward-answered : (y : B) → step f x (Ok y) next → (more : List B) → more ≡ answers ++ y ∷ []
      → (zs : List B) (refusal : Option E) (last : F) → CallsInTurn step next rest zs refusal last
      → CallsInTurn step f0 values (more ++ zs) refusal last
  onward-answered y called more grown zs refusal last calls =
      let at : CallsInTurn step f items (y ∷ zs) refusal last = rw is (next, called, calls) in
      rw (grown, append_assoc answers (y ∷ []) zs) (onward (y ∷ zs) refusal last at)

  -- The call returned an error.
  pub onward-refused : (e : E) → step f x (Err e) next → CallsInTurn step f0 values answers (Some e) next
  onward-refused e called =
      let at : CallsInTurn step f items [] (Some e) next = rw is called in
      let all = onward [] (Some e) next at in
      rw (append-nil answers) at all

-- The error that `?` returns is that error.
handed_on : {V E : Type 0} (C : Result V E → Type 0) (e : E) (r : Result V E) → IsErr r × IsErrAnd r (λ k. k ≡ e) → C (Err e) → C r
handed_on C e (Ok v) h at = absurd (let no = h.0 in cc)
handed_on C e (Err k) h at = rw h.1 at

-- ---- The parts v of a trie whose value is p, its error value and its null value.
module _ {F T P E : Type 0} {step : F → T → Result P E → F → Type 0} {f : F} {of_number : ℕ → Option T} {number : P → ℕ} {v p : Parts T}
    {error null : T} (seen : v ≡ p) (error_is : last_cell p.values ≡ Some error) (null_is : of_number p.header.null_value ≡ Some null) where
  -- Calls with the values of v, in order, are calls with those of p.
  pub MapsInTurn-seen : {result : Result (Parts P) (MapError E)} (answered : List P) (refusal : Option E) (last : F)
      → CallsInTurn step f (error ∷ null ∷ v.values) answered refusal last → IsMapOfTrie number v answered refusal result
      → MapsInTurn step f of_number number p result
  MapsInTurn-seen answered refusal last calls gives = rw (← seen) (record {
    error = error;
    error_is = rw (← seen) at error_is;
    null = null;
    null_is = rw (← seen) at null_is;
    answers = answered;
    refusal = refusal;
    last = last;
    calls = calls;
    gives = gives;
  })

  module _ (s t : F) (y z : P) {xs : List T} (first : step f error (Ok y) s) (second : step s null (Ok z) t) (are : xs ≡ v.values) where
    -- The calls for the error value and the null value returned Ok, and the calls for the cells
    -- gave this result.
    MapsInTurn-at_cells : {result : Result (Parts P) (MapError E)} (values : List P) (refusal : Option E) (last : F)
        → CallsInTurn step t xs values refusal last → IsMapOfTrie number v (y ∷ z ∷ values) refusal result
        → MapsInTurn step f of_number number p result
    MapsInTurn-at_cells values refusal last calls gives =
        MapsInTurn-seen (y ∷ z ∷ values) refusal last (s, first, (t, second, rw are at calls)) gives

    -- The calls for the cells ended with an error.
    pub MapsInTurn-breaks_off : {e : MapError E} → BreaksOffAt step t xs e → {r : Result (Parts P) (MapError E)}
        → IsErr r × IsErrAnd r (λ k. k ≡ e) → MapsInTurn step f of_number number p r
    MapsInTurn-breaks_off {e = e} cells {r = r} handed = handed_on (MapsInTurn step f of_number number p) e r handed
        (MapsInTurn-at_cells cells.answers cells.refusal cells.last cells.calls cells.why)

    -- All calls returned Ok, but an allocation for the new trie failed.
    pub MapsInTurn-no_memory : {values : List P} → AnswersAll step t xs values → {r : Result (Parts P) (MapError E)}
        → IsErr r × IsErrAnd r (λ k. k ≡ Memory) → MapsInTurn step f of_number number p r
    MapsInTurn-no_memory {values = values} cells {r = r} handed = handed_on (MapsInTurn step f of_number number p) Memory r handed
        (MapsInTurn-at_cells values None cells.last cells.calls refl)

    -- All calls returned Ok, and their results are the data of the new trie.
    pub MapsInTurn-answered : {values : List P} → AnswersAll step t xs values → {made : Parts P}
        → made ≡ record { header = with_null_value v.header (number z); index = v.index; values = values }
        → MapsInTurn step f of_number number p (Ok made)
    MapsInTurn-answered {values = values} cells is =
        let whole = cells.whole in MapsInTurn-at_cells values None cells.last cells.calls (refl, (rw are at whole, is))

-- The parts t consist of values of h: for the null value and for each cell of p.
record IsMadeBy {T P E : Type 0} (number : P → ℕ) (h : T → Result P E) (null : T) (p : Parts T) (t : Parts P) : Type 0 where
  at_null : P
  null_is : h null ≡ Ok at_null
  values : List P
  mapped : map (ok_answer {E = E}) values ≡ map h p.values
  same : length values ≡ length p.values
  is : t ≡ record { header = with_null_value p.header (number at_null); index = p.index; values = values }

-- ---- A closure that always returns h of its argument.
module _ {F T P E : Type 0} {step : F → T → Result P E → F → Type 0} (h : T → Result P E) (always : AnswersAlways step h) where
  -- The trie of its results consists of values of h.
  made_by : (number : P → ℕ) {p : Parts T} {t : Parts P} (f : F) (error null : T) (answered : List P) (refusal : Option E) (last : F)
      → CallsInTurn step f (error ∷ null ∷ p.values) answered refusal last → IsMapOfTrie number p answered refusal (Ok t)
      → IsMadeBy number h null p t
  made_by number f error null [] refusal last calls gives = absurd gives.1
  made_by number f error null (x ∷ []) refusal last calls gives = absurd gives.1
  made_by number f error null (x ∷ y ∷ values) (Some e) last calls gives = absurd (let no = gives.0 in cc)
  made_by number {p = p} f error null (x ∷ y ∷ values) None last calls gives = record {
    at_null = y;
    null_is = sym (always calls.0 null (Ok y) calls.2.0 calls.2.1);
    values = values;
    mapped = answers-by step h always calls.2.0 p.values values last calls.2.2 gives.1.0;
    same = gives.1.0;
    is = gives.1.1;
  }

  -- ---- The calls were made in order, and t is the trie of their results.
  module _ {f : F} {of_number : ℕ → Option T} {number : P → ℕ} {p : Parts T} {t : Parts P}
      (maps : MapsInTurn step f of_number number p (Ok t)) where
    -- t consists of values of h.
    made : IsMadeBy number h maps.null p t
    made = made_by number f maps.error maps.null maps.answers maps.refusal maps.last maps.calls maps.gives

    -- The look-up results of t.
    pub answers-from_maps : (u : ℕ) → option_map (ok_answer {E = E}) (answers t u) ≡ option_map h (answers p u)
    answers-from_maps u = let m = made in
        rw m.is (answers-mapped h p.header p.index p.values m.values (number m.at_null) m.mapped m.same u)

    -- The values of t, including the error value.
    pub value-from_maps : (u : ℕ) → option_map (ok_answer {E = E}) (trie_value t u) ≡ option_map h (trie_value p u)
    value-from_maps u = let m = made in
        rw m.is (value-mapped h p.header p.index p.values m.values (number m.at_null) m.mapped m.same u)

    -- t is coherent if p is.
    pub IsCoherent-from_maps : (of_other : ℕ → Option P) (null : T) (y : P) → of_number p.header.null_value ≡ Some null → h null ≡ Ok y
        → of_other (number y) ≡ Some y → IsCoherentTrie of_number p → IsCoherentTrie of_other t
    IsCoherent-from_maps of_other null y null_is y_is after coherent =
        let m = made in
        let same : y ≡ m.at_null = cc (maps.null_is, m.null_is) in
        rw m.is (IsCoherent-mapped h p.header p.index p.values m.values (number m.at_null) m.mapped m.same of_number of_other maps.null
        m.at_null maps.null_is (rw same at after) m.null_is coherent)
