-- One line more of a word list.
use Rattle.std.proofs.Common.{◌≡◌, ◌≢◌, ◌⊎◌, inl, inr, ℕ, ℤ, zero, suc, ◌+◌, ◌-◌, ◌<◌, ◌≤◌, Bool, true, false, cond, List, [], ◌∷◌, ◌++◌, length, get_or, take, drop, Option, Some, None, Ok, Err, refl, sym, ◌∙◌, ap, subst, arith}
use Rattle.std.specs.Prelude.{All, AllPairs, IsNone, IsSome, IsSomeAnd, MatchOption, slice_get}
use Rattle.std.specs.List.{filter_map}
use Rattle.std.specs.Str.Lines.{lines}
use Rattle.std.proofs.lemmas.List.{append-nil, take-append-drop}
use Rattle.std.proofs.lemmas.List.Elements.{All-push, filter_map-append}
use Rattle.std.proofs.lemmas.List.Quantifiers.{all_pairs_push}
use Rattle.icu_char16trie.specs.UnitMap.{UnitMap, IsAscendingKeys, same_key, value_of}
use Rattle.icu_char16trie.proofs.CallerLemmas.{same_key_eq, same_key_self}
use Rattle.icu_char16trie_builder.specs.Entries.{with_entry}
use Rattle.icu_char16trie_builder.proofs.CallerLemmas.{IsAscendingKeys-with_entry, value_of-with_entry}
use Rattle.ucptab_table.proofs.CallerLemmas.{slice_get_left, left_after, front}
use Rattle.ucptrie_words.specs.Words.{AreSound, AreWords, HasFault, HasWordFault, IsAdded, IsFaultless, IsFirstFault, entries_in, entry_in}
use Rattle.ucptrie_words.specs.declared.error.LineError.{LineError}
use Rattle.ucptrie_words.specs.declared.error.LineError.TheVariants.{LongKey, Repeated, NoSeparator, NoKey, NotUtf8, NoValue, NotNumber}
use Rattle.ucptrie_words.specs.declared.error.WordsError.{WordsError}
use Rattle.ucptrie_words.specs.declared.error.WordsError.TheVariants.{Line, Memory}

-- ---- one entry more

-- A key that has no value is not that of the first entry, nor of another one.
not_there : (e : List ℕ × ℤ) (m : UnitMap) (w : List ℕ) → value_of (e ∷ m) w ≡ None → (same_key e.0 w ≡ false) × (value_of m w ≡ None)
unfolding value_of
not_there e m w none = by (same_key e.0 w) refl none where
  by : (b : Bool) → same_key e.0 w ≡ b → cond b (Some e.1) (value_of m w) ≡ None → (same_key e.0 w ≡ false) × (value_of m w ≡ None)
  by true s h = cc
  by false s h = (s, h)

-- No entry has a key that has no value.
other_keys : (m : UnitMap) (w : List ℕ) → value_of m w ≡ None → (k : ℕ) (d : List ℕ × ℤ) → k < length m → (get_or m k d).0 ≢ w
other_keys [] w none k d within same = absurd (omega (arith, within))
other_keys (e ∷ m) w none zero d within same =
    let no = (not_there e m w none).0 in
    let yes : same_key e.0 w ≡ true = subst (λ z. same_key e.0 z ≡ true) same (same_key_self e.0) in cc
other_keys (e ∷ m) w none (suc k) d within same = other_keys m w (not_there e m w none).1 k d (omega (arith, within)) same

-- The value of a key among the entries and one more with another key, or the same one if it is new.
pub value_of-push : (m : UnitMap) (e : List ℕ × ℤ) (w : List ℕ) → value_of m e.0 ≡ None
    → value_of (m ++ e ∷ []) w ≡ cond (same_key e.0 w) (Some e.1) (value_of m w)
unfolding value_of
value_of-push [] e w none = refl
value_of-push (x ∷ m) e w none =
    let other = not_there x m e.0 none in
    ap (λ z. cond (same_key x.0 w) (Some x.1) z) (value_of-push m e w other.1)
    ∙ by (same_key x.0 w) (same_key e.0 w) refl refl other.0
  where
    by : (p q : Bool) → same_key x.0 w ≡ p → same_key e.0 w ≡ q → same_key x.0 e.0 ≡ false
        → cond p (Some x.1) (cond q (Some e.1) (value_of m w)) ≡ cond q (Some e.1) (cond p (Some x.1) (value_of m w))
    by true true s u other =
        let is : x.0 ≡ e.0 = same_key_eq x.0 w s ∙ sym (same_key_eq e.0 w u) in
        let yes : same_key x.0 e.0 ≡ true = subst (λ z. same_key x.0 z ≡ true) is (same_key_self x.0) in cc
    by true false s u other = refl
    by false true s u other = refl
    by false false s u other = refl

absent : (o : Option ℤ) → IsNone o → o ≡ None
absent None h = refl
absent (Some v) h = absurd (cc)

-- ---- one line more

module _ (ls : List (List ℕ)) (line : List ℕ) (m after : UnitMap) (words : AreWords ls m) where
  by_entry : (said : Option (List ℕ × ℤ)) → entry_in line ≡ said → IsFaultless line
      → MatchOption said (after ≡ m) (λ e. (length e.0 ≤ 65535) × IsNone (value_of m e.0) × (after ≡ with_entry e.0 e.1 m))
      → AreWords (ls ++ line ∷ []) after
  by_entry None said faultless same =
      let entries : entries_in (ls ++ line ∷ []) ≡ entries_in ls = rw (filter_map-append, said) (append-nil (entries_in ls)) in
      record {
        sound = record {
          faultless = All-push IsFaultless ls line words.sound.faultless faultless;
          short = subst (λ es. All (λ e. length e.0 ≤ 65535) es) (sym entries) words.sound.short;
          distinct = subst (λ es. AllPairs (λ a b. a.0 ≢ b.0) es) (sym entries) words.sound.distinct;
        };
        ascending = subst (λ z. IsAscendingKeys z) (sym same) words.ascending;
        same = λ key. ap (λ z. value_of z key) same ∙ words.same key ∙ ap (λ z. value_of z key) (sym entries);
      }
  by_entry (Some e) said faultless added =
      let entries : entries_in (ls ++ line ∷ []) ≡ entries_in ls ++ e ∷ [] = rw (filter_map-append, said) refl in
      let new : value_of (entries_in ls) e.0 ≡ None = sym (words.same e.0) ∙ absent (value_of m e.0) added.1 in
      record {
        sound = record {
          faultless = All-push IsFaultless ls line words.sound.faultless faultless;
          short = subst (λ es. All (λ e. length e.0 ≤ 65535) es) (sym entries)
              (All-push (λ e. length e.0 ≤ 65535) (entries_in ls) e words.sound.short added.0);
          distinct = subst (λ es. AllPairs (λ a b. a.0 ≢ b.0) es) (sym entries)
              (all_pairs_push (λ a b. a.0 ≢ b.0) (entries_in ls) e words.sound.distinct (other_keys (entries_in ls) e.0 new));
        };
        ascending = subst (λ z. IsAscendingKeys z) (sym added.2) (IsAscendingKeys-with_entry e.0 e.1 m words.ascending);
        same = λ key. ap (λ z. value_of z key) added.2
            ∙ value_of-with_entry e.0 e.1 m key
            ∙ ap (λ z. cond (same_key e.0 key) (Some e.1) z) (words.same key)
            ∙ sym (value_of-push (entries_in ls) e key new)
            ∙ ap (λ z. value_of z key) (sym entries);
      }

  pub words_push : IsAdded m line after → AreWords (ls ++ line ∷ []) after
  words_push added = by_entry (entry_in line) refl added.0 added.1

-- The words of the lines so far and of this one.
pub words_more : (all : List (List ℕ)) (n : ℕ) (line : List ℕ) (more : List (List ℕ)) → drop n all ≡ line ∷ more
    → (m after : UnitMap) → AreWords (take n all) m → IsAdded m line after → AreWords (take (n + 1) all) after
words_more all n line more left m after words added =
    rw (front all n line more left) (words_push (take n all) line m after words added)

-- The words of all lines.
pub all_words : (all : List (List ℕ)) (n : ℕ) (m : UnitMap) → drop n all ≡ [] → AreWords (take n all) m → AreWords all m
all_words all n m left words =
    let whole : take n all ≡ all =
    sym (append-nil (take n all)) ∙ (ap (λ rest. take n all ++ rest) (sym left) ∙ take-append-drop n all) in
    subst (λ z. AreWords z m) whole words

-- ---- the first fault

-- A fault after other entries with the same values.
fault_after : (before m : UnitMap) (line : List ℕ) (f : LineError) → ((key : List ℕ) → value_of m key ≡ value_of before key)
    → HasFault m line f → HasFault before line f
fault_after before m line f same (inl own) = inl own
fault_after before m line f same (inr fault) = inr (word_fault f fault) where
  by : (said : Option (List ℕ × ℤ)) → IsSomeAnd said (λ e. IsSome (value_of m e.0)) → IsSomeAnd said (λ e. IsSome (value_of before e.0))
  by None h = h
  by (Some e) h = subst (λ z. IsSome z) (same e.0) h

  word_fault : (g : LineError) → HasWordFault m line g → HasWordFault before line g
  word_fault LongKey h = h
  word_fault Repeated h = by (entry_in line) h
  word_fault NoSeparator h = h
  word_fault NoKey h = h
  word_fault NotUtf8 h = h
  word_fault NoValue h = h
  word_fault NotNumber h = h

-- A line with a fault, after lines without one.
first_fault : (input : List ℕ) (n : ℕ) (line : List ℕ) (more : List (List ℕ)) (m : UnitMap) (f : LineError)
    → drop n (lines input) ≡ line ∷ more → AreWords (take n (lines input)) m → HasFault m line f → IsFirstFault input (n + 1) f
first_fault input n line more m f left words fault =
    let back : n + 1 - 1 ≡ n = omega arith in
    let here : slice_get (lines input) n ≡ Some line = slice_get_left (lines input) n line more left in
    let found = fault_after (entries_in (take n (lines input))) m line f words.same fault in
    record { counted = omega arith; faulty = rw (back, here) found; sound_before = rw back words.sound }

-- The same, as an answer names it.
pub first_fault_named : (input : List ℕ) (n : ℕ) (line : List ℕ) (more : List (List ℕ)) (m : UnitMap) (f : LineError)
    (k : ℕ) (g : LineError)
    → Line (n + 1) f ≡ Line k g → drop n (lines input) ≡ line ∷ more → AreWords (take n (lines input)) m → HasFault m line f
    → IsFirstFault input k g
first_fault_named input n line more m f k g same left words fault =
    let same_line : n + 1 ≡ k = cc in
    let same_fault : f ≡ g = cc in
    subst (λ x. IsFirstFault input k x) same_fault
    (subst (λ x. IsFirstFault input x f) same_line (first_fault input n line more m f left words fault))

-- The same of an error that a line gives, unless memory is short.
pub first_fault_of : (input : List ℕ) (n : ℕ) (line : List ℕ) (more : List (List ℕ)) (m : UnitMap) (k : ℕ) (g : LineError)
    → drop n (lines input) ≡ line ∷ more → AreWords (take n (lines input)) m → (e : WordsError)
    → (e ≡ Memory) ⊎ ((f : LineError) × (e ≡ Line (n + 1) f) × HasFault m line f) → e ≡ Line k g → IsFirstFault input k g
first_fault_of input n line more m k g left words e (inl memory) is = absurd (cc)
first_fault_of input n line more m k g left words e (inr why) is =
    first_fault_named input n line more m why.0 k g (sym why.1 ∙ is) left words why.2
