-- How a key is spelled, one unit after another.
use Rattle.std.proofs.Common.{◌≡◌, ℕ, ◌<◌, ◌≤◌, List, [], ◌∷◌, ◌++◌, Some, None, refl, sym, ap, ◌∙◌, arith, append_assoc, append-nil, get_or, unwrap_or, ◌⊎◌, inl, inr}
use Rattle.std.specs.Char.{encode_utf8}
use Rattle.std.specs.Char.Utf16.{lone_unit_char, surrogate_pair_char}
use Rattle.std.proofs.lemmas.Str.{utf16_chars_lone, utf16_chars_pair, utf16_chars-nil}
use Rattle.std.proofs.str.Utf16.{IsPair, lone_unit_char_low, lone_unit_char_surrogate}
use Rattle.icu_char16trie.specs.LossyText.{key_text}
use Rattle.icu_char16trie.specs.Pending.{Spells, held_units}
use Rattle.icu_char16trie.specs.Inside.Opening.{bytes_of, SpellsOn}
use Rattle.icu_char16trie.specs.declared.spelling.LeadSurrogate.{LeadSurrogate}
use Rattle.icu_char16trie.specs.declared.spelling.Spelling.{Spelling}

-- The character of a unit that is in no pair.
abbrev pub lone : ℕ → ℕ
lone u = unwrap_or (lone_unit_char u) 0xFFFD

text_lone : (u : ℕ) (more : List ℕ) → ¬ (IsPair u (get_or more 0 0)) → key_text (u ∷ more) ≡ encode_utf8 (lone u) ++ key_text more
text_lone u more h = rw (utf16_chars_lone u more h) refl

text_pair : (u v : ℕ) (more : List ℕ) → IsPair u v → key_text (u ∷ v ∷ more) ≡ encode_utf8 (surrogate_pair_char u v) ++ key_text more
text_pair u v more h = rw (utf16_chars_pair u v more h) refl

pub text_nil : key_text [] ≡ []
text_nil = rw utf16_chars-nil refl

-- An ASCII unit is its character.
pub lone_ascii : (u : ℕ) → u < 0x80 → lone u ≡ u
lone_ascii u h = ap (λ o. unwrap_or o 0xFFFD) (lone_unit_char_low u (omega (arith, h)))

-- Only a lead surrogate is the first unit of a pair.
pub text_alone : (u : ℕ) (more : List ℕ) → (u < 0xD800) ⊎ (0xDC00 ≤ u) → key_text (u ∷ more) ≡ encode_utf8 (lone u) ++ key_text more
text_alone u more (inl h) = text_lone u more (λ p. omega arith)
text_alone u more (inr h) = text_lone u more (λ p. omega arith)

-- Only a trail surrogate is the second unit of a pair.
pub text_apart : (u v : ℕ) (more : List ℕ) → (v < 0xDC00) ⊎ (0xE000 ≤ v)
    → key_text (u ∷ v ∷ more) ≡ encode_utf8 (lone u) ++ key_text (v ∷ more)
text_apart u v more (inl h) = text_lone u (v ∷ more) (λ p. omega arith)
text_apart u v more (inr h) = text_lone u (v ∷ more) (λ p. omega arith)

-- ---- what pushes do

pub on_nothing : (s : Spelling) → SpellsOn s [] s
on_nothing s = record { next = λ more. refl; tail = []; grows = sym (append-nil (bytes_of s)) }

pub on_then : (a b c : Spelling) (r s : List ℕ) → SpellsOn a r b → SpellsOn b s c → SpellsOn a (r ++ s) c
on_then a b c r s h k = record {
  next = λ more. ap (λ z. bytes_of a ++ key_text (held_units a.held ++ z)) (append_assoc r s more) ∙ h.next (s ++ more) ∙ k.next more;
  tail = h.tail ++ k.tail;
  grows = k.grows ∙ ap (λ z. z ++ k.tail) h.grows ∙ append_assoc (bytes_of a) h.tail k.tail;
}

-- A lead surrogate is held.
pub on_held : (a b : Spelling) (lead : LeadSurrogate) (u : ℕ) → a.held ≡ None → b.held ≡ Some lead → bytes_of b ≡ bytes_of a → lead.unit ≡ u
    → SpellsOn a (u ∷ []) b
on_held a b lead u n h e same = record { next = λ more. rw (n, h, e, same) refl; tail = []; grows = e ∙ sym (append-nil (bytes_of a)) }

-- A unit that is not a lead surrogate, when none is held.
pub on_alone : (a b : Spelling) (u : ℕ) → a.held ≡ None → b.held ≡ None → (u < 0xD800) ⊎ (0xDC00 ≤ u)
    → bytes_of b ≡ bytes_of a ++ encode_utf8 (lone u) → SpellsOn a (u ∷ []) b
on_alone a b u n n' alone e = record {
  next = λ more. rw (n, n', e) (ap (λ z. bytes_of a ++ z) (text_alone u more alone)
      ∙ sym (append_assoc (bytes_of a) (encode_utf8 (lone u)) (key_text more)));
  tail = encode_utf8 (lone u);
  grows = e;
}

-- A trail surrogate after the held lead surrogate.
pub on_pair : (a b : Spelling) (lead : LeadSurrogate) (u : ℕ) → a.held ≡ Some lead → b.held ≡ None → 0xDC00 ≤ u → u < 0xE000
    → bytes_of b ≡ bytes_of a ++ encode_utf8 (surrogate_pair_char lead.unit u) → SpellsOn a (u ∷ []) b
on_pair a b lead u h n from below e = record {
  next = λ more. rw (h, n, e)
      (ap (λ z. bytes_of a ++ z) (text_pair lead.unit u more (lead.in_range.0, lead.in_range.1, from, below))
      ∙ sym (append_assoc (bytes_of a) (encode_utf8 (surrogate_pair_char lead.unit u)) (key_text more)));
  tail = encode_utf8 (surrogate_pair_char lead.unit u);
  grows = e;
}

lone_lead : (lead : LeadSurrogate) → lone lead.unit ≡ 0xFFFD
lone_lead lead = ap (λ o. unwrap_or o 0xFFFD) (lone_unit_char_surrogate lead.unit lead.in_range.0 (omega (arith, lead.in_range.1)))

-- Another unit after the held lead surrogate, which is then a lone surrogate.
pub on_apart : (a b c : Spelling) (lead : LeadSurrogate) (u : ℕ) → a.held ≡ Some lead → b.held ≡ None → (u < 0xDC00) ⊎ (0xE000 ≤ u)
    → bytes_of b ≡ bytes_of a ++ encode_utf8 0xFFFD
    → SpellsOn b (u ∷ []) c → SpellsOn a (u ∷ []) c
on_apart a b c lead u h n apart e s =
    let first : (more : List ℕ) → bytes_of a ++ key_text (held_units a.held ++ (u ∷ more))
    ≡ bytes_of b ++ key_text (held_units b.held ++ (u ∷ more)) =
    λ more. rw (h, n, e)
    (ap (λ z. bytes_of a ++ z) (text_apart lead.unit u more apart ∙ ap (λ z. encode_utf8 z ++ key_text (u ∷ more)) (lone_lead lead))
    ∙ sym (append_assoc (bytes_of a) (encode_utf8 0xFFFD) (key_text (u ∷ more)))) in
    record {
      next = λ more. first more ∙ s.next more;
      tail = encode_utf8 0xFFFD ++ s.tail;
      grows = s.grows ∙ ap (λ z. z ++ s.tail) e ∙ append_assoc (bytes_of a) (encode_utf8 0xFFFD) s.tail;
    }

-- The key grows by the same units.
pub spells_on : (a b : Spelling) (run key : List ℕ) → SpellsOn a run b → Spells (bytes_of a) a.held key
    → Spells (bytes_of b) b.held (key ++ run)
spells_on a b run key s h = record { whole = λ more. ap key_text (append_assoc key run more) ∙ h.whole (run ++ more) ∙ s.next more }

-- ---- the whole text: a held unit is a lone surrogate

pub spelled_none : (text key : List ℕ) → Spells text None key → text ≡ key_text key
spelled_none text key s =
    sym (ap key_text (sym (append-nil key)) ∙ s.whole [] ∙ ap (λ z. text ++ z) text_nil ∙ append-nil text)

pub spelled_held : (text key : List ℕ) (lead : LeadSurrogate) → Spells text (Some lead) key → text ++ encode_utf8 0xFFFD ≡ key_text key
spelled_held text key lead s =
    let last : key_text (lead.unit ∷ []) ≡ encode_utf8 0xFFFD =
    text_lone lead.unit [] (λ p. omega arith) ∙ ap (λ z. encode_utf8 z ++ key_text []) (lone_lead lead)
    ∙ ap (λ z. encode_utf8 0xFFFD ++ z) text_nil ∙ append-nil (encode_utf8 0xFFFD) in
    sym (ap key_text (sym (append-nil key)) ∙ s.whole [] ∙ ap (λ z. text ++ z) last)

-- The empty key.
pub spells_nothing : Spells [] None []
spells_nothing = record { whole = λ more. refl }
