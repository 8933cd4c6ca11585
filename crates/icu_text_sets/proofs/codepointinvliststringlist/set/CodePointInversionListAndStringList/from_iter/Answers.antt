use Rattle.std.proofs.Common.{◌≡◌, ◌++◌, sym, map, List, ℕ, [], ◌∷◌, Bor}
use Rattle.std.proofs.lemmas.List.{map-append}
use Rattle.icu_text_sets.specs.TextSet.{texts_of}
use Rattle.icu_text_sets.proofs.Gathering.{gathered_none, with_string, with_char}
use Rattle.icu_text_sets.proofs.codepointinvliststringlist.set.CodePointInversionListAndStringList.from_iter.Goals as goal

more : (given : List (Bor (List ℕ))) (t : Bor (List ℕ))
    → map (λ (x : Bor (List ℕ)). x.now) (given ++ t ∷ []) ≡ map (λ (x : Bor (List ℕ)). x.now) given ++ t.now ∷ []
more given t = map-append (λ (x : Bor (List ℕ)). x.now) given (t ∷ [])

pub loop-text-init : goal.loop-text-init
loop-text-init g c = rw (c.new-builder.ensures, c.new-str_list.ensures.items) gathered_none

pub loop-text-preserved-in_ok-add_char-in-Some-only_char :
    goal.loop-text-preserved-in_ok-add_char-in-Some-only_char
loop-text-preserved-in_ok-add_char-in-Some-only_char g c =
    rw (more c.loop-text.yielded c.in-Some.text)
    (with_char _ c.loop-text.builder c.add_char.new.self (texts_of c.loop-text.str_list.items) c.in-Some.text.now c.in-Some-only_char.c
    c.loop-text.invariant
    c.in-Some-only_char.ensures.utf8 (sym c.in-Some-only_char.ensures.only) c.in_ok-add_char-in-Some-only_char.ensures.ok)

pub loop-text-preserved : goal.loop-text-preserved
loop-text-preserved g c =
    rw (more c.loop-text.yielded c.in-Some.text, c.in_ok-push_text-in-None-only_char.ensures)
    (with_string _ c.loop-text.builder (texts_of c.loop-text.str_list.items) c.in-Some.text.now c.loop-text.invariant
    (sym c.in-None-only_char.ensures.only))
