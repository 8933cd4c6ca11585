use Rattle.std.proofs.Common.{◌≡◌, drop, string_bytes}
use Rattle.ucptrie_names.specs.ValueIdentifiers.{with_words, words}
use Rattle.ucptrie_names.proofs.WordLemmas.{with_rest}
use Rattle.ucptrie_names.proofs.value_names.push_words.Given as goal

-- the text so far, and the words of what is left, are the whole
abbrev pub invariant-loop-byte : goal.invariant-loop-byte
invariant-loop-byte l =
    with_rest l.is_first (string_bytes l.text) (drop l.byte-index l.name) ≡ with_words (string_bytes l.initial.text) (words l.name)
