use Rattle.std.proofs.Common.{◌≡◌, ◌-◌, length, take, drop, string_bytes, true, false, Some, arith, sym, ◌∙◌, refl}
use Rattle.std.proofs.lemmas.List.{take_rest}
use Rattle.std.specs.Prelude.{is_some}
use Rattle.std.specs.List.{list_all}
use Rattle.ucptab_table.proofs.WordSteps.{length-filter_map, asked_of_all, asked_of_some, three_words}
use Rattle.ucptab_table.specs.TableText.{hexadecimal}
use Rattle.ucptab_table.specs.Words.{trie_type_of, value_of}
use Rattle.ucptab_table.proofs.words.request_of.Goals as goal

pub returns-then-not-are_hexadecimal-clause-value : goal.returns-then-not-are_hexadecimal-clause-value
returns-then-not-are_hexadecimal-clause-value c =
    let words = c.args.words.now in
    let three = three_words string_bytes words c.kind-item.result c.default-item.result c.error-item.result (omega arith) c.kind-item.is
    c.default-item.is c.error-item.is in
    let kind : trie_type_of (string_bytes c.kind-item.result) ≡ Some c.in_ok-trie_type.trie_type =
    rw (← c.as_bytes.ensures.value) (sym c.in_ok-trie_type.ensures) in
    let default : value_of (string_bytes c.default-item.result) ≡ Some c.in_ok-default.default =
    rw (← c.as_bytes-2.ensures.value) (sym c.in_ok-default.ensures) in
    let error : value_of (string_bytes c.error-item.result) ≡ Some c.in_ok-error.error =
    rw (← c.as_bytes-3.ensures.value) (sym c.in_ok-error.ensures) in
    let rest : take (length words - 3) (drop 3 words) ≡ drop 3 words = take_rest words 3 in
    let some : list_all (λ word. is_some (hexadecimal (string_bytes word))) (drop 3 words) ≡ false =
    rw rest at (sym c.are_hexadecimal.ensures ∙ c.if-not-are_hexadecimal.true) in
    three ∙ rw (kind, default, error, asked_of_some string_bytes (drop 3 words) some) refl

pub returns-clause-value : goal.returns-clause-value
returns-clause-value c =
    let words = c.args.words.now in
    let three = three_words string_bytes words c.kind-item.result c.default-item.result c.error-item.result (omega arith) c.kind-item.is
    c.default-item.is c.error-item.is in
    let kind : trie_type_of (string_bytes c.kind-item.result) ≡ Some c.in_ok-trie_type.trie_type =
    rw (← c.as_bytes.ensures.value) (sym c.in_ok-trie_type.ensures) in
    let default : value_of (string_bytes c.default-item.result) ≡ Some c.in_ok-default.default =
    rw (← c.as_bytes-2.ensures.value) (sym c.in_ok-default.ensures) in
    let error : value_of (string_bytes c.error-item.result) ≡ Some c.in_ok-error.error =
    rw (← c.as_bytes-3.ensures.value) (sym c.in_ok-error.ensures) in
    let rest : take (length words - 3) (drop 3 words) ≡ drop 3 words = take_rest words 3 in
    let all : list_all (λ word. is_some (hexadecimal (string_bytes word))) (drop 3 words) ≡ true =
    rw rest at (sym c.are_hexadecimal.ensures ∙ c.if-not-are_hexadecimal.false) in
    three ∙ rw (kind, default, error, asked_of_all string_bytes (drop 3 words) all, rest) refl

pub returns-clause-all : goal.returns-clause-all
returns-clause-all c =
    length-filter_map (λ word. hexadecimal (string_bytes word)) _ (sym c.are_hexadecimal.ensures ∙ c.if-not-are_hexadecimal.false)
