use Rattle.std.proofs.Common.{◌≡◌, ◌∙◌, ◌+◌, drop, false, true, get_or, rules, string_bytes, sym, arith}
use Rattle.std.specs.Char.{is_ascii_alphanumeric}
use Rattle.std.proofs.lemmas.List.{drop_all, drop_more}
use Rattle.ucptrie_names.proofs.WordLemmas.{with_rest-all, with_rest-between, with_rest-letter, with_rest-none}
use Rattle.ucptrie_names.proofs.value_names.push_words.Goals as goal

pub loop-byte-init : goal.loop-byte-init
loop-byte-init c = with_rest-all (string_bytes c.args.text.now) c.args.name.now

pub loop-byte-preserved-then-not-is_ascii_alphanumeric : goal.loop-byte-preserved-then-not-is_ascii_alphanumeric
loop-byte-preserved-then-not-is_ascii_alphanumeric c =
    let i = c.loop-byte.byte-index in
    let name = c.args.name.now in
    let other : is_ascii_alphanumeric (get_or name i 0) ≡ false = search rules in
    with_rest-between c.loop-byte.is_first (string_bytes c.loop-byte.text) (drop i name) (drop (i + 1) name) (get_or name i 0)
    (drop_more name i 0 c.loop-byte-test.true) other ∙ c.loop-byte.invariant

pub loop-byte-preserved : goal.loop-byte-preserved
loop-byte-preserved c =
    let i = c.loop-byte.byte-index in
    let name = c.args.name.now in
    let letter : is_ascii_alphanumeric (get_or name i 0) ≡ true = search rules in
    with_rest-letter c.loop-byte.is_first (string_bytes c.loop-byte.text) (string_bytes c.push_letter.new.text) (drop i name)
    (drop (i + 1) name) (get_or name i 0) (drop_more name i 0 c.loop-byte-test.true) letter c.in_ok-push_letter.ensures
    ∙ c.loop-byte.invariant

pub returns : goal.returns
returns c =
    let i = c.loop-byte.byte-index in
    let name = c.args.name.now in
    sym (with_rest-none c.loop-byte.is_first (string_bytes c.loop-byte.text) (drop i name) (drop_all i name (omega arith)))
    ∙ c.loop-byte.invariant
