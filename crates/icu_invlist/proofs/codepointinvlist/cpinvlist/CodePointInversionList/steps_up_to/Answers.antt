use Rattle.std.proofs.Common.{◌*◌, ◌+◌, suc, get_or, arith, ap, sym, ◌∙◌}
use Rattle.icu_invlist.specs.InversionList.{IsValid}
use Rattle.icu_invlist.specs.Inside.Places.{ends_below}
use Rattle.icu_invlist.proofs.PackedWords.{bytes-length, word_up_to}
use Rattle.icu_invlist.proofs.Searches.{words_counted}
use Rattle.icu_invlist.proofs.codepointinvlist.cpinvlist.CodePointInversionList.steps_up_to.Goals as goal

pub last_words-requires-clause-within : goal.last_words-requires-clause-within
last_words-requires-clause-within c =
    let n = bytes-length c.as_bytes.result.now c.args.self.now c.as_bytes.ensures.packed (sym c.self.view_is ∙ c.as_bytes.ensures.values) in
    let w = c.requires.within in omega arith

pub returns : goal.returns
returns c =
    let b = c.as_bytes.result.now in
    let xs = c.args.self.now in
    let low = c.args.low in
    let step = c.args.step in
    let packed = c.as_bytes.ensures.packed in
    let same = sym c.self.view_is ∙ c.as_bytes.ensures.values in
    let valid : IsValid xs = rw (← c.self.view_is) c.self.invariant.0 in
    let some = c.requires.some in
    let first = c.requires.first in
    let within = c.requires.within in
    let small = c.requires.small in
    words_counted (ends_below xs (suc c.args.c)) low step c.from.result c.from-2.result c.from-3.result _ _ _ some c.requires.from
    c.from.ensures c.from-2.ensures c.from-3.ensures
    (word_up_to b xs (low + step) c.args.c _ _ packed same valid (omega arith) (omega arith) (ap (λ l. get_or l 0 0) c.last_words.ensures)
    (omega arith))
    (word_up_to b xs (low + 2 * step) c.args.c _ _ packed same valid (omega arith) (omega arith) (ap (λ l. get_or l 1 0) c.last_words.ensures)
    (omega arith))
    (word_up_to b xs (low + 3 * step) c.args.c _ _ packed same valid (omega arith) (omega arith) (ap (λ l. get_or l 2 0) c.last_words.ensures)
    (omega arith))
