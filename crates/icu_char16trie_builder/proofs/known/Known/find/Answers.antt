use Rattle.std.proofs.Common.{rules, ◌≡◌, ◌<◌, true, Some, slice_get, get_or, length, sym, ap, subst, ◌∙◌}
use Rattle.std.proofs.lemmas.Option.{slice_get-get_or}
use Rattle.icu_char16trie_builder.proofs.StepLemmas.{known_at}
use Rattle.icu_char16trie_builder.proofs.known.Known.find.Goals as goal

pub returns : goal.returns
returns c units known =
    let i = c.in_ok-i.field-0.now in
    let k = c.in_ok-known.known.now in
    let yes : c.are_alike.result ≡ true = search rules in
    let within : i < length c.deref.result.now = c.in_ok-known.ensures.lookup.3.0 in
    let is : k ≡ get_or c.deref.result.now i k = c.in_ok-known.ensures.lookup.1 in
    let same : c.deref.result.now ≡ c.args.self.now = search rules in
    let at : slice_get c.args.self.now i ≡ Some k =
    subst (λ z. slice_get z i ≡ Some k) same (slice_get-get_or c.deref.result.now i k within ∙ ap Some (sym is)) in
    known_at units c.args.self.now i k _ known at (c.are_alike.ensures yes)
