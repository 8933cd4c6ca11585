use Rattle.std.proofs.Common.{◌≡◌, ◌∙◌, ◌+◌, ◌++◌, ◌∷◌, [], sym, subst, append-nil, to_z, of_z, w32, rules}
use Rattle.std.specs.Prelude.{map}
use Rattle.std.proofs.lemmas.Int.{to_z-of_z}
use Rattle.std.proofs.lemmas.List.{length-map}
use Rattle.icu_char16trie.specs.Matches.{match_at}
use Rattle.icu_zerovec.specs.Buffers.{written}
use Rattle.icu_collections_c.specs.UnitPrefixes.{HasFound, prefix_of}
use Rattle.icu_collections_c.proofs.UnitPrefixLemmas.{HasFound-more}
use Rattle.icu_collections_c.proofs.unit_prefixes.put.Goals as goal

pub returns-in_default : goal.returns-in_default
returns-in_default c = λ xs all was.
    subst (λ v. HasFound (xs ++ match_at c.args.length v) all c.args.found.now c.args.count) (sym c.in_default.is)
    (subst (λ ys. HasFound ys all c.args.found.now c.args.count) (sym (append-nil xs)) was)

pub returns : goal.returns
returns c = λ xs all was.
    let same : to_z w32 (of_z w32 c.in-Some.value) ≡ c.in-Some.value = to_z-of_z w32 c.in-Some.value (search rules) in
    subst (λ v. HasFound (xs ++ match_at c.args.length v) all c.put.new.buffer (c.args.count + 1)) (sym c.in-Some.is)
    (HasFound-more xs all c.args.found.now c.put.new.buffer c.args.count (c.args.length, c.in-Some.value) was
    (subst (λ v. c.put.new.buffer ≡ written (map prefix_of xs ++ (record { length = c.args.length; value = v }) ∷ []) all) same
    (c.put.ensures (map prefix_of xs) all (was.count ∙ sym (length-map xs prefix_of)) was.buffer)))
