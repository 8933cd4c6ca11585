-- What the longest key and the first character say, for any words and units, and for a set that they store.
use Rattle.std.proofs.Common.{◌≡◌, ◌∙◌, ap, sym, true, false}
use Rattle.icu_char16trie.specs.Matches.{HasValueAlong}
use Rattle.icu_char16trie.specs.UnitMap.{value_of}
use Rattle.icu_frozen_sets.specs.FrozenWords.{is_held}
use Rattle.icu_invlist.specs.InversionList.{holds}
use Rattle.icu_collections_c.specs.TextSets.{IsMember, IsTextOf}
use Rattle.icu_collections_c.specs.UnitTries.{units_of}
use Rattle.icu_collections_c.proofs.TextSetLemmas.{found_char, found_none, found_string, longest_by, longest_nowhere, stored_member}
use Rattle.icu_collections_c.proofs.text_sets.longest_member.Goals as goal

pub returns-in_default-clause-exact : goal.returns-in_default-clause-exact
returns-in_default-clause-exact c =
    longest_nowhere (is_held c.args.table.now) (HasValueAlong (units_of c.args.units.now)) c.args.bytes.now c.in_default.ensures

pub returns-in_default-clause-set : goal.returns-in_default-clause-set
returns-in_default-clause-set c = λ set s.
    let units = units_of c.args.units.now in
    longest_by (IsMember (holds set.code_points) (λ w v. value_of s.map w ≡ v)) (IsTextOf set)
    (stored_member c.args.table.now units set s) c.args.bytes.now 0
    (longest_nowhere (holds set.code_points) (λ w v. value_of s.map w ≡ v) c.args.bytes.now c.in_default.ensures)

pub returns-then-longest-size-clause-exact : goal.returns-then-longest-size-clause-exact
returns-then-longest-size-clause-exact c =
    found_string (is_held c.args.table.now) (HasValueAlong (units_of c.args.units.now)) c.args.bytes.now c.in-Some.c c.in-Some.size
    c.in-Some.ensures c.longest_in.result c.longest_in.ensures.exact c.size_of-longest.result c.size_of-longest.ensures
    c.longest_in.ensures.boundary c.if-longest-size.true

pub returns-then-longest-size-clause-set : goal.returns-then-longest-size-clause-set
returns-then-longest-size-clause-set c = λ set s.
    let units = units_of c.args.units.now in
    longest_by (IsMember (holds set.code_points) (λ w v. value_of s.map w ≡ v)) (IsTextOf set)
    (stored_member c.args.table.now units set s) c.args.bytes.now c.size_of-longest.result
    (found_string (holds set.code_points) (λ w v. value_of s.map w ≡ v) c.args.bytes.now c.in-Some.c c.in-Some.size c.in-Some.ensures
    c.longest_in.result (c.longest_in.ensures.keys s.map s.trie) c.size_of-longest.result c.size_of-longest.ensures
    c.longest_in.ensures.boundary c.if-longest-size.true)

pub returns-then-bks_frozen_contains-clause-exact : goal.returns-then-bks_frozen_contains-clause-exact
returns-then-bks_frozen_contains-clause-exact c =
    let held : is_held c.args.table.now c.in-Some.c ≡ true =
    sym (c.bks_frozen_contains.ensures.exact ∙ ap (is_held c.args.table.now) c.from.ensures) ∙ c.if-bks_frozen_contains.true in
    found_char (is_held c.args.table.now) (HasValueAlong (units_of c.args.units.now)) c.args.bytes.now c.in-Some.c c.in-Some.size
    c.in-Some.ensures c.longest_in.result c.longest_in.ensures.exact c.size_of-longest.result c.size_of-longest.ensures
    c.if-longest-size.false held

pub returns-then-bks_frozen_contains-clause-set : goal.returns-then-bks_frozen_contains-clause-set
returns-then-bks_frozen_contains-clause-set c = λ set s.
    let units = units_of c.args.units.now in
    let held : holds set.code_points c.in-Some.c ≡ true =
    sym (c.bks_frozen_contains.ensures.set set.code_points s.table s.rest s.frozen s.words_are ∙ ap (holds set.code_points) c.from.ensures)
    ∙ c.if-bks_frozen_contains.true in
    longest_by (IsMember (holds set.code_points) (λ w v. value_of s.map w ≡ v)) (IsTextOf set)
    (stored_member c.args.table.now units set s) c.args.bytes.now c.in-Some.size
    (found_char (holds set.code_points) (λ w v. value_of s.map w ≡ v) c.args.bytes.now c.in-Some.c c.in-Some.size c.in-Some.ensures
    c.longest_in.result (c.longest_in.ensures.keys s.map s.trie) c.size_of-longest.result c.size_of-longest.ensures
    c.if-longest-size.false held)

pub returns-clause-exact : goal.returns-clause-exact
returns-clause-exact c =
    let held : is_held c.args.table.now c.in-Some.c ≡ false =
    sym (c.bks_frozen_contains.ensures.exact ∙ ap (is_held c.args.table.now) c.from.ensures) ∙ c.if-bks_frozen_contains.false in
    found_none (is_held c.args.table.now) (HasValueAlong (units_of c.args.units.now)) c.args.bytes.now c.in-Some.c c.in-Some.size
    c.in-Some.ensures c.longest_in.result c.longest_in.ensures.exact c.size_of-longest.result c.size_of-longest.ensures
    c.if-longest-size.false held

pub returns-clause-set : goal.returns-clause-set
returns-clause-set c = λ set s.
    let units = units_of c.args.units.now in
    let held : holds set.code_points c.in-Some.c ≡ false =
    sym (c.bks_frozen_contains.ensures.set set.code_points s.table s.rest s.frozen s.words_are ∙ ap (holds set.code_points) c.from.ensures)
    ∙ c.if-bks_frozen_contains.false in
    longest_by (IsMember (holds set.code_points) (λ w v. value_of s.map w ≡ v)) (IsTextOf set)
    (stored_member c.args.table.now units set s) c.args.bytes.now 0
    (found_none (holds set.code_points) (λ w v. value_of s.map w ≡ v) c.args.bytes.now c.in-Some.c c.in-Some.size c.in-Some.ensures
    c.longest_in.result (c.longest_in.ensures.keys s.map s.trie) c.size_of-longest.result c.size_of-longest.ensures
    c.if-longest-size.false held)
