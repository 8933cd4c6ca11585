-- The values of each width are numbers.
use Rattle.std.proofs.Common.{refl}
use Rattle.icu_collections_c.proofs.BuildingLemmas.{if_err-numbers, if_ok-numbers}
use Rattle.icu_collections_c.proofs.building.built.Goals as goal

pub returns-in-1-clause-built : goal.returns-in-1-clause-built
returns-in-1-clause-built c =
    rw c.in-1.is
    (if_ok-numbers 1 c.args.rows.now c.args.default c.args.error c.in-Some.trie_type c.args.trie_type c.in-Some.ensures.some
    (λ v. v.items) c.built_in.result c.built_in.ensures.built)

pub returns-in-1-clause-err : goal.returns-in-1-clause-err
returns-in-1-clause-err c =
    rw c.in-1.is
    (if_err-numbers 1 c.args.rows.now c.args.default c.args.error c.in-Some.trie_type c.args.trie_type c.in-Some.ensures.some
    _ refl c.built_in.result c.built_in.ensures.err)

pub returns-in-2-clause-built : goal.returns-in-2-clause-built
returns-in-2-clause-built c =
    rw c.in-2.is
    (if_ok-numbers 2 c.args.rows.now c.args.default c.args.error c.in-Some.trie_type c.args.trie_type c.in-Some.ensures.some
    (λ v. v.items) c.built_in-in-2.result c.built_in-in-2.ensures.built)

pub returns-in-2-clause-err : goal.returns-in-2-clause-err
returns-in-2-clause-err c =
    rw c.in-2.is
    (if_err-numbers 2 c.args.rows.now c.args.default c.args.error c.in-Some.trie_type c.args.trie_type c.in-Some.ensures.some
    _ refl c.built_in-in-2.result c.built_in-in-2.ensures.err)

pub returns-in-4-clause-built : goal.returns-in-4-clause-built
returns-in-4-clause-built c =
    rw c.in-4.is
    (if_ok-numbers 4 c.args.rows.now c.args.default c.args.error c.in-Some.trie_type c.args.trie_type c.in-Some.ensures.some
    (λ v. v.items) c.built_in-in-4.result c.built_in-in-4.ensures.built)

pub returns-in-4-clause-err : goal.returns-in-4-clause-err
returns-in-4-clause-err c =
    rw c.in-4.is
    (if_err-numbers 4 c.args.rows.now c.args.default c.args.error c.in-Some.trie_type c.args.trie_type c.in-Some.ensures.some
    _ refl c.built_in-in-4.result c.built_in-in-4.ensures.err)
