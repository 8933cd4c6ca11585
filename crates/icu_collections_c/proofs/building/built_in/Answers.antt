-- The writes are those of the rows, and the trie that is written is the one that they make.
use Rattle.std.proofs.Common.{◌≡◌, ◌∙◌, Err, ap, rules}
use Rattle.std.proofs.lemmas.Result.{err_from_is_err_and}
use Rattle.icu_trie_binary.specs.WrittenTrie.{stored_form}
use Rattle.icu_trie_builder.specs.Writes.{value_after}
use Rattle.icu_collections_c.proofs.BoundLemmas.{size-of_rows}
use Rattle.icu_collections_c.proofs.CoherenceLemmas.{coherent-stored_form}
use Rattle.icu_collections_c.proofs.BuildingLemmas.{AreFitting-from, stored-of_rows, too_large-of_rows, trie-of_rows, well-of_rows, why-build, why-write}
use Rattle.icu_collections_c.specs.Inside.BuiltValues.{AreWritesOf, of_build, of_write}
use Rattle.icu_collections_c.proofs.building.built_in.Goals as goal

pub returns-in_err-trie-clause-err : goal.returns-in_err-trie-clause-err
returns-in_err-trie-clause-err g c =
    let number = g.T.TrieValue.number in
    let rows = c.args.rows.now in
    let default = c.args.default in
    let error = c.args.error in
    let d = c.in-Ok-Ok.default in
    let e = c.in-Ok-Ok.error in
    let is : AreWritesOf number rows c.deref.result.now = rw c.deref.ensures.value c.in_ok-writes.ensures in
    let d-is = g.met.T.UnsignedValue.number_is default d c.in-Ok-Ok.ensures.ok in
    let e-is = g.met.T.UnsignedValue.number_is error e c.in-Ok-Ok.ensures'.ok in
    let given : c.from_residual-in_err-trie.result ≡ Err (of_build c.in_err-trie.field-0.0) = search rules in
    rw given (why-build number g.T.TrieValue.of_number g.T.AsULE.WIDTH rows default error c.args.trie_type _
    (AreFitting-from g.T.TrieValue.of_number rows default error d e (c.rows_fit.ensures.0 c.if-not-rows_fit.false) c.in-Ok-Ok.ensures.ok
    c.in-Ok-Ok.ensures'.ok)
    c.in_err-trie.field-0.0
    (λ large. too_large-of_rows number rows c.deref.result.now is d e default error d-is e-is
    (c.in_err-trie.ensures.too_large (ap (λ x. Err x) large)) (λ few. c.in_err-trie.ensures.few few (ap (λ x. Err x) large))))

pub returns-in_err-to_binary-clause-err : goal.returns-in_err-to_binary-clause-err
returns-in_err-to_binary-clause-err g c =
    let number = g.T.TrieValue.number in
    let rows = c.args.rows.now in
    let default = c.args.default in
    let error = c.args.error in
    let d = c.in-Ok-Ok.default in
    let e = c.in-Ok-Ok.error in
    let is : AreWritesOf number rows c.deref.result.now = rw c.deref.ensures.value c.in_ok-writes.ensures in
    let d-is = g.met.T.UnsignedValue.number_is default d c.in-Ok-Ok.ensures.ok in
    let e-is = g.met.T.UnsignedValue.number_is error e c.in-Ok-Ok.ensures'.ok in
    let came = err_from_is_err_and c.from_residual-in_err-to_binary.result c.from_residual-in_err-to_binary.ensures.1 in
    let given : c.from_residual-in_err-to_binary.result ≡ Err (of_write c.in_err-to_binary.field-0.0) = came.1 ∙ ap (λ y. Err y) came.2 in
    rw given (why-write number g.T.TrieValue.of_number g.T.AsULE.WIDTH rows default error c.args.trie_type _
    (AreFitting-from g.T.TrieValue.of_number rows default error d e (c.rows_fit.ensures.0 c.if-not-rows_fit.false) c.in-Ok-Ok.ensures.ok
    c.in-Ok-Ok.ensures'.ok)
    c.in_ok-trie.trie
    (trie-of_rows number rows c.deref.result.now is d e default error d-is e-is
    c.in_ok-trie.trie c.in_ok-trie.ensures.trie.answers c.args.trie_type c.in_ok-trie.ensures.trie.trie_type)
    (well-of_rows number rows c.deref.result.now is d e default error d-is e-is g.T.TrieValue.of_number c.in_ok-trie.trie
    c.in_ok-trie.ensures.trie.built)
    c.in_err-to_binary.field-0.0 c.in_err-to_binary.ensures.err)

pub returns-clause-fits : goal.returns-clause-fits
returns-clause-fits g c =
    let number = g.T.TrieValue.number in
    let rows = c.args.rows.now in
    let default = c.args.default in
    let error = c.args.error in
    let d = c.in-Ok-Ok.default in
    let e = c.in-Ok-Ok.error in
    AreFitting-from g.T.TrieValue.of_number rows default error d e (c.rows_fit.ensures.0 c.if-not-rows_fit.false) c.in-Ok-Ok.ensures.ok
    c.in-Ok-Ok.ensures'.ok

pub returns-clause-built : goal.returns-clause-built
returns-clause-built g c =
    let number = g.T.TrieValue.number in
    let rows = c.args.rows.now in
    let default = c.args.default in
    let error = c.args.error in
    let d = c.in-Ok-Ok.default in
    let e = c.in-Ok-Ok.error in
    let is : AreWritesOf number rows c.deref.result.now = rw c.deref.ensures.value c.in_ok-writes.ensures in
    let d-is = g.met.T.UnsignedValue.number_is default d c.in-Ok-Ok.ensures.ok in
    let e-is = g.met.T.UnsignedValue.number_is error e c.in-Ok-Ok.ensures'.ok in
    let width = g.T.AsULE.WIDTH in
    record {
      trie = stored_form width number c.in_ok-trie.trie;
      stored = c.in_ok-to_binary.ensures.read;
      of_rows = stored-of_rows number rows c.deref.result.now is d e default error d-is e-is
          c.in_ok-trie.trie c.in_ok-trie.ensures.trie.answers c.args.trie_type c.in_ok-trie.ensures.trie.trie_type width;
      coherent = coherent-stored_form g.T.AsULE.unpack width number g.T.TrieValue.of_number (value_after c.deref.result.now d) e
          c.in_ok-trie.trie c.in_ok-trie.ensures.trie.answers c.in_ok-trie.ensures.trie.built _ _ c.in_ok-to_binary.ensures.read
          c.in_ok-to_binary.ensures.room;
      size = size-of_rows number d c.deref.result.now rows is g.T.TrieValue.of_number c.in_ok-trie.trie c.args.trie_type
          c.in_ok-trie.ensures.trie.trie_type c.in_ok-trie.ensures.trie.built width _ c.in_ok-to_binary.ensures.len;
    }
