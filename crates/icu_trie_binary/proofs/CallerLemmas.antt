-- Lemmas for callers' proofs on tries in ICU's binary form: how a trie and its stored form agree.
pub use Rattle.icu_trie_binary.proofs.StoredForm.{answers-stored, coherent-stored, coherent-stored_far, coherent-stored_in, stored-one, stored_form-same}
