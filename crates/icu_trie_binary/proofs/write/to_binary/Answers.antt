-- The bytes are the parts, one after another.
use Rattle.std.proofs.Common.{◌≡◌, [], rules}
use Rattle.icu_trie_binary.specs.Inside.Written.{joined, joined_length}
use Rattle.icu_trie_binary.proofs.JoinedParts.{front-joined}
use Rattle.icu_trie_binary.proofs.StoredForm.{answers-read}
use Rattle.icu_trie_binary.proofs.write.to_binary.Goals as goal

pub returns-clause-front : goal.returns-clause-front
returns-clause-front g c =
    let is : c.append.new.bytes.items ≡ joined c.in_ok-parts.parts [] = search rules in
    let p = c.in_ok-parts.parts in
    rw is (front-joined p.header p.index.now p.padding.now p.values.now [] _ c.in_ok-parts.ensures.front)

pub returns-clause-answers : goal.returns-clause-answers
returns-clause-answers g c t n =
    let p = c.in_ok-parts.parts in
    let is : c.append.new.bytes.items ≡ joined p [] = search rules in
    rw is (answers-read _ _ _ _ _ (joined p []) t n (joined_length p) (c.in_ok-parts.ensures.stored []))
