-- The bytes start with the parts, one after another, and the others are unchanged.
use Rattle.std.proofs.Common.{◌≡◌, drop}
use Rattle.icu_trie_binary.specs.Inside.Written.{joined, joined_length}
use Rattle.icu_trie_binary.proofs.JoinedParts.{drop-joined, front-joined}
use Rattle.icu_trie_binary.proofs.StoredForm.{answers-read}
use Rattle.icu_trie_binary.proofs.write.write_binary.Goals as goal

pub returns-clause-front : goal.returns-clause-front
returns-clause-front g c =
    let p = c.in_ok-parts.parts in
    let wrote : c.write.new.bytes ≡ joined p (drop (joined_length p) c.args.bytes.now) = c.write.ensures in
    rw wrote (front-joined p.header p.index.now p.padding.now p.values.now (drop (joined_length p) c.args.bytes.now) _
    c.in_ok-parts.ensures.front)

pub returns-clause-rest : goal.returns-clause-rest
returns-clause-rest g c =
    let p = c.in_ok-parts.parts in
    let wrote : c.write.new.bytes ≡ joined p (drop (joined_length p) c.args.bytes.now) = c.write.ensures in
    let len : p.len ≡ joined_length p = c.in_ok-parts.ensures.len in
    rw (len, wrote) (drop-joined p.header p.index.now p.padding.now p.values.now (drop (joined_length p) c.args.bytes.now)
    c.in_ok-parts.ensures.header)

pub returns-clause-answers : goal.returns-clause-answers
returns-clause-answers g c t n =
    let p = c.in_ok-parts.parts in
    let rest = drop (joined_length p) c.args.bytes.now in
    let wrote : c.write.new.bytes ≡ joined p rest = c.write.ensures in
    rw wrote (answers-read _ _ _ _ _ (joined p rest) t n (joined_length p) (c.in_ok-parts.ensures.stored rest))
