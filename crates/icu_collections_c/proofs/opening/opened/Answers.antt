-- The result is the trie that was found, of whichever width.
use Rattle.std.proofs.Common.{refl}
use Rattle.icu_collections_c.proofs.OpeningLemmas.{opened-kept}
use Rattle.icu_collections_c.proofs.opening.opened.Goals.{in-Bits8, in-Bits16, in-Bits32}
use Rattle.icu_collections_c.proofs.opening.opened.Goals as goal

pub returns-clause-ok : goal.returns-clause-ok
returns-clause-ok c = elim c.match-trie.branch [
  | in-Bits8 w ↦ rw w.result-is
      (opened-kept 1 c.args.bytes.now w.kept.result w.in-Bits8.trie c.in_ok-trie.size refl (rw w.in-Bits8.is at c.in_ok-trie.ensures.ok)
      w.kept.ensures.parts w.kept.ensures.sound w.kept.ensures.limit w.kept.ensures.width w.kept.ensures.size)
  | in-Bits16 w ↦ rw w.result-is
      (opened-kept 2 c.args.bytes.now w.kept-in-Bits16.result w.in-Bits16.trie c.in_ok-trie.size refl
      (rw w.in-Bits16.is at c.in_ok-trie.ensures.ok)
      w.kept-in-Bits16.ensures.parts w.kept-in-Bits16.ensures.sound w.kept-in-Bits16.ensures.limit
      w.kept-in-Bits16.ensures.width w.kept-in-Bits16.ensures.size)
  | in-Bits32 w ↦ rw w.result-is
      (opened-kept 4 c.args.bytes.now w.kept-in-Bits32.result w.in-Bits32.trie c.in_ok-trie.size refl
      (rw w.in-Bits32.is at c.in_ok-trie.ensures.ok)
      w.kept-in-Bits32.ensures.parts w.kept-in-Bits32.ensures.sound w.kept-in-Bits32.ensures.limit
      w.kept-in-Bits32.ensures.width w.kept-in-Bits32.ensures.size)
]
