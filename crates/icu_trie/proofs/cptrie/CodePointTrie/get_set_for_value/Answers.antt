use Rattle.std.proofs.Common.{arith}
use Rattle.icu_trie.specs.Ranges.{answers}
use Rattle.icu_trie.proofs.IteratorLemmas.{AreRunsFrom-from_ranges}
use Rattle.icu_trie.proofs.SetLemmas.{IsInRangeOf-from_runs}
use Rattle.icu_trie.proofs.cptrie.CodePointTrie.get_set_for_value.Goals as goal

pub returns-clause-preimage : goal.returns-clause-preimage
returns-clause-preimage g c = λ coherent u lt.
    let set = c.in_ok-ends.ensures.set in
    let runs = AreRunsFrom-from_ranges g.T.TrieValue.of_number c.args.self.now coherent 0 set.0 (omega arith) set.1 in
    let same = IsInRangeOf-from_runs (answers c.args.self.now) c.args.value set.0 runs u lt in
    let ok = c.in_ok-set.ensures in
    let of = c.deref.ensures.value in
    rw (ok, of) (λ h. same.0 ((set.2 u lt).0 h), λ e. (set.2 u lt).1 (same.1 e))

pub from_valid_slice-requires : goal.from_valid_slice-requires
from_valid_slice-requires g c = rw c.deref.ensures.value c.in_ok-ends.ensures.valid
