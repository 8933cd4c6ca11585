use Rattle.std.proofs.Common.{◌≡◌, ◌+◌, ◌-◌, ◌<◌, ℕ, true, get_or, length, arith, ◌∙◌, ap, sym, subst}
use Rattle.std.proofs.lemmas.List.{get_or_read}
use Rattle.icu_trie_core.specs.Blocks.{window}
use Rattle.icu_trie_builder.specs.Inside.Compaction.Hashes.{bucket}
use Rattle.icu_trie_builder.specs.Inside.Compaction.Windows.{IsLeast}
use Rattle.icu_trie_builder.proofs.CompactionLemmas.Windows.{part-decides}
use Rattle.icu_trie_builder.proofs.CompactionLemmas.TableLemmas.{bucket-is}
use Rattle.icu_trie_builder.proofs.compaction.window_table.WindowTable.find.Goals as goal

pub loop-at-init : goal.loop-at-init
loop-at-init c =
    let t = c.requires.table in
    let l = t.chained in
    let heads = c.args.self.now.heads.items in
    let i : ℕ = c.bucket_of.result in
    let is : i ≡ bucket (length heads) c.args.wanted.now =
    bucket-is (length heads) i c.args.hash c.args.wanted.now c.bucket_of.ensures.value c.requires.hash in
    let head : c.index.result.now ≡ get_or heads i 0 = get_or_read heads i c.index.result.now c.bucket_of.ensures.below c.index.ensures 0 in
    record {
      bound = omega (arith, head, l.head_bound i);
      own = λ e s. l.head_own i e c.bucket_of.ensures.below (sym head ∙ s) ∙ is;
      all = λ e lt w. omega (arith, head, l.head_all e lt, ap (λ x. get_or heads x 0) (ap (bucket (length heads)) w ∙ sym is));
    }

pub returns-then-eq-clause-found : goal.returns-then-eq-clause-found
returns-then-eq-clause-found c =
    let k : ℕ = c.args.self.now.size in
    let starts = c.args.self.now.starts.items in
    let e : ℕ = c.loop-at.at - 1 in
    let from : ℕ = c.index-in-loop-at.result.now in
    let lt : e < length starts = omega (arith, c.loop-at.invariant.bound, c.loop-at-test.true) in
    let is : from ≡ get_or starts e 0 = get_or_read starts e from lt c.index-in-loop-at.ensures 0 in
    let here = part-decides c.args.cells.now c.args.wanted.now from (from + k) k c.eq.result c.eq.ensures (omega arith) in
    let first : IsLeast k from c.args.cells.now (window k from c.args.cells.now) =
    subst (λ x. IsLeast k x c.args.cells.now (window k x c.args.cells.now)) (sym is) (c.requires.table.least e lt) in
    (omega (arith, is, c.requires.table.below e lt), subst (λ x. IsLeast k from c.args.cells.now x) (here.0 c.if-eq.true) first)

pub loop-at-preserved : goal.loop-at-preserved
loop-at-preserved c =
    let k : ℕ = c.args.self.now.size in
    let starts = c.args.self.now.starts.items in
    let next = c.args.self.now.next.items in
    let h = bucket (length c.args.self.now.heads.items) in
    let e : ℕ = c.loop-at.at - 1 in
    let from : ℕ = c.index-in-loop-at.result.now in
    let t = c.requires.table.chained in
    let v = c.loop-at.invariant in
    let lt : e < length starts = omega (arith, v.bound, c.loop-at-test.true) in
    let at : c.loop-at.at ≡ e + 1 = omega (arith, c.loop-at-test.true) in
    let is : from ≡ get_or starts e 0 = get_or_read starts e from lt c.index-in-loop-at.ensures 0 in
    let here = part-decides c.args.cells.now c.args.wanted.now from (from + k) k c.eq.result c.eq.ensures (omega arith) in
    let link : c.index-in-loop-at-2.result.now ≡ get_or next e 0 =
    get_or_read next e c.index-in-loop-at-2.result.now (omega (arith, lt, t.links)) c.index-in-loop-at-2.ensures 0 in
    record {
      bound = omega (arith, link, t.next_bound e lt, lt);
      own = λ q s. t.next_own e q lt (sym link ∙ s) ∙ v.own e at;
      all = λ q less w.
          let apart : q ≡ e → ⊥ = λ s. let r : c.eq.result ≡ true =
          here.1 (ap (λ x. window k x c.args.cells.now) (is ∙ ap (λ i. get_or starts i 0) (sym s)) ∙ w) in cc in
          let below : q < e = omega (arith, v.all q less w, apart, at) in
          omega (arith, link, t.next_all e q below lt (ap h w ∙ sym (v.own e at)));
    }

pub returns-clause-none : goal.returns-clause-none
returns-clause-none c = λ q lt e.
    let w = c.requires.table.all q lt in
    omega (arith, c.loop-at.invariant.all w.0 w.1 (w.2 ∙ e), c.loop-at-test.false)
