use Rattle.std.proofs.Common.{rules, ◌≡◌, ◌+◌, ℕ, [], ◌∷◌, ◌++◌, set, get_or, length, ◌∙◌, ap, sym, refl}
use Rattle.std.proofs.lemmas.List.{get_or_read, length-append, length-set, with_items_is}
use Rattle.icu_trie_core.specs.Blocks.{window}
use Rattle.icu_trie_builder.proofs.CompactionLemmas.TableLemmas.{table-again, table-added, table-restored, bucket-is, part-window}
use Rattle.std.specs.Vec.{with_items}
use Rattle.icu_trie_builder.specs.declared.compaction.window_table.WindowTable.{WindowTable}
use Rattle.icu_trie_builder.proofs.compaction.window_table.WindowTable.enter.Goals as goal

pub returns-in-Some-clause-table : goal.returns-in-Some-clause-table
returns-in-Some-clause-table c =
    let f = c.in-Some.ensures.found in
    let t = c.args.self.now in
    let w = c.requires.table.all c.in-Some._first f.0 in
    table-again c.args.cells.now t (t.entered + 1) c.requires.table refl c.requires.inside
    (w.0, w.1, w.2 ∙ (f.1.here ∙ part-window t.size t.entered c.args.cells.now))

pub returns-in_err-reserve-clause-table : goal.returns-in_err-reserve-clause-table
returns-in_err-reserve-clause-table c =
    let t = c.args.self.now in
    table-restored c.args.cells.now t (record t { next = c.reserve.new.self }) refl c.reserve.ensures.items c.requires.table

pub returns-in_err-push-clause-table : goal.returns-in_err-push-clause-table
returns-in_err-push-clause-table c =
    let t = c.args.self.now in
    table-restored c.args.cells.now t (record t { starts = c.push.new.self; next = c.reserve.new.self }) (search rules)
    c.reserve.ensures.items c.requires.table

pub returns-clause-table : goal.returns-clause-table
returns-clause-table c =
    let t = c.args.self.now in
    let cells = c.args.cells.now in
    let heads = t.heads.items in
    let i : ℕ = c.bucket_of-bucket.result in
    let part = part-window t.size t.entered cells in
    let head : c.index-newest.result.now ≡ get_or heads i 0 =
    get_or_read heads i c.index-newest.result.now c.bucket_of-bucket.ensures.below c.index-newest.ensures 0 in
    let starts : c.push.new.self.items ≡ t.starts.items ++ t.entered ∷ [] = c.in_ok-push.ensures.items in
    let next : c.push-2.new.self.items ≡ t.next.items ++ (get_or heads i 0) ∷ [] =
    c.in_ok-push-2.ensures.items ∙ (ap (λ xs. xs ++ c.index-newest.result.now ∷ []) c.reserve.ensures.items
    ∙ ap (λ x. t.next.items ++ x ∷ []) head) in
    let held : c.len.result ≡ length c.push.new.self.items = search rules in
    let len : c.len.result ≡ length t.starts.items + 1 = held ∙ ap length starts ∙ length-append t.starts.items (t.entered ∷ []) in
    let changed : c.set_head.new.heads ≡ set heads i (length t.starts.items + 1) =
    c.set_head.ensures ∙ (ap (λ xs. set xs i c.len.result) c.deref_mut.ensures.value ∙ ap (λ x. set heads i x) len) in
    let heads' : (with_items t.heads c.set_head.new.heads).items ≡ set heads i (length t.starts.items + 1) =
    with_items_is t.heads c.set_head.new.heads
    (ap length changed ∙ length-set heads i (length t.starts.items + 1) ∙ sym t.heads.ok.0) ∙ changed in
    let entered : WindowTable = record {
      size = t.size;
      leaving = t.leaving;
      entered = t.entered + 1;
      starts = c.push.new.self;
      heads = with_items t.heads c.set_head.new.heads;
      next = c.push-2.new.self;
    } in
    table-added cells t entered i c.requires.table refl refl refl starts heads' next c.requires.inside
    (λ q lt e. c.in_default.ensures.none q lt (e ∙ sym part))
    (bucket-is (length heads) i c.args.hash (window t.size t.entered cells) c.bucket_of-bucket.ensures.value c.requires.hash)
    c.bucket_of-bucket.ensures.below
