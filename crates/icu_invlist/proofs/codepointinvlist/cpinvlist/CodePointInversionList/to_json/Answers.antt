use Rattle.std.proofs.Common.{◌≡◌, ◌∙◌, ap, arith, rules, map, String, Global, string_bytes}
use Rattle.serde_json.specs.declared.value.Value as Value
use Rattle.serde_json.specs.declared.value.Value.{the_lemmas}
use Rattle.serde_json.proofs.Views.{view-Array}
use Rattle.serde_json.specs.Data.{array, string}
use Rattle.serde_json.specs.View.{view, items_of}
use Rattle.icu_invlist.specs.SetJson.{texts_of, ends_of}
use Rattle.icu_invlist.proofs.WrittenSets.{text_data, texts_step, texts_all, written_back}
use Rattle.icu_invlist.proofs.codepointinvlist.cpinvlist.CodePointInversionList.to_json.Goals as goal

view-String : (s : String Global) → view (Value.String s) ≡ string (string_bytes s)
view-String s = search (rules, the_lemmas)

pub loop-i-preserved : goal.loop-i-preserved
loop-i-preserved c = record {
  even = omega (arith, c.loop-i.invariant.even);
  texts = texts_step c.args.self.now c.loop-i.items.items c.push.new.self.items _ c.loop-i.i c.end_at.result c.end_at-in-loop-i.result
      (let v = c.count-count.ensures.valid.even in let w = c.loop-i.invariant.even in let k = c.count-count.ensures.count in omega arith)
      c.end_at.ensures.end c.end_at-in-loop-i.ensures.end c.in_ok-push.ensures.items
      (view-String c.in_ok-text.text ∙ ap string c.in_ok-text.ensures) c.loop-i.invariant.texts;
}

written : (c : goal.After-loop-i) → map view c.loop-i.items.items ≡ map text_data (texts_of c.args.self.now)
written c = texts_all c.args.self.now c.loop-i.items.items c.loop-i.i (omega (arith, c.count-count.ensures.count)) c.loop-i.invariant.texts

pub returns-clause-ok : goal.returns-clause-ok
returns-clause-ok c = view-Array c.loop-i.items ∙ ap (λ ds. array (items_of ds)) (written c)

pub returns-clause-read_back : goal.returns-clause-read_back
returns-clause-read_back c = ap ends_of (view-Array c.loop-i.items ∙ ap (λ ds. array (items_of ds)) (written c))
    ∙ written_back c.args.self.now c.count-count.ensures.valid
