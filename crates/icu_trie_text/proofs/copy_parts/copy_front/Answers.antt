use Rattle.std.proofs.Common.{◌≡◌, ◌∙◌, true, ℕ, drop, ap, arith}
use Rattle.std.proofs.lemmas.List.{drop-drop, length-drop, take_rest}
use Rattle.icu_trie_text.proofs.CopiedItems.{ascii_left}
use Rattle.icu_trie_text.proofs.copy_parts.copy_front.Goals as goal

pub loop-front-preserved-then-are_ascii : goal.loop-front-preserved-then-are_ascii
loop-front-preserved-then-are_ascii g c =
    let text = c.args.bytes.now in
    let i : ℕ = c.loop-front.front.bytes in
    let invariant = c.loop-front.invariant in
    let ensures = c.copy_sixteen-front.ensures in
    let sixteen = rw (take_rest text i) at (c.are_ascii.ensures.0 c.if-are_ascii.true) in
    let left = λ (t : g.R.Reading.trusts ≡ true).
    ascii_left (drop i text) 16 (invariant.text t) (omega (arith, length-drop i text)) sixteen in
    let both : drop 16 (drop i text) ≡ drop c.copy_sixteen-front.result.bytes text =
    drop-drop 16 i text ∙ ap (λ k. drop k text) (omega (arith, ensures.size)) in
    record { text = λ t. rw both at (left t); copied = ensures.copied c.args.values.now invariant.copied }
