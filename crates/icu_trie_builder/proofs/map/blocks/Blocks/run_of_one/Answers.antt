use Rattle.std.proofs.Common.{ℕ, rules, tests, arith, Bool, List, drop, take, get_or, length, sym, ◌≡◌, ◌-◌, ◌+◌, ◌*◌, ◌<◌, ◌≤◌, ◌∙◌}
use Rattle.std.specs.Bool.{⊤}
use Rattle.std.proofs.lemmas.List.{length-take-le, length-drop}
use Rattle.std.proofs.lemmas.Iterator.{YieldsList-from_slice, YieldsList-from_zip, IsFirst-from_position}
use Rattle.icu_trie_builder.specs.Inside.Map.Blocks.{all_numbers, number_at}
use Rattle.icu_trie_builder.proofs.MapLemmas.{IsOf, run-before, number-in-part}
use Rattle.icu_trie_builder.proofs.map.blocks.Blocks.run_of_one.Goals as goal

pub returns : goal.returns
returns c =
    let b = c.self.inside in
    let first = c.args.first in
    let most : ℕ = first + c.args.most - first in
    let is : most ≡ c.args.most = omega arith in
    let m : List Bool = take most (drop first b.mixed.items) in
    let n : List ℕ = take most (drop first b.places.items) in
    let em : length m ≡ c.args.most = length-take-le most (drop first b.mixed.items)
    (omega (arith, length-drop first b.mixed.items, c.self.invariant.all, c.requires.inside)) ∙ is in
    let en : length n ≡ c.args.most = length-take-le most (drop first b.places.items)
    (omega (arith, length-drop first b.places.items, c.self.invariant.same, c.requires.inside)) ∙ is in
    let ran = IsFirst-from_position c.position-end.new.self _ c.position-end.result (λ _. ⊤) (IsOf c.index.result.now) c.position-end.ensures.ran
    (YieldsList-from_zip (YieldsList-from_slice m cc) (YieldsList-from_slice n cc))
    (λ x q k. tt) (λ x q k. search (rules, tests)) in
    let run = rw (← c.unwrap_or.ensures) at (run-before m n c.index.result.now c.args.most c.position-end.result em en ran) in
    let number : (k : ℕ) → 16 * first ≤ k → k < 16 * (first + c.unwrap_or.result)
    → get_or (all_numbers (number_at b.mixed.items b.places.items b.cells.items)) k 0 ≡ c.index.result.now
    = λ k low high. number-in-part b.mixed.items b.places.items b.cells.items first most c.unwrap_or.result k c.index.result.now
    (omega (arith, run.0, is)) (omega (arith, run.0, c.requires.inside)) run.1 low high in
    record {
      within = run.0;
      same = rw (← c.self.view_is) (λ k low high. number k low high ∙ sym (number (16 * first) (omega arith) (omega (arith, low, high))));
    }
