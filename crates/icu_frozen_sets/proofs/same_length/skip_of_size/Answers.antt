use Rattle.std.proofs.Common.{ℕ, ◌+◌, ◌≤◌, List, arith, length, refl}
use Rattle.std.proofs.lemmas.List.{length-drop, take_rest}
use Rattle.icu_frozen_sets.proofs.SameLengthLemmas.{near_more}
use Rattle.icu_frozen_sets.proofs.same_length.skip_of_size.Goals as goal

pub loop-rest-preserved : goal.loop-rest-preserved
loop-rest-preserved g c =
    let rest : List ℕ = c.loop-rest.rest.now in
    let char : ℕ = c.in-Some.c in
    let size : ℕ = g.row.SIZE in
    let many : c.args.far + size ≤ length rest = omega (arith, c.loop-rest-test.true) in
    let walks = c.loop-rest.invariant.walks in
    let few = walks.few in
    rw (take_rest rest size) (record {
      walks = near_more c.args.table.now c.args.held c.args.bytes.now c.args.start rest walks char size
          (c.in-Some.ensures.found char refl) c.contains.result c.contains.ensures c.if-contains-held.false;
      far = λ h. omega (arith, many, few, length-drop size rest);
    })
