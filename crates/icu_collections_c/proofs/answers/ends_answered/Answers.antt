-- The result is how many boundaries the set has, and they are written.
use Rattle.std.proofs.Common.{◌≡◌, ◌<◌, ◌^◌, ◌∙◌, ap, refl, inl, arith, length, w64}
use Rattle.std.proofs.lemmas.Int.{to_z_pos}
use Rattle.icu_zerovec.specs.Buffers.{written}
use Rattle.icu_collections_c.proofs.answers.ends_answered.Goals as goal

pub returns : goal.returns
returns c =
    let count : c.len.result ≡ length c.args.set.now = c.len.ensures.len ∙ ap length c.as_inversion_list.ensures.ends in
    let small : c.len.result < 2 ^ 63 = omega (arith, c.len.ensures.bound, c.len.ensures.len) in
    rw (to_z_pos w64 c.len.result small) (inl (
      c.len.result,
      refl,
      record {
        ends = c.args.set.now;
        valid = c.as_inversion_list.ensures.valid;
        set = refl;
        count = count;
        buffer = c.write.ensures ∙ ap (λ xs. written xs c.args.buffer.now) (c.deref.ensures.value ∙ c.in-Ok.ensures.ok);
      },
    ))
