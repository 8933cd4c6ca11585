-- The result is how many bytes the trie takes, and they are written.
use Rattle.std.proofs.Common.{◌≡◌, ◌<◌, ◌^◌, ◌∙◌, ap, refl, inl, arith, length, w64, rules}
use Rattle.std.proofs.lemmas.Int.{to_z_pos}
use Rattle.icu_collections_c.specs.Building.{written_whole}
use Rattle.icu_collections_c.proofs.building.bks_trie_build.Goals as goal

pub returns-in-Ok : goal.returns-in-Ok
returns-in-Ok c =
    let count : c.len.result ≡ length c.in-Ok.stored.items = search rules in
    let small : c.len.result < 2 ^ 63 = search (rules, arith) in
    rw (to_z_pos w64 c.len.result small) (inl (
      c.len.result,
      refl,
      c.in-Ok.ensures.form,
      c.in-Ok.ensures.fits,
      record {
        bytes = c.in-Ok.stored.items;
        good = c.in-Ok.ensures.built;
        count = count;
        buffer = c.write_whole.ensures ∙ ap (λ xs. written_whole xs c.args.bytes.now) c.deref.ensures.value;
      },
    ))
