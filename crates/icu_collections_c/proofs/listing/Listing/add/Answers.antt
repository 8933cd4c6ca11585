-- One more entry, stored or not.
use Rattle.std.proofs.Common.{◌≡◌, refl, subst, to_z, of_z, w32, rules}
use Rattle.std.proofs.lemmas.Int.{to_z-of_z}
use Rattle.icu_collections_c.specs.Inside.Listed.{IsKept}
use Rattle.icu_collections_c.proofs.ListingLemmas.{listing-more}
use Rattle.icu_collections_c.proofs.listing.Listing.add.Goals as goal

pub returns : goal.returns
returns c =
    let same : to_z w32 (of_z w32 c.args.value) ≡ c.args.value = to_z-of_z w32 c.args.value (search rules) in
    record {
      ok = λ items is.
          listing-more c.args.self.now.most_words c.args.self.now.most_bytes items (c.args.text.now, c.args.value)
          c.args.self.now c.keep.new.self _ c.saturating_add-end.result c.requires.few c.requires.words
          is c.saturating_add-end.ensures c.in_ok-keep.ensures.rooms refl refl refl refl c.saturating_add-self.ensures refl
          (λ l m. subst (λ v. IsKept c.args.self.now c.args.text.now v c.keep.new.self) same (c.in_ok-keep.ensures.fits l m))
          c.in_ok-keep.ensures.full;
    }
