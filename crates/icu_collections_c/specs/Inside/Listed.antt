-- A listing of the entries so far.
use Rattle.std.specs.Prelude.{◌≡◌, ◌-◌, ◌^◌, ℕ, ℤ, List, [], ◌∷◌, ◌++◌, length, min}
use Rattle.icu_collections_c.specs.Listing.{AreItemsOf, fitting, texts_of, words_from}
use Rattle.icu_collections_c.specs.declared.listing.Listing.{Listing}

-- The items that fit are stored, and all are counted, up to the largest `usize`.
pub record IsListingOf (items : List (List ℕ × ℤ)) (most_words most_bytes : ℕ) (l : Listing)
    : Type 0 where
  pub words_room : l.most_words ≡ most_words
  pub bytes_room : l.most_bytes ≡ most_bytes
  pub words_are : l.words.items ≡ words_from 0 (fitting most_words most_bytes items)
  pub texts_are : l.texts.items ≡ texts_of (fitting most_words most_bytes items)
  pub count_is : l.count ≡ min (length items) (2 ^ 64 - 1)
  pub size_is : l.size ≡ min (length (texts_of items)) (2 ^ 64 - 1)

-- The listing is that of the items of the units.
pub record IsListed (units : List ℕ) (most_words most_bytes : ℕ) (l : Listing) : Type 0 where
  pub items : List (List ℕ × ℤ)
  pub of_units : AreItemsOf units items
  pub kept : IsListingOf items most_words most_bytes l

-- One more item is stored.
pub record IsKept (l : Listing) (text : List ℕ) (v : ℤ) (l' : Listing) : Type 0 where
  pub words_are : l'.words.items
      ≡ l.words.items ++ (record { start = l.size; size = length text; value = v }) ∷ []
  pub texts_are : l'.texts.items ≡ l.texts.items ++ text

-- What is stored is unchanged.
pub record IsKeptOut (l l' : Listing) : Type 0 where
  pub words_are : l'.words.items ≡ l.words.items
  pub texts_are : l'.texts.items ≡ l.texts.items

-- The limits and the counts are unchanged.
pub record HasSameRoom (l l' : Listing) : Type 0 where
  pub words_room : l'.most_words ≡ l.most_words
  pub bytes_room : l'.most_bytes ≡ l.most_bytes
  pub count_is : l'.count ≡ l.count
  pub size_is : l'.size ≡ l.size
