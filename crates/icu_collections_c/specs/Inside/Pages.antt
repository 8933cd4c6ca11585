-- A page of a listing while it is gathered.
use Rattle.std.specs.Prelude.{◌≡◌, ◌+◌, ℕ, ℤ, List, [], ◌∷◌, ◌++◌, length, min, take}
use Rattle.icu_collections_c.specs.Listing.{fitting, texts_of, words_from}
use Rattle.icu_collections_c.specs.declared.unit_pages.Page.{Page}

-- The page holds these items.
pub record Holds (items : List (List ℕ × ℤ)) (p : Page) : Type 0 where
  pub words_are : p.words.items ≡ words_from 0 items
  pub texts_are : p.texts.items ≡ texts_of items

-- One more item is added, and the size is unchanged.
pub record IsPushed (p : Page) (text : List ℕ) (v : ℤ) (p' : Page) : Type 0 where
  pub words_are : p'.words.items
      ≡ p.words.items
      ++ (record { start = length p.texts.items; size = length text; value = v }) ∷ []
  pub texts_are : p'.texts.items ≡ p.texts.items ++ text
  pub size_is : p'.size ≡ p.size

-- The page holds the items that fit, and its size is that of their texts, and of the next text if
-- only that did not fit.
pub record IsPage (items : List (List ℕ × ℤ)) (words bytes : ℕ) (p : Page) : Type 0 where
  pub held : Holds (fitting words bytes items) p
  pub size_is : p.size
      ≡ length (texts_of (take (min (length (fitting words bytes items) + 1) words) items))
