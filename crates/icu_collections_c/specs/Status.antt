-- The errors of the functions that return a count.
use Rattle.std.specs.Prelude.{ℤ, pos, neg_ℤ}
use Rattle.icu_collections_c.specs.declared.error.Error.{Error}
use Rattle.icu_collections_c.specs.declared.error.Error.TheVariants.{NoMemory, InvalidTrie, InvalidUtf8, NoKey, InvalidFormat, WideValue, TooLarge, InvalidEntries, LongKey, SameKey, InvalidSet}

-- The number that is returned for an error. These are the numbers of `enum bks_error` in
-- c/bekstaudi.h, and no two are the same.
abbrev pub error_number : Error → ℤ
error_number NoMemory = neg_ℤ (pos 1)
error_number InvalidTrie = neg_ℤ (pos 2)
error_number InvalidUtf8 = neg_ℤ (pos 3)
error_number NoKey = neg_ℤ (pos 4)
error_number InvalidFormat = neg_ℤ (pos 5)
error_number WideValue = neg_ℤ (pos 6)
error_number TooLarge = neg_ℤ (pos 7)
error_number InvalidEntries = neg_ℤ (pos 8)
error_number LongKey = neg_ℤ (pos 9)
error_number SameKey = neg_ℤ (pos 10)
error_number InvalidSet = neg_ℤ (pos 11)
