-- The words of faults.
use Rattle.std.specs.Prelude.{ℕ, List, ◌++◌, codes, decimal}
use Rattle.ucptrie_words.specs.declared.error.LineError.{LineError}
use Rattle.ucptrie_words.specs.declared.error.LineError.TheVariants.{NoSeparator, NoKey, NotUtf8, NoValue, NotNumber, LongKey, Repeated}
use Rattle.ucptrie_words.specs.declared.error.RowsError.{RowsError}
use Rattle.ucptrie_words.specs.declared.error.RowsError.TheVariants.{Key, Memory as RowsMemory}
use Rattle.ucptrie_words.specs.declared.error.UnitsError.{UnitsError}
use Rattle.ucptrie_words.specs.declared.error.UnitsError.TheVariants.{HalfUnit, NotATrie, Memory as UnitsMemory}
use Rattle.ucptrie_words.specs.declared.error.WordsError.{WordsError}
use Rattle.ucptrie_words.specs.declared.error.WordsError.TheVariants.{Line, TooLarge, Memory as WordsMemory}

-- What the test of a line that failed expects.
abbrev pub expected_text : LineError → List ℕ
expected_text NoSeparator = codes "KEY;VALUE"
expected_text NoKey = codes "a key before the last `;`"
expected_text NotUtf8 = codes "a key in UTF-8"
expected_text NoValue = codes "a value after the last `;`"
expected_text NotNumber = codes "a value from -2147483648 to 2147483647"
expected_text LongKey = codes "a key of at most 65535 units in UTF-16"
expected_text Repeated = codes "a key that no line before has"

-- Why a word list is not made into a trie.
abbrev pub words_text : WordsError → List ℕ
words_text (Line k f) = codes "line " ++ (decimal k ++ (codes ": expected " ++ expected_text f))
words_text TooLarge = codes "too large: the words may need too many units"
words_text WordsMemory = codes "no memory"

-- Why a file of units has no trie.
abbrev pub units_text : UnitsError → List ℕ
units_text HalfUnit = codes "expected units of two bytes, found an odd number of bytes"
units_text NotATrie = codes "the units are no trie"
units_text UnitsMemory = codes "no memory"

-- Why the entries of a trie are not written as lines.
abbrev pub rows_fault_text : RowsError → List ℕ
rows_fault_text (Key _) = codes "no line can have a key"
rows_fault_text RowsMemory = codes "no memory"
