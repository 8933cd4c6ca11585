-- The words of faults.
use Rattle.std.specs.Prelude.{ℕ, List, ◌++◌, codes, decimal}
use Rattle.ucd_files.specs.declared.error.FileError.{FileError}
use Rattle.ucd_files.specs.declared.error.FileError.TheVariants.{Line, Unfinished, Memory}
use Rattle.ucd_files.specs.declared.error.LineError.{LineError}
use Rattle.ucd_files.specs.declared.error.LineError.TheVariants.{Unpaired, SplitRange, NotCodePoints, CodePoint, Reversed, NoValue, UnknownValue}

-- What the test of a line that failed expects.
abbrev pub expected_text : LineError → List ℕ
expected_text Unpaired =
    codes "a line `<NAME, First>`, then a line `<NAME, Last>` with the same value"
expected_text SplitRange =
    codes "HEX..HEX for a range: only UnicodeData.txt has it in two lines"
expected_text NotCodePoints = codes "HEX or HEX..HEX before the first `;`"
expected_text CodePoint = codes "code points up to 10FFFF"
expected_text Reversed = codes "a range whose end is not below its start"
expected_text NoValue = codes "a value"
expected_text UnknownValue = codes "a value that is a known name or number"

-- The fault of a file, in words.
abbrev pub fault_text : FileError → List ℕ
fault_text (Line k f) = codes "line " ++ (decimal k ++ (codes ": expected " ++ expected_text f))
fault_text Unfinished = codes "the file ends after `<.., First>`"
fault_text Memory = codes "no memory"
