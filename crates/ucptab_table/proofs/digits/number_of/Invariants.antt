use Rattle.std.proofs.Common.{◌≡◌, ◌^◌, ◌<◌, true, take}
use Rattle.std.specs.Char.{is_digit}
use Rattle.std.specs.List.{list_all}
use Rattle.std.specs.Str.Parse.{digits_value}
use Rattle.ucptab_table.proofs.digits.number_of.Given as goal

abbrev pub invariant-loop-byte : goal.invariant-loop-byte
invariant-loop-byte l =
    let seen = take l.byte-index l.bytes in
    record {
      digits : list_all (λ c. is_digit c l.base) seen ≡ true;
      value : l.number ≡ digits_value l.base seen;
      small : l.number < l.base ^ l.byte-index;
    }
