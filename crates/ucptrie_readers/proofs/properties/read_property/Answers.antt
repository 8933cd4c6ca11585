use Rattle.std.proofs.Common.{rules}
use Rattle.ucptrie_readers.proofs.properties.read_property.Goals as goal

pub returns-in_err-read_table-clause-other : goal.returns-in_err-read_table-clause-other
returns-in_err-read_table-clause-other c =
    rw (← c.bytes.ensures) (λ named other. (
      c.read_table.result,
      (
        record {
          binary = c.read_table.ensures.binary;
          swapped = c.read_table.ensures.swapped;
          json = c.read_table.ensures.json;
          text = c.read_table.ensures.text;
        },
        search rules,
      ),
    ))
