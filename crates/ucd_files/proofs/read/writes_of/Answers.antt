use Rattle.std.proofs.Common.{◌++◌, ◌∙◌, ap, sym}
use Rattle.std.specs.Prelude.{option_to_list}
use Rattle.ucd_files.specs.Files.{explicit_write, missing_write}
use Rattle.ucd_files.proofs.WriteLemmas.{explicit_push, missing_push}
use Rattle.ucd_files.proofs.read.writes_of.Goals as goal

pub loop-statement-preserved : goal.loop-statement-preserved
loop-statement-preserved c =
    let statement = c.in-Some.statement in
    record {
      missing = c.in_ok-push_write.ensures.missing
          ∙ (ap (λ xs. xs ++ option_to_list (missing_write statement)) c.loop-statement.invariant.missing
          ∙ sym (missing_push c.loop-statement.yielded statement));
      explicit = c.in_ok-push_write.ensures.explicit
          ∙ (ap (λ xs. xs ++ option_to_list (explicit_write statement)) c.loop-statement.invariant.explicit
          ∙ sym (explicit_push c.loop-statement.yielded statement));
    }
