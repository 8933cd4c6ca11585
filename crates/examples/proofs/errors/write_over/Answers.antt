use Rattle.std.proofs.Common.{[], ◌∷◌, rules}
use Rattle.icu_collections.proofs.CallerLemmas.{IsAfter-append}
use Rattle.icu_collections.specs.CodePointTrieBuilder.{IsAfter}
use Rattle.icu_collections.specs.declared.codepointtrie.Write.{Write}
use Rattle.examples.proofs.errors.write_over.Goals as goal

pub returns : goal.returns
returns c =
    let first : IsAfter c.args.rows.now c.args.builder.now c.apply.new.self = search rules in
    let second : IsAfter (Write.One c.args.c c.args.value ∷ []) c.apply.new.self c.set_value.new.self = search rules in
    IsAfter-append _ _ _ _ _ first second
