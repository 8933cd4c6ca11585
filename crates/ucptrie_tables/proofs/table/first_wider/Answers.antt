use Rattle.std.proofs.Common.{◌≡◌, ◌^◌, ◌∙◌, ℕ, nat_lt, not, Option, Some, None, option_map, refl, rules}
use Rattle.std.proofs.lemmas.Iterator.Consumers.{YieldsList-from_first}
use Rattle.std.proofs.lemmas.Iterator.Search.{find_from_yields_List}
use borrow.Author.Tests.{tests}
use Rattle.ucptrie_tables.specs.ValueWidth.{bits_of}
use Rattle.ucptrie_tables.proofs.table.first_wider.Goals as goal

same_option : (o : Option ℕ) → o ≡ option_map (λ n. n) o
same_option None = refl
same_option (Some n) = refl

pub returns-clause-first : goal.returns-clause-first
returns-clause-first c = same_option c.find.result
    ∙ find_from_yields_List (λ v. not (nat_lt v (2 ^ bits_of c.args.width))) _ _ c.find.result c.find.ensures.ran
    (YieldsList-from_first (λ x. x) (λ s. s) c.args.trie.now.values (search rules)) (λ x b q k. search (rules, tests))
