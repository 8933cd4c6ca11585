use Rattle.std.proofs.Common.{◌≡◌, ◌∙◌, ap, ℕ, [], Global, Option, Vec, map, slice_get, Some, rules, sym}
use Rattle.std.specs.Option.{option_map_or}
use Rattle.std.specs.List.{filter_map}
use Rattle.ucd_files.specs.Inside.Groups.{group, with_hash}
use Rattle.ucd_files.specs.Names.{number_named}
use Rattle.ucd_files.proofs.GroupLemmas.{number_in_group}
use Rattle.ucd_files.proofs.value_names.ValueNames.number_named.Goals as goal

pub returns : goal.returns
returns c =
    let names = c.self.inside.names.items in
    let hash = c.hash_of.result in
    let indices = c.in_ok-group.group.now.items in
    let found : group c.self.inside.groups hash ≡ indices =
    ap (λ (o : Option (Vec ℕ Global)). option_map_or (λ v. v.items) o []) (sym c.in_ok-group.ensures.value) in
    let same : c.number_among.result ≡ number_named c.args.matching (filter_map (slice_get names) indices) c.args.text.now = search rules in
    let held : map (slice_get names) indices ≡ map Some (with_hash hash names) = rw (← found) (c.self.invariant hash) in
    let all : number_named c.args.matching c.args.self.now c.args.text.now
    ≡ number_named c.args.matching names c.args.text.now = search rules in
    same ∙ (number_in_group c.args.matching names indices c.args.text.now hash held c.hash_of.ensures ∙ sym all)
