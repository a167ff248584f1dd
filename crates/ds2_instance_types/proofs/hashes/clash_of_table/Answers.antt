use Rattle.std.proofs.Common.{ap, ◌∙◌}
use Rattle.ds2_value.specs.Row.{Columns}
use Rattle.ds2_names.specs.NameRules.{from_each}
use Rattle.ds2_names.specs.SourceUnit.{columns_stored, spelled_text}
use Rattle.ds2_scope.specs.CodeUnits.{names_bracketed}
use Rattle.ds2_types.specs.Judgements.{first_type_refusal}
use Rattle.ds2_instance_types.specs.HashDeclarations.{load_rules}
use Rattle.ds2_instance_types.proofs.HashForms.{rules_append}
use Rattle.ds2_instance_types.proofs.hashes.clash_of_table.Goals as goal

pub returns : goal.returns
returns c = λ scope h.
    let hash = c.args.hash in
    let place = c.args.text.now.place in
    let columns = c.columns_of-columns.ensures ∙ ap (columns_stored c.args.tables.now) (c.as_slice.ensures ∙ c.in_ok-spelled.ensures) in
    c.lesser.ensures
    ∙ rules_append (load_rules (columns_stored c.args.tables.now (spelled_text c.args.text.now)) scope place) (names_bracketed hash.keys.now) (names_bracketed hash.items.now) c.in_ok-keys.keys
    c.in_ok-items.items
    (c.in_ok-keys.ensures scope h ∙ ap (λ (cs : Columns). first_type_refusal (from_each (load_rules cs scope place) (names_bracketed hash.keys.now))) columns)
    (c.in_ok-items.ensures scope h ∙ ap (λ (cs : Columns). first_type_refusal (from_each (load_rules cs scope place) (names_bracketed hash.items.now))) columns)
