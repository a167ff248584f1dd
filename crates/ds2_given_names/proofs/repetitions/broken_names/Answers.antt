use Rattle.std.proofs.Common.{[], refl, sym, ap, ◌∙◌}
use Rattle.ds2_names.specs.SourceUnit.{names_of_unit}
use Rattle.ds2_names.specs.UnitRules.{output_without_columns, without_columns, thread_name_place}
use Rattle.ds2_names.specs.NameRules.{from_each}
use Rattle.ds2_scope.specs.CodeUnits.{unit_source}
use Rattle.ds2_scope.specs.Earliest.{earlier_of, earliest}
use Rattle.ds2_scope.proofs.EarliestLemmas.{earliest_append}
use Rattle.ds2_given_names.specs.OutputParts.{clashing_in}
use Rattle.ds2_given_names.proofs.RepetitionLemmas.{duplicates_are}
use Rattle.ds2_given_names.proofs.TypeNumberLemmas.{numbers_are}
use Rattle.ds2_given_names.proofs.repetitions.broken_names.Goals as goal

pub returns : goal.returns
returns c = λ tables units kept are.
    let u = unit_source c.args.unit in
    let all = names_of_unit tables units u in
    let outputs = c.in_ok-outputs.ensures all are c.in_ok-statements.ensures in record {
      duplicate_name = c.earlier_of-2.ensures
          ∙ (λ i. earlier_of (c.earlier_of.ensures i) (outputs.clash i))
          ∙ (λ i. earlier_of (earlier_of (c.in_ok-own.ensures units kept i) (c.in_ok-repeated.ensures i)) (earliest (from_each (clashing_in all) u.outputs)))
          ∙ sym (duplicates_are all u c.args.names.now refl refl refl are);
      too_many_names = c.in_ok-too_many_names.ensures tables units are;
      bad_number = c.bad_number.ensures ∙ sym (ap earliest (numbers_are tables units u));
      no_columns = c.earlier_of-3.ensures
          ∙ (λ i. earlier_of (outputs.empty i) (c.in_ok-thread.ensures all are c.in_ok-statements.ensures refl i))
          ∙ sym (earliest_append (from_each (output_without_columns all) u.outputs) (from_each (without_columns all []) (thread_name_place all)));
    }
