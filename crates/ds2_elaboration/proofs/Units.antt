-- Units as they stand in a source: of the grammar, with their tokens in order.
use Rattle.std.proofs.Common.{List, [], ◌∷◌, ◌++◌, map, Option, Some, None}
use Rattle.ds2_token.specs.declared.token.Token.{Token}
use Rattle.ds2_tree.specs.Globals.{GlobalItem, global_spelling, parameters_spelling, IsGlobal}
use Rattle.ds2_tree.specs.Lists.{if_any, all_spelled, Each}
use Rattle.ds2_tree.specs.Marks.{open_mark, close_mark, semicolon_mark}
use Rattle.ds2_tree.specs.Units.{Package, Thread, DataProgram, APackage, AThread, AData, output_spelling}
use Rattle.ds2_tree.specs.declared.globals.Parameter as source_parameter
use Rattle.ds2_tree.specs.declared.globals.Parameters.{Parameters}
use Rattle.ds2_names.specs.SourceUnit.{UnitSource, parameters_listed, unit_of_package, unit_of_thread, unit_of_data}
use Rattle.ds2_elaboration.specs.TypedPrograms.{StandInOrder, StandsInSource}
use Rattle.ds2_elaboration.proofs.Locals.{parameters_within}
use Rattle.ds2_elaboration.proofs.Orders.{Within, passed, none_within, itself_within, behind_others, before_others, order_within}

-- the tokens that give names to the parameters of a unit
abbrev pub parameter_tokens : List source_parameter.Parameter → List Token
parameter_tokens ps = map (λ (p : source_parameter.Parameter). p.name) ps

-- what a unit holds is of the grammar, and its tokens stand in order
pub record StandsAsUnit (u : UnitSource) : Type 0 where
  pub grammar : Each IsGlobal u.globals
  pub order : StandInOrder (all_spelled global_spelling u.globals)
  pub parameters : StandInOrder (parameter_tokens u.parameters)
  pub outputs : StandInOrder (all_spelled output_spelling u.outputs)

-- the last two tokens of a unit
last_within : (globals : List GlobalItem) (end_keyword : Token) (last : Token)
    → Within (all_spelled global_spelling globals) (all_spelled global_spelling globals ++ (end_keyword ∷ (last ∷ [])))
last_within globals end_keyword last = before_others (end_keyword ∷ (last ∷ [])) (itself_within (all_spelled global_spelling globals))

some_parameters_within : (parameters : Option Parameters) → Within (parameter_tokens (parameters_listed parameters)) (if_any parameters_spelling parameters)
some_parameters_within None = none_within []
some_parameters_within (Some ps) = passed (open_mark ps.opening) (before_others (close_mark ps.closing ∷ []) (parameters_within ps.list))

pub package_stands : (u : Package) → StandsInSource (APackage u) → StandsAsUnit (unit_of_package u)
package_stands u source = record {
  grammar = source.grammar.2;
  order = order_within (passed u.keyword (passed u.name (passed (semicolon_mark u.semicolon) (last_within u.globals u.end_keyword (semicolon_mark u.end))))) source.order;
  parameters = tt;
  outputs = tt;
}

pub thread_stands : (u : Thread) → StandsInSource (AThread u) → StandsAsUnit (unit_of_thread u)
thread_stands u source =
    let rest = semicolon_mark u.semicolon ∷ (all_spelled global_spelling u.globals ++ (u.end_keyword ∷ (semicolon_mark u.end ∷ []))) in
    record {
      grammar = source.grammar.3;
      order =
          order_within (passed u.keyword (passed u.name (behind_others (if_any parameters_spelling u.parameters)
          (passed (semicolon_mark u.semicolon) (last_within u.globals u.end_keyword (semicolon_mark u.end)))))) source.order;
      parameters = order_within (passed u.keyword (passed u.name (before_others rest (some_parameters_within u.parameters)))) source.order;
      outputs = tt;
    }

pub data_stands : (u : DataProgram) → StandsInSource (AData u) → StandsAsUnit (unit_of_data u)
data_stands u source =
    let rest = semicolon_mark u.semicolon ∷ (all_spelled global_spelling u.globals ++ (u.end_keyword ∷ (semicolon_mark u.end ∷ []))) in
    record {
      grammar = source.grammar.2;
      order =
          order_within (passed u.keyword (behind_others (all_spelled output_spelling u.outputs)
          (passed (semicolon_mark u.semicolon) (last_within u.globals u.end_keyword (semicolon_mark u.end))))) source.order;
      parameters = tt;
      outputs = order_within (passed u.keyword (before_others rest (itself_within (all_spelled output_spelling u.outputs)))) source.order;
    }
