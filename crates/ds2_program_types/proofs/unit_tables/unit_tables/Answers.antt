use Rattle.std.proofs.Common.{Bool, subst}
use Rattle.std.specs.Prelude.{false}
use Rattle.ds2_names.specs.SourceUnit.{names_alone}
use Rattle.ds2_program_types.specs.UnitsAtHand.{names_at_hand}
use Rattle.ds2_type_tables.specs.Bys.{HasBys}
use Rattle.ds2_type_tables.specs.Objects.{HasObjects, objects_called}
use Rattle.ds2_program_types.proofs.unit_tables.unit_tables.Goals as goal

pub returns : goal.returns
returns c = λ before t h.
    let in_init = subst (λ l. HasObjects c.in_ok-called_in_init.called_in_init (objects_called before c.is_program-in_init.result l)) h.instances (c.in_ok-called_in_init.ensures before t) in
    record {
      globals = c.in_ok-globals.ensures before h;
      bys = subst (λ l. HasBys c.in_ok-bys.bys (names_alone l)) h.names.bys c.in_ok-bys.ensures;
      methods = c.in_ok-methods.ensures;
      outputs = c.in_ok-made.ensures.numbers;
      count = c.in_ok-made.ensures.count;
      objects = subst (λ l. HasObjects c.in_ok-called.called (objects_called before false l)) h.instances (c.in_ok-called.ensures before t);
      init_objects =
          subst (λ (b : Bool). HasObjects c.in_ok-called_in_init.called_in_init (objects_called before b (names_at_hand before c.args.unit).instances)) c.is_program-in_init.ensures in_init;
    }
