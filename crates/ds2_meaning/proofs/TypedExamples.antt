-- The examples of typed programs.
use Rattle.std.proofs.Common.{refl, arith}
use Rattle.ds2_value.specs.declared.ty.Ty.TheVariants.{BigInt}
use Rattle.ds2_meaning.specs.StatementExamples.{counting_method}
use Rattle.ds2_meaning.specs.TypedExamples.{TypedExamples}

pub typed_examples : TypedExamples
typed_examples = record {
  recursion_is_typed = (
    (
      record {
        head = refl;
        variables = ((refl, tt), refl);
        parameters = (tt, refl);
        names = refl;
        instances = tt;
        objects = (tt, tt);
        threads = tt;
        reading = (omega arith, omega arith, tt, tt);
        outputs = (omega arith, refl, (refl, tt), tt);
        output_names = refl;
        methods = (
          (
            ((refl, tt), refl),
            -- if n <= 1 then return 1; return 1 + f(n - 1);
            (
              (((refl, (refl, refl), refl), tt), ((refl, refl), refl)),
              (((((refl, refl), ((counting_method, refl, refl, (refl, (refl, ((refl, refl), (BigInt, refl, (refl, refl, refl)), tt)), refl, tt)), (BigInt, refl, (refl, refl, refl)), tt)), refl), tt)),
            ),
            tt,
          ),
          tt,
        );
        init = ((tt, refl), tt);
        run = ((tt, refl), ((tt, (counting_method, refl, refl, (refl, (refl, refl), refl, tt)), refl), tt));
        term = ((tt, refl), tt);
      },
      tt,
    ),
    refl,
  );
  flag_is_no_target = λ h. absurd (h.0.run.1.0.0);
  parameter_may_be_set = (
    record {
      head = tt;
      variables = ((refl, tt), refl);
      parameters = ((refl, tt), refl);
      names = refl;
      instances = tt;
      objects = (tt, tt);
      threads = tt;
      reading = (omega arith, omega arith, (refl, ((BigInt, refl, refl), tt), tt, tt), tt);
      outputs = (omega arith, refl, (refl, tt), tt);
      output_names = refl;
      methods = tt;
      init = ((tt, refl), tt);
      -- put n; n = n + 1;
      run = ((tt, refl), ((refl, tt), ((tt, (refl, ((refl, refl), (BigInt, refl, (refl, refl, refl)), tt)), refl), tt)));
      term = ((tt, refl), tt);
    },
    tt,
  );
  leave_wants_a_loop = λ h. cc (h.0.run.1.0);
  constructors_stand_in_init = λ h. absurd (h.0.run.1.0);
  names_are_known = λ h. cc (h.0.run.1.0.1);
  hash_is_typed = (
    record {
      head = refl;
      variables = ((refl, (refl, tt)), refl);
      parameters = (tt, refl);
      names = refl;
      instances = tt;
      objects = ((((refl, refl, tt), (refl, refl, tt), (tt, tt), tt), tt), (refl, tt));
      threads = tt;
      reading = (omega arith, omega arith, tt, tt);
      outputs = (omega arith, refl, (refl, (refl, tt)), tt);
      output_names = refl;
      methods = tt;
      init = ((tt, refl), tt);
      run = ((tt, refl), (refl, tt));
      term = ((tt, refl), tt);
    },
    tt,
  );
  hashes_are_known = λ h. cc (h.0.run.1.0);
  parameters_are_set_in_init = λ h. absurd (h.0.run.1.0);
  outputs_have_names_of_their_own = λ h. cc (h.0.output_names);
  columns_have_names_of_their_own = λ h. cc (h.0.outputs.1);
  tables_are_schemas = λ h. cc (h.0.reading.2.0);
  seventeen_tables_are_too_many = λ h. omega (arith, h.0.reading.0);
  merge_wants_a_by_variable = λ h. absurd h.0.reading.3;
  workers_are_few = λ h. omega (arith, h.0.reading.1);
  data_has_no_parameters = λ h. cc (h.0.head);
  thread_is_no_data = λ h. cc (h.1);
  stage_has_a_name = λ h. cc (h.1.1);
  given_values_have_types = refl;
  most_items = refl;
  more_items = refl;
}
