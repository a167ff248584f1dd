-- Where an `output` stands in a program.
use Rattle.std.proofs.Common.{◌≡◌, Bool, true, false, List, [], ◌∷◌, map, refl, sym, ap, ◌∙◌}
use Rattle.std.specs.List.{list_any}
use Rattle.std.specs.Prelude.{◌||◌}
use Rattle.ds2_meaning.specs.declared.units.Instance.{Instance}
use Rattle.ds2_meaning.specs.declared.units.Program.{Program}
use Rattle.ds2_meaning.specs.Method.{MethodTree}
use Rattle.ds2_meaning.specs.ProgramTree.{program_has_output}
use Rattle.ds2_meaning.specs.TypedStatement.{TypedStatements, have_output}
use Rattle.ds2_meaning.specs.View.{constructors_first, system_tree, typed_method}
use Rattle.ds2_deeds.specs.CodeTrees.{nameless_tree}

-- constructors write no row
none_in_constructors : (instances : List Instance) (rest : TypedStatements) → have_output (constructors_first instances rest) ≡ have_output rest
none_in_constructors [] rest = refl
none_in_constructors (i ∷ instances) rest = none_in_constructors instances rest

abbrev whole : Bool → Bool → Bool → Bool → Bool
whole a b c d = a || b || c || d

module _ (p : Program) where
  abbrev methods : Bool
  methods = list_any (λ (m : MethodTree). have_output m.body) (map typed_method p.methods)

  whole_is : program_has_output (nameless_tree p) ≡ whole (have_output (system_tree p.init).statements) (have_output (system_tree p.run).statements) (have_output (system_tree p.term).statements) methods
  whole_is = ap (λ b. whole b (have_output (system_tree p.run).statements) (have_output (system_tree p.term).statements) methods) (none_in_constructors p.instances (system_tree p.init).statements)

  pub in_init : have_output (system_tree p.init).statements ≡ true → true ≡ program_has_output (nameless_tree p)
  in_init e = sym (whole_is ∙ ap (λ b. whole b (have_output (system_tree p.run).statements) (have_output (system_tree p.term).statements) methods) e)

  pub in_run : have_output (system_tree p.init).statements ≡ false → have_output (system_tree p.run).statements ≡ true → true ≡ program_has_output (nameless_tree p)
  in_run e f =
      sym (whole_is ∙ ap (λ b. whole b (have_output (system_tree p.run).statements) (have_output (system_tree p.term).statements) methods) e
      ∙ ap (λ b. whole false b (have_output (system_tree p.term).statements) methods) f)

  pub in_term : have_output (system_tree p.init).statements ≡ false → have_output (system_tree p.run).statements ≡ false → have_output (system_tree p.term).statements ≡ true → true ≡ program_has_output (nameless_tree p)
  in_term e f g =
      sym (whole_is ∙ ap (λ b. whole b (have_output (system_tree p.run).statements) (have_output (system_tree p.term).statements) methods) e
      ∙ ap (λ b. whole false b (have_output (system_tree p.term).statements) methods) f ∙ ap (λ b. whole false false b methods) g)

  pub in_methods : have_output (system_tree p.init).statements ≡ false → have_output (system_tree p.run).statements ≡ false → have_output (system_tree p.term).statements ≡ false → methods ≡ program_has_output (nameless_tree p)
  in_methods e f g =
      sym (whole_is ∙ ap (λ b. whole b (have_output (system_tree p.run).statements) (have_output (system_tree p.term).statements) methods) e
      ∙ ap (λ b. whole false b (have_output (system_tree p.term).statements) methods) f ∙ ap (λ b. whole false false b methods) g)
