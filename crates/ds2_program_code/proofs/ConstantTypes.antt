-- Each constant that code uses has its type under its number.
use Rattle.std.proofs.Common.{◌≡◌, ℕ, zero, suc, nat_eq, true, false, List, [], ◌∷◌, ◌++◌, map, flat_map, slice_get, Some, unwrap_or, refl, sym, ap, ◌∙◌, subst, eqb-true}
use Rattle.std.specs.Option.{option_map}
use Rattle.std.proofs.lemmas.Bool.{true≢false, and_parts}
use Rattle.ds2_value.specs.Types.{same_ty}
use Rattle.ds2_value.specs.Value.{is_null}
use Rattle.ds2_value.specs.declared.ty.Ty.{Ty}
use Rattle.ds2_value.specs.declared.ty.Ty.TheVariants.{BigInt, Decimal as DecimalOf, Char, Varchar}
use Rattle.ds2_value.specs.declared.value.Value.{Value}
use Rattle.ds2_value.specs.declared.value.Value.TheVariants.{Null, Int, Dec, Txt}
use Rattle.ds2_meaning.specs.Location.{Home}
use Rattle.ds2_meaning.specs.ProgramTree.{UnitTree}
use Rattle.ds2_code.specs.declared.parts.Constant.{Constant}
use Rattle.ds2_gen.specs.CodeCells.{Placement}
use Rattle.ds2_program_code.specs.UsedConstants.{UsedConstant, constants_of_body}
use Rattle.ds2_program_code.specs.CodeConstants.{is_one_value, is_one_constant, constant_number, constant_part}
use Rattle.ds2_program_code.specs.CodeMethods.{CodeMethod, code_methods}
use Rattle.ds2_program_code.specs.ProgramCode.{constants_of_program, code_constants, body_numbers, program_code}
use Rattle.ds2_program_code.specs.TypedOperands.{HasConstantOfType, HaveConstantsOfTypes}
use Rattle.ds2_program_code.proofs.Constants.{is_listed_in, AreListed, all_listed}
use Rattle.ds2_program_code.proofs.Lists.{same_some, number_of_any, number_passes, slice_mapped}

type_same : (a b : Ty) → same_ty a b ≡ true → a ≡ b
type_same BigInt BigInt e = refl
type_same (DecimalOf p s) (DecimalOf q t) e =
    let parts = and_parts (nat_eq p q) (nat_eq s t) e in
    ap (λ x. DecimalOf x s) (eqb-true p q parts.0) ∙ ap (λ x. DecimalOf q x) (eqb-true s t parts.1)
type_same (Char n) (Char m) e = ap Char (eqb-true n m e)
type_same (Varchar n) (Varchar m) e = ap Varchar (eqb-true n m e)
type_same _ _ e = absurd (true≢false (sym e))

found_type : (constants : List UsedConstant) (c : UsedConstant) → is_listed_in constants c ≡ true → (k : Constant) × (slice_get (map constant_part constants) (constant_number constants c.value c.ty) ≡ Some k) × (k.ty ≡ c.ty)
found_type constants c e =
    let it = number_of_any (λ other. is_one_constant c other) constants e in
    let passes = number_passes (λ other. is_one_constant c other) constants it.0 it.1 in
    let y = passes.0 in (
      constant_part y,
      ap (λ o. slice_get (map constant_part constants) (unwrap_or o 0)) it.1 ∙ slice_mapped constant_part constants it.0 ∙ ap (λ o. option_map constant_part o) passes.1,
      sym (type_same c.ty (UsedConstant.ty y) (and_parts (same_ty c.ty (UsedConstant.ty y)) (is_one_value c.value (UsedConstant.value y)) passes.2).0),
    )

module _ (p : UnitTree) (home : Home) (outputs : List (List (List ℕ))) (placement : Placement) where
  typed_by : (v : Value) (ty : Ty) → (is_null v ≡ false → (k : Constant) × (slice_get (map constant_part (code_constants p)) (constant_number (code_constants p) v ty) ≡ Some k) × (k.ty ≡ ty))
      → HasConstantOfType (program_code p) (body_numbers p home outputs placement) v ty
  typed_by Null ty h = tt
  typed_by (Int i) ty h = h refl
  typed_by (Dec d) ty h = h refl
  typed_by (Txt t) ty h = h refl

  typed_listed : (used : List UsedConstant) → AreListed (code_constants p) used → HaveConstantsOfTypes (program_code p) (body_numbers p home outputs placement) used
  typed_listed [] listed = tt
  typed_listed (c ∷ used) listed = (typed_by c.value c.ty (λ some. found_type (code_constants p) c (listed.0 some)), typed_listed used listed.1)

  all_typed : HaveConstantsOfTypes (program_code p) (body_numbers p home outputs placement) (constants_of_program p)
  all_typed = typed_listed (constants_of_program p) (all_listed (constants_of_program p) [])

  first_typed : (xs ys : List UsedConstant) → HaveConstantsOfTypes (program_code p) (body_numbers p home outputs placement) (xs ++ ys) → HaveConstantsOfTypes (program_code p) (body_numbers p home outputs placement) xs
  first_typed [] ys h = tt
  first_typed (x ∷ xs) ys h = (h.0, first_typed xs ys h.1)

  rest_typed : (xs ys : List UsedConstant) → HaveConstantsOfTypes (program_code p) (body_numbers p home outputs placement) (xs ++ ys) → HaveConstantsOfTypes (program_code p) (body_numbers p home outputs placement) ys
  rest_typed [] ys h = h
  rest_typed (x ∷ xs) ys h = rest_typed xs ys h.1

  method_typed_in : (methods : List CodeMethod) (n : ℕ) (m : CodeMethod) → slice_get methods n ≡ Some m → HaveConstantsOfTypes (program_code p) (body_numbers p home outputs placement) (flat_map (λ (x : CodeMethod). constants_of_body x.method.body) methods)
      → HaveConstantsOfTypes (program_code p) (body_numbers p home outputs placement) (constants_of_body m.method.body)
  method_typed_in [] n m e h = absurd cc
  method_typed_in (x ∷ methods) zero m e h =
      subst (λ (y : CodeMethod). HaveConstantsOfTypes (program_code p) (body_numbers p home outputs placement) (constants_of_body y.method.body)) (same_some x m e)
      (first_typed (constants_of_body x.method.body) (flat_map (λ (y : CodeMethod). constants_of_body y.method.body) methods) h)
  method_typed_in (x ∷ methods) (suc n) m e h =
      method_typed_in methods n m e (rest_typed (constants_of_body x.method.body) (flat_map (λ (y : CodeMethod). constants_of_body y.method.body) methods) h)

  -- those of each body
  pub init_typed : HaveConstantsOfTypes (program_code p) (body_numbers p home outputs placement) (constants_of_body p.init.statements)
  init_typed = first_typed (constants_of_body p.init.statements) (constants_of_body p.run.statements ++ (constants_of_body p.term.statements ++ flat_map (λ (m : CodeMethod). constants_of_body m.method.body) (code_methods p))) all_typed

  behind_init : HaveConstantsOfTypes (program_code p) (body_numbers p home outputs placement) (constants_of_body p.run.statements ++ (constants_of_body p.term.statements ++ flat_map (λ (m : CodeMethod). constants_of_body m.method.body) (code_methods p)))
  behind_init = rest_typed (constants_of_body p.init.statements) (constants_of_body p.run.statements ++ (constants_of_body p.term.statements ++ flat_map (λ (m : CodeMethod). constants_of_body m.method.body) (code_methods p))) all_typed

  pub run_typed : HaveConstantsOfTypes (program_code p) (body_numbers p home outputs placement) (constants_of_body p.run.statements)
  run_typed = first_typed (constants_of_body p.run.statements) (constants_of_body p.term.statements ++ flat_map (λ (m : CodeMethod). constants_of_body m.method.body) (code_methods p)) behind_init

  behind_run : HaveConstantsOfTypes (program_code p) (body_numbers p home outputs placement) (constants_of_body p.term.statements ++ flat_map (λ (m : CodeMethod). constants_of_body m.method.body) (code_methods p))
  behind_run = rest_typed (constants_of_body p.run.statements) (constants_of_body p.term.statements ++ flat_map (λ (m : CodeMethod). constants_of_body m.method.body) (code_methods p)) behind_init

  pub term_typed : HaveConstantsOfTypes (program_code p) (body_numbers p home outputs placement) (constants_of_body p.term.statements)
  term_typed = first_typed (constants_of_body p.term.statements) (flat_map (λ (m : CodeMethod). constants_of_body m.method.body) (code_methods p)) behind_run

  pub method_typed : (n : ℕ) (m : CodeMethod) → slice_get (code_methods p) n ≡ Some m → HaveConstantsOfTypes (program_code p) (body_numbers p home outputs placement) (constants_of_body m.method.body)
  method_typed n m e =
      method_typed_in (code_methods p) n m e (rest_typed (constants_of_body p.term.statements) (flat_map (λ (x : CodeMethod). constants_of_body x.method.body) (code_methods p)) behind_run)
