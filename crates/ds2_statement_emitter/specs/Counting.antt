-- Code to which the parts of a counted loop are appended, by whether it has a step.
use Rattle.std.specs.Prelude.{ℕ, ◌+◌, Bool, true, false, List, [], ◌∷◌, length, pos}
use Rattle.ds2_base.specs.declared.place.Place.{Place}
use Rattle.ds2_value.specs.declared.comparison.Comparison.{Comparison}
use Rattle.ds2_value.specs.declared.comparison.Comparison.TheVariants.{Less, LessOrEqual, GreaterOrEqual}
use Rattle.ds2_value.specs.declared.ty.Ty.TheVariants.{BigInt}
use Rattle.ds2_value.specs.declared.value.Value.TheVariants.{Int}
use Rattle.ds2_meaning.specs.declared.location.Reference.{Reference}
use Rattle.ds2_code.specs.declared.instr.Instr.{Instr}
use Rattle.ds2_code.specs.declared.instr.Instr.TheVariants as instr
use Rattle.ds2_gen.specs.ExpressionCode.{CodeNumbers, cell_of, constant_instr, load_instr, store_instr}
use Rattle.ds2_gen.specs.StatementCode.{load_kept, store_kept}
use Rattle.ds2_emitter.specs.Emit.{with_instruction, with_run}
use Rattle.ds2_statement_emitter.specs.Appending.{with_off}

-- the number under which the end is kept
abbrev pub end_kept : ℕ → (has_step : Bool) → ℕ
end_kept kept true = kept + 1
end_kept kept false = kept

-- pushes what is added in each round
abbrev pub step_pushed : CodeNumbers → ℕ → (has_step : Bool) → Instr
step_pushed n kept true = load_kept n kept BigInt
step_pushed n kept false = constant_instr n (Int (pos 1)) BigInt

-- keeps the step, where there is one
abbrev pub step_kept : CodeNumbers → ℕ → (has_step : Bool) → List Instr
step_kept n kept true = store_kept n kept ∷ []
step_kept n kept false = []

-- start, end and step are stored, and the first round begins, without the jump to the test
abbrev pub with_start_stored : CodeNumbers → Place → Reference → ℕ → Bool → List Instr → List Instr
with_start_stored n place variable kept has_step code =
    with_instruction (instr.Tick place) (with_instruction (store_instr (cell_of n variable)) (with_instruction (store_kept n (end_kept kept has_step)) (with_run (step_kept n kept has_step) code)))

-- with the jump to the test, which is left open
abbrev pub with_begun : CodeNumbers → Place → Reference → ℕ → Bool → List Instr → List Instr
with_begun n place variable kept has_step code = with_instruction (instr.Jump 0) (with_start_stored n place variable kept has_step code)

-- the number of this jump
abbrev pub begun_jump : CodeNumbers → Place → Reference → ℕ → Bool → List Instr → ℕ
begun_jump n place variable kept has_step code = length (with_start_stored n place variable kept has_step code)

-- the step of a further round
abbrev pub with_advanced : CodeNumbers → Place → Reference → Instr → List Instr → List Instr
with_advanced n place variable step code =
    with_instruction (store_instr (cell_of n variable)) (with_instruction instr.IAdd (with_instruction step (with_instruction (load_instr (cell_of n variable) BigInt) (with_instruction (instr.Tick place) code))))

-- the variable is compared with the kept end
abbrev pub with_bound : CodeNumbers → Reference → ℕ → Comparison → ℕ → List Instr → List Instr
with_bound n variable end comparison first code =
    with_instruction (instr.JTrue first) (with_instruction (instr.ICmp comparison) (with_instruction (load_kept n end BigInt) (with_instruction (load_instr (cell_of n variable) BigInt) code)))

-- the kept step is compared with 0
abbrev pub with_sign : CodeNumbers → ℕ → Comparison → ℕ → List Instr → List Instr
with_sign n kept comparison to code =
    with_instruction (instr.JFalse to) (with_instruction (instr.ICmp comparison) (with_instruction (constant_instr n (Int (pos 0)) BigInt) (with_instruction (load_kept n kept BigInt) code)))

-- the test of a loop with a step
abbrev pub with_step_test : CodeNumbers → ℕ → Reference → ℕ → ℕ → List Instr → List Instr
with_step_test n kept variable end first code =
    let out = length code + 17 in
    with_bound n variable end GreaterOrEqual first (with_sign n kept Less out (with_instruction (instr.Jump out)
    (with_bound n variable end LessOrEqual first (with_sign n kept GreaterOrEqual (length code + 9) code))))

-- the test of a loop
abbrev pub with_tested : CodeNumbers → ℕ → Reference → Bool → ℕ → ℕ → List Instr → List Instr
with_tested n kept variable true end first code = with_step_test n kept variable end first code
with_tested n kept variable false end first code = with_bound n variable end LessOrEqual first code

-- the step of a further round and the test, to which the jump that was left open leads
abbrev pub with_round : CodeNumbers → Place → Reference → ℕ → Bool → ℕ → ℕ → ℕ → List Instr → List Instr
with_round n place variable kept has_step hole end first code =
    with_tested n kept variable has_step end first (with_off true hole (with_advanced n place variable (step_pushed n kept has_step) code))
