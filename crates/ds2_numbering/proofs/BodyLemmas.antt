-- How what a body names is reached.
use Rattle.std.proofs.Common.{◌≡◌, ℕ, false, true, Option, Some, None, option_map, Result, Ok, Err, refl, sym, ap, ◌∙◌}
use Rattle.std.specs.Prelude.{IfOk}
use Rattle.ds2_value.specs.Value.{is_null}
use Rattle.ds2_value.specs.declared.ty.Ty.{Ty}
use Rattle.ds2_value.specs.declared.value.Value.{Value}
use Rattle.ds2_value.specs.declared.value.Value.TheVariants as value
use Rattle.ds2_code.specs.declared.instr.Instr.TheVariants.{Null as PushesNull, Const}
use Rattle.ds2_gen.specs.CodeCells.{CodeCell}
use Rattle.ds2_gen.specs.ExpressionCode.{CodeNumbers, constant_instr}
use Rattle.ds2_program_code.specs.PlacedProgram.{first_cell}
use Rattle.ds2_numbering.specs.BodyTrees.{pushed_by}

pub null_pushed : (numbers : Value → Ty → ℕ) (v : Value) (ty : Ty) → is_null v ≡ true → pushed_by numbers v ty ≡ PushesNull ty
null_pushed numbers value.Null ty h = refl
null_pushed numbers (value.Int i) ty h = cc h
null_pushed numbers (value.Dec d) ty h = cc h
null_pushed numbers (value.Txt t) ty h = cc h

pub constant_pushed : (numbers : Value → Ty → ℕ) (v : Value) (ty : Ty) → is_null v ≡ false → pushed_by numbers v ty ≡ Const (numbers v ty)
constant_pushed numbers value.Null ty h = cc h
constant_pushed numbers (value.Int i) ty h = refl
constant_pushed numbers (value.Dec d) ty h = refl
constant_pushed numbers (value.Txt t) ty h = refl

-- a constant is pushed by its number
pub pushed_is : (n : CodeNumbers) (v : Value) (ty : Ty) → pushed_by n.constant v ty ≡ constant_instr n v ty
pushed_is n value.Null ty = refl
pushed_is n (value.Int i) ty = refl
pushed_is n (value.Dec d) ty = refl
pushed_is n (value.Txt t) ty = refl

-- what was given back is this, also in other words
pub if_same : {A E : Type 0} (a b : A) (r : Result A E) → a ≡ b → IfOk r (λ x. x ≡ a) → IfOk r (λ x. x ≡ b)
if_same a b (Ok x) is h = h ∙ is
if_same a b (Err e) is h = h

-- likewise of what is seen of it
pub if_seen : {A B E : Type 0} (f : A → B) (a b : B) (r : Result A E) → a ≡ b → IfOk r (λ x. f x ≡ a) → IfOk r (λ x. f x ≡ b)
if_seen f a b (Ok x) is h = h ∙ is
if_seen f a b (Err e) is h = h

-- a cell that was found is the first one
pub chosen_first : (wrap : ℕ → CodeCell) (number o : Option ℕ) (n : ℕ) (other : Option CodeCell) → o ≡ number → o ≡ Some n → Some (wrap n) ≡ first_cell (option_map wrap number) other
chosen_first wrap number o n other is some = ap (λ m. first_cell (option_map wrap m) other) (sym some ∙ is)

-- where none was found it is the other one
pub chosen_next : (wrap : ℕ → CodeCell) (number o : Option ℕ) (other : Option CodeCell) → o ≡ number → o ≡ None → other ≡ first_cell (option_map wrap number) other
chosen_next wrap number o other is none = ap (λ m. first_cell (option_map wrap m) other) (sym none ∙ is)
