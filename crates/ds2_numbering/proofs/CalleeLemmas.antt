-- What a declared method is to those that call it.
use Rattle.std.proofs.Common.{◌≡◌, ◌<◌, ℕ, suc, ◌+◌, Bool, true, false, if◌then◌else◌, List, [], ◌∷◌, length, map, drop, get_or, slice_get, Option, Some, None, option_map, refl, sym, ap, ◌∙◌}
use Rattle.std.specs.Prelude.{bytes_eq, is_some}
use Rattle.std.proofs.lemmas.Option.{slice_get-map}
use Rattle.ds2_meaning.specs.declared.methods.Method.{Method}
use Rattle.ds2_meaning.specs.Location.{Home}
use Rattle.ds2_meaning.specs.Method.{MethodTree}
use Rattle.ds2_meaning.specs.declared.units.Instance.{Instance}
use Rattle.ds2_meaning.specs.ProgramTree.{UnitTree, instance_methods, methods_of}
use Rattle.ds2_meaning.specs.View.{instance_tree, typed_method}
use Rattle.ds2_code.specs.declared.instr.Instr.TheVariants.{Call, NoWhen, DropTop}
use Rattle.ds2_gen.specs.ExpressionCode.{Callee, call_instr}
use Rattle.ds2_gen.specs.StatementCode.{drop_code}
use Rattle.ds2_emitter.specs.Dropped.{dropped_result}
use Rattle.ds2_program_code.specs.CodeMethods.{first_method_of, callee_of}
use Rattle.ds2_numbering.proofs.SearchLemmas.{drop_next}

pub mapped_methods : (methods : List Method) → length (map typed_method methods) ≡ length methods
mapped_methods [] = refl
mapped_methods (m ∷ methods) = ap suc (mapped_methods methods)

-- a method as code calls it, from the number of the first one of its home
abbrev called_as : ℕ → ℕ → Option MethodTree → Option Callee
called_as first k o = option_map (λ (m : MethodTree). record { number = first + k; has_result = is_some m.returns }) o

pub method_there : (methods : List Method) (k : ℕ) → slice_get (map typed_method methods) k ≡ option_map typed_method (slice_get methods k)
method_there methods k = slice_get-map typed_method methods k

-- a method of the first instance of a name that is left
pub found_there : (instances : List Instance) (i : ℕ) (x : Instance) (name : List ℕ) (k : ℕ) (o : Option Method) (whole : Option MethodTree) → i < length instances → x ≡ get_or instances i x
    → bytes_eq x.name name ≡ true → o ≡ slice_get x.package.methods k → slice_get (instance_methods (map instance_tree (drop i instances)) name) k ≡ whole → option_map typed_method o ≡ whole
found_there instances i x name k o whole lt here is got before =
    ap (λ (m : Option Method). option_map typed_method m) got ∙ sym (method_there x.package.methods k)
    ∙ ap (λ (b : Bool). slice_get (if b then map typed_method x.package.methods else instance_methods (map instance_tree (drop (i + 1) instances)) name) k) (sym is)
    ∙ ap (λ (l : List Instance). slice_get (instance_methods (map instance_tree l) name) k) (sym (drop_next instances i x lt here))
    ∙ before

found_method : (p : UnitTree) (home : Home) (k : ℕ) (o : Option Method) → option_map typed_method o ≡ slice_get (methods_of p home) k
    → callee_of p home k ≡ called_as (first_method_of p home) k (option_map typed_method o)
found_method p home k o is = ap (λ x. called_as (first_method_of p home) k x) (sym is)

pub no_callee : (p : UnitTree) (home : Home) (k : ℕ) (o : Option Method) → option_map typed_method o ≡ slice_get (methods_of p home) k → o ≡ None → call_instr (callee_of p home k) ≡ NoWhen
no_callee p home k o is none = ap call_instr (found_method p home k o is ∙ ap (λ x. called_as (first_method_of p home) k (option_map typed_method x)) none)

pub called_by_number : (p : UnitTree) (home : Home) (k : ℕ) (o : Option Method) (m : Method) → option_map typed_method o ≡ slice_get (methods_of p home) k → o ≡ Some m
    → call_instr (callee_of p home k) ≡ Call (first_method_of p home + k)
called_by_number p home k o m is some = ap call_instr (found_method p home k o is ∙ ap (λ x. called_as (first_method_of p home) k (option_map typed_method x)) some)

dropped_if : (b : Bool) → (if b then DropTop ∷ [] else []) ≡ dropped_result b
dropped_if true = refl
dropped_if false = refl

pub none_dropped : (p : UnitTree) (home : Home) (k : ℕ) (o : Option Method) → option_map typed_method o ≡ slice_get (methods_of p home) k → o ≡ None → drop_code (callee_of p home k) ≡ dropped_result false
none_dropped p home k o is none = ap drop_code (found_method p home k o is ∙ ap (λ x. called_as (first_method_of p home) k (option_map typed_method x)) none)

pub result_dropped : (p : UnitTree) (home : Home) (k : ℕ) (o : Option Method) (m : Method) → option_map typed_method o ≡ slice_get (methods_of p home) k → o ≡ Some m
    → drop_code (callee_of p home k) ≡ dropped_result (is_some m.returns)
result_dropped p home k o m is some =
    ap drop_code (found_method p home k o is ∙ ap (λ x. called_as (first_method_of p home) k (option_map typed_method x)) some) ∙ dropped_if (is_some m.returns)
