-- How the table of constants grows by the bodies of a program.
use Rattle.std.proofs.Common.{◌≡◌, ◌<◌, ◌+◌, ℕ, suc, List, [], ◌∷◌, ◌++◌, Option, Some, None, length, drop, get_or, refl, sym, ap, ◌∙◌, append_assoc, add-one}
use Rattle.std.proofs.Math.Seq.{drop-cons}
use Rattle.std.proofs.lemmas.Grind.{fold-append}
use Rattle.std.specs.Prelude.{flat_map}
use Rattle.ds2_base.specs.declared.place.Place.{Place}
use Rattle.ds2_meaning.specs.Location.{Home}
use Rattle.ds2_meaning.specs.Method.{MethodTree}
use Rattle.ds2_meaning.specs.ProgramTree.{InstanceTree, UnitTree}
use Rattle.ds2_meaning.specs.TypedExpression.{TypedArguments}
use Rattle.ds2_meaning.specs.TypedStatement.{TypedStatements, Finish, Next, Construct}
use Rattle.ds2_program_code.specs.UsedConstants.{UsedConstant, constants_of_arguments, constants_of_body}
use Rattle.ds2_program_code.specs.CodeConstants.{with_used_constant}
use Rattle.ds2_program_code.specs.CodeMethods.{CodeMethod, methods_at, code_methods}
use Rattle.ds2_program_code.specs.ProgramCode.{code_constants}
use Rattle.ds2_constants.specs.UsedOnce.{with_used}
use Rattle.ds2_generate.specs.ConstantWalk.{constants_of_methods, constants_of_instance}

-- no constant changes no table
none_used : (table : List UsedConstant) → with_used [] table ≡ table
unfolding with_used
none_used table = refl

both_used : (xs ys table : List UsedConstant) → with_used (xs ++ ys) table ≡ with_used ys (with_used xs table)
unfolding with_used
both_used xs ys table = fold-append with_used_constant table xs ys

-- a table that grew by what one thing uses grew by what an equal one uses
pub grown_by_equal : {A : Type 0} (f : A → List UsedConstant) (x y : A) (before grown : List UsedConstant) → x ≡ y → grown ≡ with_used (f x) before → grown ≡ with_used (f y) before
grown_by_equal f x y before grown is e = e ∙ ap (λ z. with_used (f z) before) is

-- the items from one on are that one and those behind it
pub first_and_rest : {X : Type 0} (xs : List X) (i : ℕ) (x : X) → i < length xs → x ≡ get_or xs i x → drop i xs ≡ x ∷ drop (i + 1) xs
first_and_rest xs i x lt here = drop-cons xs i x lt ∙ ap (λ y. y ∷ drop (suc i) xs) (sym here) ∙ ap (λ j. x ∷ drop j xs) (sym (add-one i))

pub constructor_collected : (p : Place) (instance : List ℕ) (method : Option ℕ) (arguments : TypedArguments) (rest : TypedStatements) (table : List UsedConstant)
    → with_used (constants_of_body (Next (Construct p instance method arguments) rest)) table ≡ with_used (constants_of_body rest) (with_used (constants_of_arguments arguments) table)
constructor_collected p instance method arguments rest table = both_used (constants_of_arguments arguments) (constants_of_body rest) table

pub nothing_collected : (table : List UsedConstant) → with_used (constants_of_body Finish) table ≡ table
nothing_collected table = none_used table

pub no_constant : (table : List UsedConstant) → with_used [] table ≡ table
no_constant table = none_used table

pub method_collected : (m : MethodTree) (ms : List MethodTree) (table : List UsedConstant) → with_used (constants_of_methods (m ∷ ms)) table ≡ with_used (constants_of_methods ms) (with_used (constants_of_body m.body) table)
method_collected m ms table = both_used (constants_of_body m.body) (constants_of_methods ms) table

pub instance_collected : (i : InstanceTree) (is : List InstanceTree) (table : List UsedConstant)
    → with_used (flat_map constants_of_instance (i ∷ is)) table ≡ with_used (flat_map constants_of_instance is) (with_used (constants_of_methods i.methods) table)
instance_collected i is table = both_used (constants_of_methods i.methods) (flat_map constants_of_instance is) table

-- ---- all methods

flat_both : (xs ys : List CodeMethod) → flat_map (λ (m : CodeMethod). constants_of_body m.method.body) (xs ++ ys) ≡ flat_map (λ (m : CodeMethod). constants_of_body m.method.body) xs ++ flat_map (λ (m : CodeMethod). constants_of_body m.method.body) ys
flat_both [] ys = refl
flat_both (x ∷ xs) ys =
    ap (λ l. constants_of_body x.method.body ++ l) (flat_both xs ys)
    ∙ sym (append_assoc (constants_of_body x.method.body) (flat_map (λ (m : CodeMethod). constants_of_body m.method.body) xs) (flat_map (λ (m : CodeMethod). constants_of_body m.method.body) ys))

of_home : (home : Home) (ms : List MethodTree) → flat_map (λ (m : CodeMethod). constants_of_body m.method.body) (methods_at home ms) ≡ constants_of_methods ms
of_home home [] = refl
of_home home (m ∷ ms) = ap (λ l. constants_of_body m.body ++ l) (of_home home ms)

of_instances : (is : List InstanceTree)
    → flat_map (λ (m : CodeMethod). constants_of_body m.method.body) (flat_map (λ (i : InstanceTree). methods_at (Some i.name) i.methods) is) ≡ flat_map constants_of_instance is
of_instances [] = refl
of_instances (i ∷ is) =
    flat_both (methods_at (Some i.name) i.methods) (flat_map (λ (j : InstanceTree). methods_at (Some j.name) j.methods) is)
    ∙ ap (λ l. l ++ flat_map (λ (m : CodeMethod). constants_of_body m.method.body) (flat_map (λ (j : InstanceTree). methods_at (Some j.name) j.methods) is)) (of_home (Some i.name) i.methods)
    ∙ ap (λ l. constants_of_methods i.methods ++ l) (of_instances is)

methods_used : (p : UnitTree) → flat_map (λ (m : CodeMethod). constants_of_body m.method.body) (code_methods p) ≡ constants_of_methods p.methods ++ flat_map constants_of_instance p.instances
methods_used p =
    flat_both (methods_at None p.methods) (flat_map (λ (i : InstanceTree). methods_at (Some i.name) i.methods) p.instances)
    ∙ ap (λ l. l ++ flat_map (λ (m : CodeMethod). constants_of_body m.method.body) (flat_map (λ (i : InstanceTree). methods_at (Some i.name) i.methods) p.instances)) (of_home None p.methods)
    ∙ ap (λ l. constants_of_methods p.methods ++ l) (of_instances p.instances)

-- the table that the bodies fill one after the other is that of the program
pub program_collected : (p : UnitTree) (t0 t1 t2 t3 t4 t5 : List UsedConstant) → t0 ≡ []
    → t1 ≡ with_used (constants_of_body p.init.statements) t0
    → t2 ≡ with_used (constants_of_body p.run.statements) t1
    → t3 ≡ with_used (constants_of_body p.term.statements) t2
    → t4 ≡ with_used (constants_of_methods p.methods) t3
    → t5 ≡ with_used (flat_map constants_of_instance p.instances) t4
    → t5 ≡ code_constants p
unfolding with_used
program_collected p t0 t1 t2 t3 t4 t5 e0 e1 e2 e3 e4 e5 =
    let a = constants_of_body p.init.statements in
    let b = constants_of_body p.run.statements in
    let c = constants_of_body p.term.statements in
    let d = constants_of_methods p.methods in
    let f = flat_map constants_of_instance p.instances in
    let joined = both_used a (b ++ (c ++ (d ++ f))) [] ∙ both_used b (c ++ (d ++ f)) (with_used a []) ∙ both_used c (d ++ f) (with_used b (with_used a [])) ∙ both_used d f (with_used c (with_used b (with_used a []))) in
    let last = ap (λ u. with_used (a ++ (b ++ (c ++ u))) []) (methods_used p) in
    cc (joined, last)
