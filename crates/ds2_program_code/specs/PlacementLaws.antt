-- What is proved of the placements of a program.
use Rattle.std.specs.Prelude.{◌≡◌, IsTrue, ℕ, ◌+◌, List, [], ◌∷◌, length, map}
use Rattle.ds2_meaning.specs.declared.methods.Parameter.{Parameter}
use Rattle.ds2_meaning.specs.IsTyped.{are_distinct}
use Rattle.ds2_meaning.specs.Method.{MethodTree}
use Rattle.ds2_meaning.specs.ProgramTree.{BodyTree, UnitTree}
use Rattle.ds2_layout.specs.declared.slot.LayoutSlot.{LayoutSlot}
use Rattle.ds2_layout.specs.declared.slot.SlotRole.{SlotRole as LayoutRole}
use Rattle.ds2_layout.specs.declared.slot.SlotRole.TheVariants as layout_role
use Rattle.ds2_layout.specs.Layout.{program_slots}
use Rattle.ds2_code.specs.declared.parts.ProgramParts.{ProgramParts}
use Rattle.ds2_code.specs.declared.parts.Slot.{Slot}
use Rattle.ds2_code.specs.declared.parts.SlotRole.{SlotRole}
use Rattle.ds2_code.specs.declared.parts.SlotRole.TheVariants as code_roles
use Rattle.ds2_gen.specs.MethodCode.{IsMethodPlacement, MayCall}
use Rattle.ds2_gen.specs.StatementCode.{statements_keep}
use Rattle.ds2_gen.specs.UnitCode.{IsUnitPlacement}
use Rattle.ds2_gen.specs.UnitTheorem.{RolesFit}
use Rattle.ds2_program_code.specs.PlacedProgram.{layout_size, first_of_run, first_of_term, system_placement, method_placement}

-- the parameters of a method have distinct names
abbrev pub HasDistinctParameters : MethodTree → Type 0
HasDistinctParameters method = IsTrue (are_distinct (map (λ (x : Parameter). x.name) method.parameters))

-- the placement of a system method of a program is one, and its code may call each method whose parameters are distinct
pub record SystemMethodFits (p : UnitTree) (first : ℕ) (body : BodyTree) : Type 0 where
  pub placed : IsUnitPlacement (system_placement p first body) body.locals
  pub calls : (method : MethodTree) → MayCall (system_placement p first body) (method_placement p method)

-- likewise the placement of a method, with a place of its frame for each local and each value that its code keeps
pub record MethodFits (p : UnitTree) (method : MethodTree) : Type 0 where
  pub frame : IsMethodPlacement (method_placement p method) method.parameters (length method.locals + statements_keep method.body)
  pub further_calls : (other : MethodTree) → MayCall (method_placement p method) (method_placement p other)

-- the placements of all bodies of a program
pub record ProgramIsPlaced (p : UnitTree) : Type 0 where
  pub in_init : SystemMethodFits p (layout_size p) p.init
  pub in_run : SystemMethodFits p (first_of_run p) p.run
  pub in_term : SystemMethodFits p (first_of_term p) p.term
  pub in_methods : (method : MethodTree) → HasDistinctParameters method → MethodFits p method

-- the placements of each program are such as the laws of code ask for
abbrev pub PlacementsFit : Type 0
PlacementsFit = (p : UnitTree) → ProgramIsPlaced p

-- ---- roles

-- the role of a slot of the layout in the code
abbrev pub code_role : LayoutRole → SlotRole
code_role layout_role.Cleared = code_roles.Cleared
code_role layout_role.Kept = code_roles.Kept
code_role layout_role.Column = code_roles.Column
code_role layout_role.Flag = code_roles.Flag

-- slots of code have the roles of those of a layout, and those behind them are kept
abbrev pub HaveRolesOf : List LayoutSlot → List Slot → Type 0
HaveRolesOf [] [] = Unit {0}
HaveRolesOf [] (s ∷ slots) = (s.role ≡ code_roles.Kept) × HaveRolesOf [] slots
HaveRolesOf (l ∷ layout) [] = ⊥
HaveRolesOf (l ∷ layout) (s ∷ slots) = (s.role ≡ code_role l.role) × HaveRolesOf layout slots

-- in code whose slots have the roles of the layout's, `run` sets to null what the program's meaning sets to null
abbrev pub LayoutRolesFit : Type 0
LayoutRolesFit = (code : ProgramParts) (p : UnitTree) → HaveRolesOf (program_slots p) code.slots → RolesFit code (system_placement p (first_of_run p) p.run) p
