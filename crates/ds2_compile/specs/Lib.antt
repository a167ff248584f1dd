-- What a source is compiled to.
pub mod CompiledSources
pub mod CodesOfPrograms
pub use Rattle.ds2_code.specs.declared.parts.HashPart
pub use Rattle.ds2_code.specs.declared.parts.HashTable
pub use Rattle.ds2_code.specs.declared.parts.ReadPart
pub use Rattle.ds2_code.specs.declared.parts.StagedParts
pub use Rattle.ds2_code.specs.declared.parts.TableReference
pub use Rattle.ds2_elaboration.specs.Elaboration
pub use Rattle.ds2_meaning.specs.ProgramMeaning
pub use Rattle.ds2_meaning.specs.ProgramTree
pub use Rattle.ds2_meaning.specs.Reading
pub use Rattle.ds2_meaning.specs.declared.readings.MentionedTable
pub use Rattle.ds2_names.specs.SourceLimits
pub use Rattle.ds2_names.specs.SourceUnit
pub use Rattle.ds2_names.specs.declared.schemas.NamedSchema
pub use Rattle.ds2_same_meaning.specs.CodeTables
pub use Rattle.ds2_same_meaning.specs.SameAnswer
pub use Rattle.ds2_same_meaning.specs.SameMeaning
pub use Rattle.ds2_source.specs.Answers
pub use Rattle.ds2_source.specs.AnswersOfTexts
pub use Rattle.ds2_source.specs.InputTables
pub use Rattle.ds2_source.specs.SourceAnswer
pub use Rattle.ds2_source.specs.SourceRefusals
pub use Rattle.ds2_source.specs.SourceTexts
pub use Rattle.ds2_source.specs.declared.inputs.TheConstants as InputConstants
pub use Rattle.ds2_source.specs.declared.kinds.SourceRefusal
pub use Rattle.ds2_tree.specs.UnitViews
pub use Rattle.ds2_tree.specs.Units
pub use Rattle.ds2_value.specs.Row
pub mod LocalStages
-- What a source becomes, as the code holds it.
pub mod SourceOutcomes
pub mod SourceThreads
pub mod TablesBehind
pub mod TypedSoFar
pub use Rattle.ds2_program_types.specs.TypedPrograms
