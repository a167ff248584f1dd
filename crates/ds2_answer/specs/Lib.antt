-- The answer to a line of words over the files of a store.
pub mod Status
pub mod Words
pub mod Lines
pub mod CountLines
pub mod Load
pub mod Answer
pub mod CommandLines
pub mod Plan
pub mod PlanSteps
pub mod HeldTables
pub mod StagesLeft
pub mod ProgramPlans
pub mod TablePlans
pub mod ObjectPlans
pub mod SourcePlans
pub mod DemoPlans
pub mod CommandPlans
pub mod StoredCodes
pub mod ProgramEndings
pub use Rattle.ds2_csv.specs.Reads
pub use Rattle.ds2_csv.specs.declared.refusal.CsvRefusal
-- A table of sales, made from one number.
pub mod Drawn
pub mod Sales
