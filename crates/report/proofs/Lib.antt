-- Laws of the report's text, and of storing one.
mod Texts
pub mod TextLaws
-- Numbers are printed in base ten.
pub mod DecimalFacts
-- The runs found are the maximal runs.
pub mod RunFacts
-- How long a line and a text are at most.
mod LineLengths
mod Lengths
-- How many bytes of an input decide its report.
pub mod FirstBytes
-- What the lines of a text say, and the law of what is printed: ReportLaws.
mod Fields
mod PrintedLines
mod PrintedRuns
pub mod ReportLaws
-- Document 01's examples.
pub mod Examples
-- The contracts leave one answer and one buffer, and the law of what is printed one text.
pub mod OneReport
pub mod OnePrinted
-- What the code's proofs cite, case by case.
mod StepCases
mod RunCases
mod CallCases
mod DayCases
mod PromiseCases
