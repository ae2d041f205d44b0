pub mod Parts
pub mod Worked
pub mod Setups
mod Means
mod NumberedLaw
mod DanglingLaw
mod GuardedLaw
mod ExitsLaw
mod GoneLaw
mod PhasesLaw
mod ExitPlaces
mod Owners
mod ClaimsLaw
mod WorkedAudits
mod FedLines
mod Fields
mod Judged
mod Runs
mod PlainOf
mod RootTaken
pub mod Plainly
mod LinesRead
mod SectionRuns
mod ChargeRuns
mod RootRuns
mod ReadsSpelled
mod ItsLines
mod ReaderLaws
mod WordsBack
mod Begun
mod Stages
mod ChargesBack
mod RowsSet
mod Upto
mod Steps
mod Completes
pub mod VerdictLaws
mod Shaped
pub mod Written
mod Rising
mod Stilled
pub mod Sayable
pub mod FoundSound
pub mod Rests
