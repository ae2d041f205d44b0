pub mod SampleLists
pub mod RuleKept
pub mod Told
pub mod ShownOn
pub mod ShownEnd
