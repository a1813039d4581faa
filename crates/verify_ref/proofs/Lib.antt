pub mod Walking
pub mod OneVerdict
pub mod Growing
pub mod FewReads
mod Agreeing
mod InEach
