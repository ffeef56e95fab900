pub mod DoneLemmas
pub mod FutureLemmas
pub mod MovingLemmas
pub mod ChildLemmas
pub mod UnderLemmas
pub mod DeferLemmas
pub mod SameLemmas
pub mod PathLemmas
pub mod ResolveLemmas
pub mod BeginLemmas
pub mod BuiltLemmas
pub mod CountLemmas
pub mod EntryLemmas
pub mod MemberLemmas
mod SameFramesLemmas
pub mod UniqueLemmas
