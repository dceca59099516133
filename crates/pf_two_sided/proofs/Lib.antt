pub mod MirrorLemmas
pub mod MeetingLemmas
pub mod SideLemmas
pub mod JoinLemmas
