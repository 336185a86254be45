pub mod CutLaws
pub mod FileLaws
pub mod LineLaws
pub mod MeetLaws
pub mod PatternLaws
pub mod FrameLaws
pub mod PartLaws
