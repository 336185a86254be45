pub mod StepLemmas
pub mod CallLemmas
pub mod Granules
pub mod LocalLaws
pub mod PlainLaws
