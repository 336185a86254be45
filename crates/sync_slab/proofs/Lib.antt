pub mod SetLemmas
pub mod ChannelLaws
