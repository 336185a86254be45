pub mod StackLaws
pub mod FateLaws
pub mod OfferLaws
pub mod TextLaws
pub mod RisingLists
