-- The laws of `edited`.
pub mod TextLaws
pub mod TallyLaws
pub mod RingLaws
pub mod PlaceLaws
