-- The laws of a SUP file's text, and the ways through the code.
pub mod SupLaws
mod RawLaws
pub mod SourceLaws
pub mod WroteLaws
pub mod FormLaws
mod RoundWays
pub mod LineWays
mod TotalWays
pub mod DateWays
pub mod ListedWays
mod RawOrder
mod RawWays
mod RawPuts
pub mod TextWays
