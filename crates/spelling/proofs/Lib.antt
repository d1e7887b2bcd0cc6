-- The laws of digits, that spelling and reading are inverse, and the ways through the code.
pub mod DigitLaws
pub mod SpellingLaws
pub mod FigureLaws
mod Ways
pub mod BareWays
