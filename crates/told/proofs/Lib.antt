-- The ways through the functions that lay an answer out; the C interface cites those on what was asked.
pub mod ToldWays
mod FigureWays
