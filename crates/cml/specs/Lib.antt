-- To read beside document 02, T-11, and source 001, "Elemento: LINEA":
pub mod Element
pub mod Lines
pub mod Examples
-- For private contracts alone:
pub mod Spaced
