-- To read beside document 01, "Tile points". (`along_of` serves a private contract.)
pub mod Tiles
pub mod Examples
