-- For the contracts of the quick way alone: nothing that document 01 speaks of. `RealAt`, `Padded`, `Vertices`, `Usual`, `IntegerAt`, `Valued` and `ValueAt` of `Seen` are what its public functions say; the rest serves private ones.
pub mod Seen
pub mod Neat
pub mod Brisk
pub mod Four
pub mod Word
pub mod Neighbours
