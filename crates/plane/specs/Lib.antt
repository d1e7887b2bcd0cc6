-- To read beside document 01, "Areas": rings in a table of points, their areas; a ring that is moved, for a law. (`edge-limit` and `sum-limit` of `Areas` serve laws and a private contract.)
pub mod Rings
pub mod Areas
pub mod Moved
pub mod Examples
-- For a private contract alone.
pub mod Frames
