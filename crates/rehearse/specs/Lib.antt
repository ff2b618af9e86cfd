-- What the lines of a script do to the houses.
pub mod Played
