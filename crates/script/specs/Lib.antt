-- The lines of a script, the letters under way, which houses are up and frail, and which incarnations there were.
pub mod Lines
pub mod Network
pub mod Houses
pub mod Incarnations
pub mod Said
