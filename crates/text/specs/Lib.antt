-- Bytes as hexadecimal, numbers as decimal digits, a call or an answer on a line, and the lines that a replica's program reads.
pub mod Pushed
pub mod Hex
pub mod Decimal
pub mod Frame
pub mod Words
pub mod Command
pub mod Line
pub mod ReadsBack
