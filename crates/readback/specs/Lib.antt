-- That calls in words read back.
pub mod ReadsBack
