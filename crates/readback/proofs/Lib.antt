-- Characters, names, paths, values and numbers read back, and so acts and calls do.
pub mod CharsBack
pub mod ActsBack
