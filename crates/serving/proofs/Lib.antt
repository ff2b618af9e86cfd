mod Said
mod Doings
