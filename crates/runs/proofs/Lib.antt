mod Sums
mod Taken
