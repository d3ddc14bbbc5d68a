pub mod Calculating
