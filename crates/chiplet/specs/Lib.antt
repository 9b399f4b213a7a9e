pub mod Chiplet
pub mod WordLaws
pub mod RunLaws
pub mod Run
pub mod Primes
pub mod Squares
