pub mod Raising
mod Leaving
mod Shorter
