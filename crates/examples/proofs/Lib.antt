mod Collected
mod Kept
