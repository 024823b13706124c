mod Search
mod Keeping
