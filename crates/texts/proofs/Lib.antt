mod Past
mod Sizes
