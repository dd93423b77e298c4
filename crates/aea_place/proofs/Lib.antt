mod Rotations
mod HomeLemmas
