mod Gates
mod Surely
