mod Decode
mod Parts
mod Starts
mod Taken
