mod Taking
mod Parting
mod Seeing
mod Turns
mod Comparing
mod Walking
mod Reading
