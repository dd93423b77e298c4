mod Lists
mod Sites
mod Putting
mod Frames
mod Streams
mod Rooms
mod Losses
mod Getting
