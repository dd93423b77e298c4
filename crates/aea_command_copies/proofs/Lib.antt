mod Over
mod Beginning
mod Starting
mod Refused
mod Running
