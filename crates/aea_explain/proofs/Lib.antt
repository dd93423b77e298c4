mod Fated
mod Explanations
