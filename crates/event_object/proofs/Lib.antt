mod Numbered
mod Floats
