mod OneNumber
mod Numbers
mod Counting
mod Parts
mod Adding
