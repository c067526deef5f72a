mod Events
mod Ends
mod Going
mod Alike
