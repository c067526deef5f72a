mod Seating
mod Copying
