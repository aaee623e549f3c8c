mod Ends
mod Keeping
