mod Asked
mod Unreferenced
mod Taken
mod Resolving
mod Cited
