mod Lent
mod Words
mod Mentions
mod Hiding
