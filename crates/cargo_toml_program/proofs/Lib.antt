mod Growing
mod Products
mod Cited
