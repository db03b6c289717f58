mod Digits
mod Bits
mod Lines
mod Values
mod Examples
