-- The bisection and the gap of the definition, for the proofs of the code.
mod Sharing
