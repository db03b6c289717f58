-- Laws of the solver's code: an edge's turn, the rows, an iteration and the loop, and the operation's beginning and end.
mod Parts
mod Turns
mod Rows
mod Beyond
mod Reached
mod Iterations
mod Ends
