-- What the program's proofs cite.
mod Cases
