-- What only proofs and inner contracts use: nothing here need be believed.
pub mod Tally
