-- What only proofs and inner contracts use: nothing here need be believed.
pub mod InUse
pub mod Rates
pub mod Laid
pub mod Admitted
