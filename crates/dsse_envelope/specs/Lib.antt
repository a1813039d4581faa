pub mod Authentication
pub mod Base64
pub mod Envelopes
pub mod Written
pub mod Sealing
