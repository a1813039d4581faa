-- One-time keys and signatures: their types, a digest as digits, the chains, and what is made of them (RFC 8554,
-- section 4).
pub mod OtsType
pub mod Digits
pub mod Chain
pub mod OneTime
-- How chains are gone along eight at a time.
pub mod SideBySide
pub mod OnWay
