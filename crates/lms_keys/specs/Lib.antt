-- The types, the tree of a key, and the bytes of public keys and of signatures (RFC 8554, section 5).
pub mod LmsType
pub mod Tree
pub mod PublicKey
pub mod Signature
-- Good signatures, by keys of one level or more: the one relation that all crates above cite, and it as a test.
pub mod SigOk
pub mod Deciding
-- What a secret key is and signs, and what two signatures with one leaf tell.
pub mod Secret
pub mod OneLeaf
-- a key of one level or two, and what it signs
pub mod HssSecret
-- what a signing key keeps
pub mod Keeping
-- signatures below one leaf
pub mod Laws
