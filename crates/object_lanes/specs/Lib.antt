-- objects without their ids, and what is hashed of each
pub mod Groups
