pub mod BytesMap
pub mod Calls
pub mod Causes
pub mod Content
-- bytes as one printable word
pub mod Escaped
