-- rows as bytes
pub mod Encoding
-- which bytes are an encoding, and what one thing at their front is
pub mod Decoding
pub mod Front
