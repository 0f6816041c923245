pub mod Appended
pub mod Bits
pub mod Continuation
pub mod Huffman
pub mod Integers
pub mod States
pub mod Strings
pub mod Tree
