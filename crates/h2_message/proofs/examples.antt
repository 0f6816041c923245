-- Worked examples: octets, lists of fields and messages, against the rules that they break. The
-- expected values are those of RFC 9113, section 8, and of the own choices that go with it. Each
-- example computes: a definition that says otherwise is refused.
pub mod Words
pub mod Octets
pub mod Requests
pub mod Responses
pub mod Lengths
pub mod Readings
pub mod Readable
pub mod Refused
