-- Worked examples: octets that come and calls that are made, against events, octets that go out,
-- faults and refusals. The expected values are those of RFC 9113 and RFC 7541, and of this
-- profile's limits. Each example computes: a definition that says otherwise is refused.
pub mod Octets
pub mod Words
pub mod Ends
pub mod Opening
pub mod Blocks
pub mod Bodies
pub mod Updates
pub mod Settings
pub mod Pings
pub mod GoAways
pub mod Resets
pub mod Credit
pub mod Refusals
pub mod Readers
pub mod Memory
pub mod Limits
pub mod CountedFrames
pub mod ManyStreams
pub mod LongBodies
pub mod AnyBody
pub mod LargerFrames
pub mod Coming
pub mod ServersCome
pub mod ServersSettingsCome
pub mod ServersResetsCome
pub mod ClientsCome
pub mod ManyStreamsCome
