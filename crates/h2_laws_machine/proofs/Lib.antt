-- The lemmas of the laws.
pub mod AlikeAnswers
pub mod AlikeFrames
mod BlocksBegun
pub mod BoundedLogs
pub mod BoundsOfSteps
mod CallFailing
mod CallLaw
pub mod CallOpen
pub mod CallRefusals
mod CallRelease
mod CallReset
mod CallSend
mod CallSendItems
pub mod CallWithoutStream
pub mod ConservedBySteps
pub mod CountedBySteps
pub mod CountedUnprocessed
mod EachStream
mod EndInvariants
mod EntryCounts
mod EveryCall
mod EveryEnd
pub mod EveryStep
pub mod FirstSettings
pub mod FreshNumbers
pub mod GoAwaysSent
mod ItemsApart
mod LogCore
mod Names
pub mod NewEnd
pub mod NextUnprocessed
mod NumberedLogs
mod NumberedSteps
mod OneAwaited
mod OneItemMore
mod OwedAtClose
pub mod OwedOnStreams
pub mod OwedSums
pub mod PeerRoom
mod QuietNumbers
pub mod RangesOfSteps
pub mod ReadLimits
mod RecvBeside
mod RecvBlocks
mod RecvConnectionFault
mod RecvConnectionItems
mod RecvData
mod RecvEvents
pub mod RecvFrames
pub mod RecvItems
mod RecvOpenings
mod RecvPong
mod RecvRead
mod RecvRefusals
mod RecvReset
mod RecvReturnedCredit
mod RecvSettings
mod RecvSettingsAck
mod RecvStarted
mod RecvStreamFaults
mod RecvStreamItems
mod RecvUnprocessed
mod RecvVerdict
mod RecvVerdictCases
mod RecvVerdictLimits
mod RecvWithoutFrame
pub mod RepresentedSteps
mod RulesAtEnds
mod SentConnectionItems
mod SentQuietItems
mod SentStreamItems
mod SoundLogs
mod StreamRanges
mod StreamsSame
pub mod TableRanges
mod UpInvariant
mod UpInvariantLogs
pub mod UpInvariantReads
mod ViewsAgree
pub mod WaitingOutput
