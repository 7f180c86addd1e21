pub mod LongestPrefixes
pub mod WordPrefixes
pub mod NumberPrefixes
pub mod QuotePrefixes
pub mod SignPrefixes
pub mod FirstBytes
pub mod SkipLemmas
pub mod NumberTokens
pub mod Scanning
pub mod ValueLemmas
pub mod OneKind
pub mod OneScan
pub mod TokenTexts
pub mod SkippedBlanks
mod Rows
