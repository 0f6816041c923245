pub mod BitLemmas
pub mod CodeLemmas
pub mod IntegerLemmas
pub mod IntegerWriting
mod Names
pub mod ReadLemmas
mod Rows
pub mod StateLemmas
pub mod StringLemmas
pub mod TableLemmas
pub mod TreeLemmas
pub mod WriteLemmas
