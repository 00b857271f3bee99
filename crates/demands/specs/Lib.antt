-- The words of the theorems about what the calls promise, over the outcome definitions. The theorems stand in proofs/, under the same file names. Assumes nothing.
-- what the theorems say; EdgesUnread is a theorem itself, which needs no word but those of the calls
pub mod Admitted
pub mod Enough
pub mod AnyStore
pub mod Bounded
pub mod Counted
pub mod EdgesUnread
pub mod Cases
-- the words that they speak in
pub mod Exactly
pub mod Faithful
pub mod Reads
-- what they rest on: the numbers of the calls, the rows of the plan, what is gathered, the rows over it, the lists that are read
pub mod Numbers
pub mod Answered
pub mod Matched
pub mod Gathers
pub mod EdgeRows
pub mod AllRows
pub mod Among
pub mod Standing
pub mod Ordered
pub mod Within
pub mod InBytes
pub mod Counting
pub mod Named
