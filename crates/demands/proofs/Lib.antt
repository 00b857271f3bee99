-- Theorems about what the calls promise, over the outcome definitions. The words that they speak in stand in specs/, under the same file names. Assumes nothing.
-- the theorems; EdgesUnread is another, in specs/
pub mod Admitted
pub mod Enough
pub mod AnyStore
pub mod Bounded
pub mod ReadsBounded
pub mod Local
pub mod Counted
pub mod Planning
pub mod Determined
pub mod Cases
-- what they rest on: the numbers of the calls, the index of an admitted store, the rows of the plan, what is gathered, the rows over it, the lists that are read
pub mod Numbers
pub mod Answered
pub mod Fit
pub mod Index
pub mod Matched
pub mod Gathers
pub mod EdgeRows
pub mod AllRows
pub mod Among
pub mod Standing
pub mod Exact
pub mod Ordered
pub mod Within
pub mod ReadAlike
pub mod InBytes
pub mod Counting
pub mod Named
pub mod Lenient
