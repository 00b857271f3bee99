-- Laws of lists, words and the rules, which the proofs of the functions cite. Each file is named for what it speaks of. Assumes nothing.
-- tests and numbers
pub mod Cases
pub mod Signed
-- lists
pub mod Has
pub mod All
pub mod Any
pub mod Each
pub mod Every
pub mod Beside
pub mod Map
pub mod Keep
pub mod Range
pub mod Filled
pub mod Strict
pub mod Sets
pub mod Distinct
pub mod Merging
pub mod Choices
pub mod Fold
pub mod Sums
pub mod Slices
-- rooms, words and bytes
pub mod Over
pub mod Copied
pub mod Writing
pub mod Rooms
pub mod Same
pub mod Words
pub mod Packing
pub mod Lows
-- loops and searches
pub mod Loops
pub mod Chains
pub mod Halving
pub mod Turns
pub mod Searching
-- the store: its parts, header, constraints, keys, groups and lists
pub mod Header
pub mod Pairs
pub mod Parts
pub mod PartMembers
pub mod Sections
pub mod Drafts
pub mod Stores
pub mod Constraints
pub mod KeyLists
pub mod Places
pub mod GroupBytes
pub mod Lookup
pub mod Fitness
-- the pattern and its plan
pub mod PatternLaws
pub mod Table
pub mod Smallest
pub mod Least
pub mod Covering
pub mod Rows
pub mod Plannable
pub mod Capped
-- matches, refusals and outcomes
pub mod Matches
pub mod Refusals
pub mod Outcomes
pub mod Determined
