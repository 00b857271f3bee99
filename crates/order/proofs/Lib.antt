mod Ascending
mod Merged
mod Settling
mod FewSorted
