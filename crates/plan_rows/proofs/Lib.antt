pub mod Going
pub mod Nodes
pub mod Edges
