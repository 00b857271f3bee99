-- What reading a group's key and testing its list give: the definitions that the contracts cite. Assumes nothing.
pub mod Keys
pub mod Ruled
