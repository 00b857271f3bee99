-- What the contracts of listing cite. Assumes nothing: these are definitions.
pub mod Listings
