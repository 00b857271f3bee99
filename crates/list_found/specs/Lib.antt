-- What the contracts cite. Assumes nothing: these are definitions.
pub mod Reading
