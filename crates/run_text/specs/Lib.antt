-- What the contracts of text cite. Assumes nothing.
pub mod Text
pub mod TextLaws
