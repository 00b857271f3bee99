pub mod Total
