pub mod AtRow
