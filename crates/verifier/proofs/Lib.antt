pub mod Options
pub mod Rows
pub mod Lookups
pub mod Callees
pub mod LabelRows
pub mod FirstFaults
pub mod NewEntries
pub mod Checking
