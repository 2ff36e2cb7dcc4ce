pub mod RingNumbers
pub mod RingLevels
pub mod RingPairs
pub mod FlatPairs
pub mod AnnulusPassing
pub mod ShellPassing
