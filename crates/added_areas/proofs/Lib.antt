pub mod AddedNumbers
pub mod NumberedLists
