-- Laws of putting bytes and of counting them, for the functions that write.
pub mod Measuring
pub mod Unless
pub mod SlotLaws
pub mod IdLaws
pub mod JoinLaws
