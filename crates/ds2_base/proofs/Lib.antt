pub mod OwnNames
pub mod ShortTexts
