pub mod FilesFit
mod ShownByOther
mod WorkedLeaves
