pub mod Store
pub mod StoreCalls
pub mod LowerPaths
pub mod NameForm
pub mod ShownBy
pub mod CarriedBy
