pub mod MountForm
