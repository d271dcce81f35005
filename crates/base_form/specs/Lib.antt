pub mod BaseForm
