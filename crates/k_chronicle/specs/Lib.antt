pub mod Chronicle
pub use Rattle.k_keeper.specs as k_keeper
pub use Rattle.k_print.specs.Printed
pub use Rattle.k_print.specs.declared.errors.PrintError
pub use Rattle.k_print.specs.declared.texts.Texts
