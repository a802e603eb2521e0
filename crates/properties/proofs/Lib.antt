pub mod PropertyNames
