-- What join's contracts cite, beside the definition of the operation.
pub mod Joins
