-- What acceptance's contracts cite, beside the definition of acceptance.
pub mod Check
