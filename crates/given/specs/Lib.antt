-- Where a given word stands once it is widened.
pub mod Given
