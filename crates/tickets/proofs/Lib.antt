-- Laws of a ticket's bytes: its count, its change by its kind, its record, and its writing.
pub mod Laws
