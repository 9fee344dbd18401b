-- One word, one side and one relation more in the text and the table: what is asked, and what has then changed.
pub mod Appending
pub mod Sides
pub mod Relations
