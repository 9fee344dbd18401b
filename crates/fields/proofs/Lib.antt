-- What the calls that read a field and a number add up to.
mod Reading
