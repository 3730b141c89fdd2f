-- Read in this order. What the bytes of a page mean.
pub mod Page
-- The list by id, the file over pages, and what each call does.
pub mod Rows
pub mod File
pub mod Calls
-- Where tuples lie, as far as it is known without the tree, in a list that copies share.
pub mod Numbers
pub mod Spans
-- The list of rows whose encodings are kept.
pub mod Table
-- What only the proof needs.
pub mod Steps
