-- What is published, in the order in which it is read: the text of a stream, what a source gives and what a keeper then
-- holds, how an input is refused, what is written, and the laws.
pub mod Streams
pub mod Faults
pub mod Changes
pub mod Taking
pub mod Deciding
pub mod Exporting
pub mod Laws
pub mod ExportLaws
-- What the refusals stand on: what a line says, what may be wrong with a record, how a stream tells it with its place,
-- and
-- the longest front of a text.
pub mod Words
pub mod Wrongs
pub mod Grammar
pub mod Breaks
pub mod Reading
pub mod Fronts
-- States between calls that are not published: reading on, a record that was read, records that stand whole in what is
-- buffered, the parts of a stream, writing on.
pub mod Stopping
pub mod Records
pub mod Grouped
pub mod Parts
pub mod Exports
