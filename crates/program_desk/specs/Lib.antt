-- the numbers of `serve` in the words of a call
pub mod Numbers
-- the statuses by which a desk's end is told
pub mod Statuses
