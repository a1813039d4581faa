-- the heads of requests, as httparse reads them
pub mod Heads
-- the routes, as matchit walks them
pub mod Routes
-- a head at its places in bytes
pub mod Parts
-- the body of a push
pub mod Bodies
-- what a head says of the length of a body
pub mod Lengths
-- what the bytes of a request ask
pub mod Asking
-- how far reading goes
pub mod Reading
-- what is asked with the bytes behind a head
pub mod Behind
-- what holds of requests
pub mod Laws
-- the text of a reply
pub mod Texts
-- the bodies of replies
pub mod ReplyBodies
-- what holds of it
pub mod ReplyLaws
-- the request that sends a push
pub mod Requests
-- the head of a reply
pub mod ClientHeads
-- which bytes are a reply
pub mod Replies
-- what was sent, and what came of it
pub mod ClientAsking
-- what holds of requests and replies
pub mod ClientLaws
