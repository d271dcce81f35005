-- A record pattern against a record type, as the code reads them.
pub mod Opens
-- A read, and what is reported where it gives nothing.
pub mod Reading
-- What `field` goes on with.
pub mod Starts
-- What `matched` goes on with.
pub mod Meetings
-- What `inject` goes on with.
pub mod Choices
-- What is begun, finished: the written walk.
pub mod Finishes
-- What gives nothing but a skip.
pub mod Silent
