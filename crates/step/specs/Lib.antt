-- What a run and a listing come to, from the turns of a log (`working`, specs/Turns), by either table: the tables; a run; the listing as a whole; and the listing line by
-- line and block by block, as it is put into lent memory.
pub mod Tables
pub mod Running
pub mod Listings
pub mod ListingLines
pub mod Blocks
