-- the places of a state that a batch touches, and those that it writes
pub mod Places
-- the texts that a batch makes, what it gains and loses of a digest
pub mod Ledger
-- the same two sides text by text: what is put in and what is taken out
pub mod Exchange
-- what a batch visits over any set of texts, and the first test that fails
pub mod Visits
-- what a batch can tell of what is seen
pub mod Along
-- a table that has the texts which a batch touches
pub mod Tables
-- what the laws speak of
pub mod Laws
-- the worked batches
pub mod Examples
