-- changed keys in order, as rows from a depth on
pub mod ChangesAt
-- what stood below a place before
pub mod Olds
-- the texts that are gained and lost
pub mod Accounts
-- how a batch ended
pub mod Endings
-- what the visit of a node answers
pub mod Visiting
-- what calls add to the ledger
pub mod Adds
-- subtrees and children in the words of the model
pub mod Subs
-- what a call with visits leaves and answers
pub mod Carries
-- the child that is merged
pub mod Merges
-- what stood at a place, and what the batch makes of it
pub mod Places
-- a branch as it was read
pub mod Formers
-- what the calls of the update answer
pub mod Placed
-- what gains and losses come to
pub mod Balances
-- what a batch answers
pub mod Updates
-- the root, before its record is written
pub mod Sorted
-- where nothing goes on
pub mod Alone
