-- what the ledger gains and loses
pub mod Growing
-- changes by rising paths
pub mod Runs
-- changed keys from a depth on
pub mod ChangesAt
-- changes that begin with the same nibbles
pub mod Beginnings
-- one turn over the nibbles
pub mod Turns
-- what a node that fits keeps to
pub mod Fitting
-- what is seen at a place
pub mod Seeing
-- the children of a branch, copied
pub mod KidCopies
-- the visit of a node
pub mod NodeVisits
-- a branch that comes out as it was read
pub mod Formers
-- calls with visits, one after the other
pub mod Carrying
-- visits over the nibbles, of which one has any
pub mod OneNibble
-- what is seen of a digest that was visited
pub mod SeenVisits
-- what is visited below what stood at a place
pub mod OldVisits
-- what calls add to the ledger
pub mod Adding
-- subtrees in the words of the model
pub mod Tops
-- the children of what is left of a branch
pub mod Children
-- changes that begin as what stood before them does
pub mod Lowering
-- the visit of a place below which no key is changed
pub mod AloneVisits
-- the child that is merged
pub mod Lones
-- the loop over the nibbles
pub mod Turning
-- what stood behind a nibble
pub mod PlaceFacts
-- what has become of what stood behind a nibble
pub mod FormerCalls
-- what stood before a path, behind the nibbles that are shared
pub mod PathCalls
-- the changes below a place
pub mod Below
-- where changes part from what stood before them
pub mod ForkCalls
-- a branch that was read
pub mod BranchCalls
-- what a batch makes of what is seen of a digest
pub mod Digests
-- digests in order, and how often each stands in a list
pub mod Tallies
-- texts that share a digest
pub mod Clashes
-- both sides of a balance
pub mod Balances
-- the changes of a whole batch
pub mod Batches
-- what a batch answers over a state
pub mod StateAnswers
-- the call over sorted changes
pub mod Finishing
-- a place where one key ends
pub mod Alone
