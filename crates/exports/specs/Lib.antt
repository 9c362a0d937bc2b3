-- definitions: a pair's answer as numbers; calls that a caller made on a plan in its own memory, and on a gate's
-- record, and what is promised
pub mod PairReply
pub mod Made
pub mod Lent
-- what theorems are stated with: such calls as a run
pub mod Held
