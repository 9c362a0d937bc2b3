-- The refusal numbers of the table of checks, each named once. 0 is no refusal: accepted.
use Rattle.std.specs.Prelude.{ℕ, Result, Ok, Err}
use Rattle.network.specs.declared.refusals.Refusal.{Refusal}
use Rattle.network.specs.declared.refusals.Refusal.TheVariants.{EndsEarly, NumberTooLong, ZeroGroup, BadNodeCount}
use Rattle.network.specs.declared.refusals.Refusal.TheVariants.{TooManyLinks, EndNotANode, EqualEnds, LinkTooLarge}
use Rattle.network.specs.declared.refusals.Refusal.TheVariants.{BytesFollow, NoSuchLink, CapacityTooLarge, StackFull}
use Rattle.network.specs.declared.refusals.Refusal.TheVariants.{NothingToUndo, NoSuchNode, SameNode, FlowLength}
use Rattle.network.specs.declared.refusals.Refusal.TheVariants.{DemandTooLarge, BufferTooShort, NotSound}
use Rattle.network.specs.declared.refusals.Refusal.TheVariants.{TooManyReadings}

-- ---- a file: the number that is faulty, or what follows the last
-- it ends before a number's last byte
abbrev pub ends_early : ℕ
ends_early = 1

-- a number has more groups than the limit
abbrev pub number_too_long : ℕ
number_too_long = 2

-- a number's last group of several is zero
abbrev pub zero_group : ℕ
zero_group = 3

abbrev pub bad_node_count : ℕ
bad_node_count = 4

abbrev pub too_many_links : ℕ
too_many_links = 5

-- an end of a link is no node
abbrev pub end_not_a_node : ℕ
end_not_a_node = 6

abbrev pub equal_ends : ℕ
equal_ends = 7

-- a link's capacity is above the limit
abbrev pub link_too_large : ℕ
link_too_large = 8

abbrev pub bytes_follow : ℕ
bytes_follow = 9

-- ---- calls on a plan
abbrev pub no_such_link : ℕ
no_such_link = 10

-- a change's capacity is above the limit
abbrev pub capacity_too_large : ℕ
capacity_too_large = 11

abbrev pub stack_full : ℕ
stack_full = 12

abbrev pub nothing_to_undo : ℕ
nothing_to_undo = 13

abbrev pub no_such_node : ℕ
no_such_node = 14

abbrev pub same_node : ℕ
same_node = 15

-- a flow's buffer has not one place for each link
abbrev pub flow_length : ℕ
flow_length = 16

abbrev pub demand_too_large : ℕ
demand_too_large = 17

abbrev pub buffer_too_short : ℕ
buffer_too_short = 18

abbrev pub not_sound : ℕ
not_sound = 19

-- ---- a gate's record
abbrev pub too_many_readings : ℕ
too_many_readings = 20

-- ---- the number of a refusal in the code
abbrev pub refusal_number : Refusal → ℕ
refusal_number EndsEarly = ends_early
refusal_number NumberTooLong = number_too_long
refusal_number ZeroGroup = zero_group
refusal_number BadNodeCount = bad_node_count
refusal_number TooManyLinks = too_many_links
refusal_number EndNotANode = end_not_a_node
refusal_number EqualEnds = equal_ends
refusal_number LinkTooLarge = link_too_large
refusal_number BytesFollow = bytes_follow
refusal_number NoSuchLink = no_such_link
refusal_number CapacityTooLarge = capacity_too_large
refusal_number StackFull = stack_full
refusal_number NothingToUndo = nothing_to_undo
refusal_number NoSuchNode = no_such_node
refusal_number SameNode = same_node
refusal_number FlowLength = flow_length
refusal_number DemandTooLarge = demand_too_large
refusal_number BufferTooShort = buffer_too_short
refusal_number NotSound = not_sound
refusal_number TooManyReadings = too_many_readings

-- that of a call: 0 where it is accepted
abbrev pub outcome_number : {A : Type 0} → Result A Refusal → ℕ
outcome_number (Ok x) = 0
outcome_number (Err e) = refusal_number e
