-- What taking the entry on top off the stack gives and leaves.
use Rattle.std.specs.Prelude.{◌-◌, Option, None, Some, eqb}
use Rattle.base.specs.Basics.{pick, at}
use Rattle.plan.specs.Plan.{pop}
use Rattle.plan.specs.declared.Stack.{Stack}
use Rattle.plan.specs.declared.entries.LinkCapacity.{LinkCapacity}

-- the entry on top, of a stack of some
abbrev pub top : Stack → LinkCapacity
top stack = record { link = at stack.link (stack.depth - 1); capacity = at stack.capacity (stack.depth - 1) }

-- it, if there is an entry
unfoldable pub top_of : Stack → Option LinkCapacity
top_of stack = pick (eqb stack.depth 0) None (Some (top stack))

-- the stack without it; one of no entries stays
unfoldable pub without_top : Stack → Stack
without_top stack = pick (eqb stack.depth 0) stack (pop stack)
