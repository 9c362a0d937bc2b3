-- What the methods of a sender promise of a load.
use Rattle.std.specs.Prelude.{◌≡◌, List, ℕ, false}
use Rattle.base.specs.Basics.{at}
use Rattle.base.specs.Word.{holds}
use Rattle.flow_hints.specs.declared.table.Step.{Step}
use Rattle.network.specs.declared.Network.{Network}
use Rattle.max_flow.specs.code.Send.{Sends, other_way}
use Rattle.max_flow.specs.declared.send.Load.{Load}
use Rattle.max_flow.specs.declared.send.Sender.{Sender}

-- the step's arc leads from the load's node to that of the step, which is not on the way already
pub record Onward (sender : Sender) (load : Load) (step : Step) : Type 0 where
  pub leads : at sender.ends.now.arcs.now.to step.arc ≡ step.node
  pub starts : at sender.ends.now.arcs.now.to (other_way step.arc) ≡ load.node
  pub off : holds load.on step.node ≡ false

-- d of the load is sent from its node to the sender's sink, which leaves r' of r
abbrev pub SendsLoad : Network → Sender → Load → ℕ → (r r' : List (List ℕ)) → Type 0
SendsLoad net sender load d r r' = Sends net sender.t load.on load.node load.limit d r r'
