-- The plan that the machine's state makes: it is sound, and a change of it is the plan of the next state.
use Rattle.std.specs.Prelude.{◌≡◌, true, List, ℕ, ◌≤◌, ◌<◌, length, set}
use Rattle.std.proofs.Math.Path.{refl, sym, ap}
use Rattle.std.proofs.Common.{◌∙◌, arith}
use Rattle.base.proofs.laws.TestLaws.{none, ◌&◌, test}
use Rattle.network.specs.Limits.{max_capacity}
use Rattle.network.specs.Network.{WithinLimits, with_capacity}
use Rattle.network.proofs.laws.NetworkLaws.{change_within}
use Rattle.network.specs.declared.Network.{Network}
use Rattle.cut_tree.specs.Rule.{rule}
use Rattle.cut_tree.specs.Rebuild.{rebuilt, not_kept}
use Rattle.cut_tree.proofs.theorems.Rebuilds.{rebuilt_tree, rebuilt_steps, rebuilt_count, rebuilt_most}
use Rattle.cut_tree.specs.LightestEdge.{lightest_edge}
use Rattle.cut_tree.proofs.laws.EdgeLaws.{equal_edges_lem}
use Rattle.cut_tree.proofs.laws.RuleShape.{rule_shape}
use Rattle.plan.proofs.laws.ShapeLaws.{tree_fits_lem, steps_fit_lem}
use Rattle.plan.specs.Plan.{max_depth, sound, plan_of}
use Rattle.plan.specs.Calls.{altered}
use Rattle.history.specs.Machine.{Entry, State, network_at, stack_of}
use Rattle.history.proofs.laws.MachineLaws.{network_set}
use Rattle.history.proofs.laws.StackLaws.{Entries, stack_fits_lem}
use Rattle.history.specs.History.{RightCount}
use Rattle.plan.specs.declared.Stack.{Stack}
use Rattle.plan.specs.declared.Plan.{Plan}

-- the whole plan is a function of the opened network and of the machine's state
abbrev pub plan_at : Network → State → Plan
plan_at net x = let G = network_at net x.capacity in plan_of G (rule G).tree (rule G).steps (stack_of x.stack)

-- the state is within the limits
pub record Good (net : Network) (x : State) : Type 0 where
  pub long : length x.capacity ≡ net.links
  pub within : WithinLimits (network_at net x.capacity)
  pub entries : Entries net.links x.stack
  pub deep : length x.stack ≤ max_depth

module _ (net : Network) (x : State) (g : Good net x) where
  pub sound_at : sound (plan_at net x) ≡ true
  unfolding sound
  sound_at =
      let w = g.within in
      let G = network_at net x.capacity in
      let e = lightest_edge net.nodes (rule G).tree in
      let shape = rule_shape G w.fits in
      test (w.fits & tree_fits_lem net.nodes (rule G) shape & equal_edges_lem e e refl & steps_fit_lem net.nodes (rule G) shape
      & stack_fits_lem net.links x.stack g.entries g.deep & none)

  -- ---- link k is set to c
  module _ (k c : ℕ) (kl : k < net.links) (cl : c ≤ max_capacity) where
    set_at : network_at net (set x.capacity k c) ≡ with_capacity (network_at net x.capacity) k c
    set_at = network_set net x.capacity k c (omega (arith, g.long))

    pub set_within : WithinLimits (network_at net (set x.capacity k c))
    set_within = rw set_at (change_within (network_at net x.capacity) k c kl cl g.within)

    pub altered_plan : (stack : Stack) (entries : List Entry) → stack ≡ stack_of entries
        → (altered (plan_at net x) k c stack).plan ≡ plan_at net (record { capacity = set x.capacity k c; stack = entries })
    unfolding altered
    altered_plan stack entries e =
        let G = network_at net x.capacity in
        let tree = rebuilt_tree G g.within k c kl ∙ ap (λ (H : Network). (rule H).tree) (sym set_at) in
        λ i. record {
          network = sym set_at i;
          tree = tree i;
          steps = (rebuilt_steps G g.within k c kl ∙ ap (λ (H : Network). (rule H).steps) (sym set_at)) i;
          stack = e i;
          lightest = lightest_edge net.nodes (tree i);
        }

    pub altered_count : (stack : Stack) → RightCount (network_at net x.capacity) k c (altered (plan_at net x) k c stack).count
    unfolding altered
    altered_count stack =
        let G = network_at net x.capacity in
        let e : (rebuilt G (rule G).steps k c).count ≡ not_kept G k c = rebuilt_count G g.within k c kl in
        record { counted = e; most = rebuilt_most G (rule G).steps k c }
