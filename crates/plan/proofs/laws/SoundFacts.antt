-- What soundness says of the parts of a plan, as the layers below ask it.
use Rattle.std.proofs.Common.{◌≡◌, true, ℕ, ◌≤◌, ◌<◌, arith, ltb-true, leb-true, ltb, leb}
use Rattle.std.proofs.Math.Decide.{dec_lt}
use Rattle.base.specs.Basics.{at}
use Rattle.base.proofs.laws.TestLaws.{all_at, shown, head, rest}
use Rattle.network.specs.Limits.{max_capacity, max_value}
use Rattle.network.specs.Network.{network_fits}
use Rattle.network.proofs.laws.NetworkLaws.{nodes_le}
use Rattle.cut_tree.specs.Path.{max_climb, reaches, Climbs}
use Rattle.cut_tree.specs.LightestEdge.{lightest_edge}
use Rattle.cut_tree.proofs.laws.EdgeLaws.{edges_equal}
use Rattle.cut_tree.specs.declared.Tree.{Tree}
use Rattle.plan.specs.Plan.{max_depth, tree_fits, steps_fit, entry_fits, stack_fits, sound}
use Rattle.plan.specs.declared.Plan.{Plan}
use Rattle.base.proofs.laws.BlankLaws.{blank_above}

-- ---- the tree
module _ (n : ℕ) (tree : Tree) (e : tree_fits n tree ≡ true) where
  -- a weight at any place, used or not
  tree_weight : (i : ℕ) → at tree.weight i ≤ max_value
  unfolding tree_fits
  tree_weight i = go (dec_lt i n)
    where
      go : Dec (i < n) → at tree.weight i ≤ max_value
      go (yes l) = leb-true _ _ (all_at n (λ i. leb (at tree.weight i) max_value) (head (rest (rest (rest (shown _ e))))) i l)
      go (no l) = omega (arith, blank_above n tree.weight (head (rest (rest (rest (rest (rest (rest (shown _ e)))))))) i (omega arith))

module _ (p : Plan) (e : sound p ≡ true) where
  pub sound_network : network_fits p.network ≡ true
  unfolding sound
  sound_network = head (shown _ e)

  tree_fits_lem : tree_fits p.network.nodes p.tree ≡ true
  unfolding sound
  tree_fits_lem = head (rest (shown _ e))

  pub sound_climbs : Climbs p.network.nodes p.tree.parent
  unfolding tree_fits
  sound_climbs =
      let n = p.network.nodes in
      record {
        small = nodes_le p.network sound_network;
        stays = λ i l. ltb-true _ _ (all_at n (λ i. ltb (at p.tree.parent i) n) (head (rest (rest (shown _ tree_fits_lem)))) i l);
        rooted = λ i l. all_at n (reaches p.tree.parent max_climb) (head (rest (rest (rest (rest (shown _ tree_fits_lem)))))) i l;
      }

  -- the edge that the plan holds
  pub sound_lightest : p.lightest ≡ lightest_edge p.network.nodes p.tree
  unfolding sound
  sound_lightest = edges_equal _ _ (head (rest (rest (shown _ e))))

  pub sound_weight : (i : ℕ) → at p.tree.weight i ≤ max_value
  sound_weight = tree_weight p.network.nodes p.tree tree_fits_lem

  pub sound_steps : steps_fit p.network.nodes p.steps ≡ true
  unfolding sound
  sound_steps = head (rest (rest (rest (shown _ e))))

  pub sound_stack : stack_fits p.network.links p.stack ≡ true
  unfolding sound
  sound_stack = head (rest (rest (rest (rest (shown _ e)))))

  pub sound_depth : p.stack.depth ≤ max_depth
  unfolding stack_fits
  sound_depth = leb-true _ _ (head (shown _ sound_stack))

  pub sound_entry : (i : ℕ) → i < p.stack.depth → (at p.stack.link i < p.network.links) × (at p.stack.capacity i ≤ max_capacity)
  unfolding stack_fits
  sound_entry i l =
      let h = shown _ (all_at p.stack.depth (entry_fits p.network.links p.stack) (head (rest (shown _ sound_stack))) i l) in
      (ltb-true _ _ (head h), leb-true _ _ (head (rest h)))
