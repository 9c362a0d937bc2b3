-- A capacity of a sound plan set within the limits: the plan that is then made is sound, if the stack fits.
use Rattle.std.proofs.Common.{◌≡◌, true, ℕ, ◌≤◌, ◌<◌, refl, sym}
use Rattle.base.proofs.laws.TestLaws.{none, ◌&◌, test}
use Rattle.network.specs.Limits.{max_capacity}
use Rattle.network.specs.Network.{network_fits, with_capacity}
use Rattle.network.proofs.laws.NetworkLaws.{change_fits, capacity_le}
use Rattle.cut_tree.specs.Rebuild.{rebuilt}
use Rattle.cut_tree.specs.LightestEdge.{lightest_edge}
use Rattle.cut_tree.proofs.laws.EdgeLaws.{equal_edges_lem}
use Rattle.cut_tree.proofs.laws.RuleShape.{Shape, rebuilt_shape}
use Rattle.plan.specs.Plan.{stack_fits, sound}
use Rattle.plan.specs.Calls.{altered, change_number, changed}
use Rattle.plan.proofs.laws.ShapeLaws.{tree_fits_lem, steps_fit_lem, cuts_fit}
use Rattle.plan.proofs.laws.SoundFacts.{sound_network, sound_steps, sound_stack}
use Rattle.plan.proofs.laws.PushLaws.{push_fits}
use Rattle.plan.proofs.laws.ChangesLaws.{change_sound, change_assumes}
use Rattle.plan.specs.declared.Stack.{Stack}
use Rattle.plan.specs.declared.Plan.{Plan}

module _ (p : Plan) (e : sound p ≡ true) (k c : ℕ) (kl : k < p.network.links) (cl : c ≤ max_capacity) where
  new_fits : network_fits (with_capacity p.network k c) ≡ true
  new_fits = change_fits p.network k c kl cl (sound_network p e)

  pub altered_shape : Shape p.network.nodes (rebuilt p.network p.steps k c)
  unfolding rebuilt
  altered_shape =
      rebuilt_shape (with_capacity p.network k c) new_fits _ _ p.steps (cuts_fit p.network.nodes p.steps (sound_steps p e))

  pub altered_sound : (stack : Stack) → stack_fits p.network.links stack ≡ true → sound (altered p k c stack).plan ≡ true
  unfolding sound altered
  altered_sound stack f =
      let n = p.network.nodes in
      let b = rebuilt p.network p.steps k c in
      let edge = lightest_edge n b.tree in
      test (new_fits & tree_fits_lem n b altered_shape & equal_edges_lem edge edge refl & steps_fit_lem n b altered_shape & f & none)

-- an accepted change, of any plan: its stack has room, and gets an entry within the limits
pub changed_sound : (p : Plan) (k c : ℕ) → change_number p k c ≡ 0 → sound (changed p k c).plan ≡ true
changed_sound p k c z =
    let e = change_sound p k c 0 (sym z) refl in
    let (h, room) = change_assumes p k c 0 (sym z) refl in
    let old = capacity_le p.network h.fits k h.link in
    altered_sound p e k c h.link h.capacity _ (push_fits _ p.stack (sound_stack p e) k _ h.link old room)
