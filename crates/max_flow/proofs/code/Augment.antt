-- What holds of the definitions of specs/code/Augment.antt.
use Rattle.std.specs.Prelude.{◌≡◌, refl, true, false, List, ℕ, ◌+◌, ◌-◌, ◌<◌, ◌≤◌, eqb, ℤ}
use Rattle.std.proofs.Common.{sym, ap, ◌∙◌, arith, eq-eqb, ne_eqb}
use Rattle.std.proofs.Math.Path.{ap₂}
use Rattle.base.specs.Word.{holds}
use Rattle.min_cut.proofs.theorems.MaxFlow.{weak_duality_value}
use Rattle.min_cut.proofs.code.Residual.{full}
use Rattle.min_cut.proofs.code.Arcs.{reached_least, shut_closed}
use Rattle.base.specs.Basics.{at}
use Rattle.network.specs.Limits.{max_nodes, max_value}
use Rattle.network.specs.Network.{graph, least_side, min_cut_value}
use Rattle.network.proofs.laws.NetworkLaws.{ends_within, value_le}
use Rattle.network.specs.declared.Network.{Network}
use Rattle.max_flow.specs.LeastCut.{Endpoints, least_cut_of}
use Rattle.max_flow.specs.GrowingFlow.{ahead, back, flow_in}
use Rattle.max_flow.specs.code.Residuals.{full_residual, Flowing, Sent}
use Rattle.max_flow.proofs.laws.GrowthLaws.{flow_raised, residual_form}
use Rattle.max_flow.specs.code.Search.{Searched}
use Rattle.max_flow.proofs.laws.SearchLaws.{contained, place_lt}
use Rattle.max_flow.specs.code.Push.{Sending}
use Rattle.max_flow.specs.code.LinkFlows.{link_flows}
use Rattle.max_flow.proofs.code.LinkFlows.{largest}
use Rattle.max_flow.specs.declared.search.SearchTree.{SearchTree}
use Rattle.max_flow.specs.code.Augment.{Augmented, Growth}

module _ {net : Network} {s t : ℕ} (a : Endpoints net s t) where
  -- by the side of s alone
  pub flow_le : {v : ℕ} {r : List (List ℕ)} → Flowing net s t v r → v ≤ max_value
  flow_le {v} {r} f =
      omega (
        arith,
        weak_duality_value (graph net) net.nodes s t (ends_within net a.fits) a.source (flow_in net r)
            f.flow.lawful (λ i. eqb i s) (eq-eqb s s refl) (ne_eqb t s (λ e. a.apart (sym e))) v f.flow.total,
        value_le net a.fits (λ i. eqb i s),
      )

  module _ {v : ℕ} {r : List (List ℕ)} {w : SearchTree} (f : Flowing net s t v r) (o : Searched net r s t w) where
    -- what can be sent to the node reached last
    abbrev most : ℕ
    most = at w.bottleneck (w.count - 1)

    pub last_lt : (0 < w.count) × (w.count - 1 < max_nodes)
    last_lt = (o.tree.some, place_lt o.tree a.fits (w.count - 1) (omega (arith, o.tree.some)))

    pub sending : {d : ℕ} → d ≤ most → Sending net s r w d
    sending l = record { fits = a.fits; balanced = f.balanced; tree = o.tree; amount = l }

    -- t is reached
    pub grows : {r' : List (List ℕ)} → holds w.reached t ≡ true
        → Sent net s (at w.node (w.count - 1)) most r r' → Growth net s t v most r'
    grows {r'} q p =
        let larger : Flowing net s t (v + most) r' = flow_raised a.apart f (rw (o.hit q) at p) in
        record {
          flowing = larger;
          most = flow_le larger;
          some = o.tree.flows (w.count - 1) (omega (arith, o.tree.some));
        }

    -- t is not reached
    module _ (q : holds w.reached t ≡ false) where
      inside : holds w.reached s ≡ true
      inside = ap (holds w.reached) (sym o.tree.root) ∙ o.tree.held 0 o.tree.some

      side_least : least_side net s t ≡ w.reached
      side_least =
          reached_least net.nodes (graph net) s t v (ahead r) (back r) w.reached (ends_within net a.fits)
          a.source a.sink a.apart (residual_form a f)
          o.tree.under inside q (o.miss q) (contained o.tree)

      value_least : min_cut_value net s t ≡ v
      value_least =
          rw side_least
          (full (graph net) s t v (ahead r) (back r) (residual_form a f) (holds w.reached) inside q
          (shut_closed (graph net) (ahead r) (back r) (holds w.reached) (o.miss q)))

      pub at_end_lem : {full : List (List ℕ)} {g g' : List ℤ} → full ≡ full_residual net → g' ≡ link_flows full r g
          → Augmented net s t (record { side = w.reached; value = v }) g g'
      unfolding least_cut_of
      at_end_lem {full} {g} {g'} e h =
          record {
            least = ap₂ (λ x y. record { side = x; value = y }) (sym side_least) (sym value_least);
            flow = λ l. rw h (largest a e (rw value_least f) g l);
          }
