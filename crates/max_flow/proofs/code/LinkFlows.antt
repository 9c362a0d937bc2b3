-- What holds of the definitions of specs/code/LinkFlows.antt.
use Rattle.std.proofs.Common.{◌≡◌, List, ℤ, pos, ◌-ℤ◌, set, length, refl, ap, ◌∙◌, arith, get_or-set_same, ℕ, zero}
use Rattle.std.proofs.Common.{suc, ◌<◌, ◌≤◌, length-set, get_or-set_other}
use Rattle.std.proofs.Math.Decide.{ℕ_discrete}
use Rattle.min_cut.proofs.laws.LawfulLaws.{lawful_same, total_same}
use Rattle.base.specs.Basics.{at}
use Rattle.network.specs.Network.{graph, min_cut_value, flow_at}
use Rattle.network.proofs.laws.NetworkLaws.{links_le, capacity_le}
use Rattle.network.specs.declared.Network.{Network}
use Rattle.max_flow.specs.LeastCut.{Endpoints}
use Rattle.max_flow.specs.LargestFlow.{LargestFlow}
use Rattle.max_flow.specs.GrowingFlow.{ahead, flow_in}
use Rattle.max_flow.specs.code.Residuals.{full_residual, Flowing}
use Rattle.max_flow.proofs.laws.ResidualLaws.{full_ahead}
use Rattle.max_flow.specs.code.LinkFlows.{Moderate, link_flow, link_flows, link_flows_up_to}

module _ (full r : List (List ℕ)) (f : List ℤ) where
  pub flows_long : (k : ℕ) → length (link_flows_up_to full r f k) ≡ length f
  unfolding link_flows_up_to
  flows_long zero = refl
  flows_long (suc k) = length-set (link_flows_up_to full r f k) k _ ∙ flows_long k

  flows_at : (k j : ℕ) → j < k → k ≤ length f → flow_at (link_flows_up_to full r f k) j ≡ link_flow full r j
  unfolding link_flows_up_to
  flows_at zero j l m = absurd (omega arith)
  flows_at (suc k) j l m = go (ℕ_discrete j k) (λ q. flows_at k j q (omega arith))
    where
      go : Dec (j ≡ k) → (j < k → flow_at (link_flows_up_to full r f k) j ≡ link_flow full r j)
          → flow_at (set (link_flows_up_to full r f k) k (link_flow full r k)) j ≡ link_flow full r j
      go (yes e) ih = rw e (get_or-set_same (link_flows_up_to full r f k) k _ (pos 0) (omega (arith, flows_long k)))
      go (no n) ih = get_or-set_other (link_flows_up_to full r f k) k j _ (pos 0) n ∙ ih (omega arith)

module _ {net : Network} {s t : ℕ} (a : Endpoints net s t) {full : List (List ℕ)} (e : full ≡ full_residual net) where
  capacity_at : (k : ℕ) → k < net.links → ahead full k ≡ at net.capacity k
  capacity_at k l = rw e (full_ahead net a.fits k l)

  pub moderate : {v : ℕ} {r : List (List ℕ)} → Flowing net s t v r → (m : ℕ) → m ≤ net.links → Moderate full r m
  moderate b m l =
      record {
        links = omega (arith, links_le net a.fits);
        capacities = λ k q. omega (arith, capacity_at k (omega arith), capacity_le net a.fits k (omega arith));
        residuals = λ k q. omega (arith, b.balanced.both k (omega arith), capacity_le net a.fits k (omega arith));
      }

  pub largest : {r : List (List ℕ)} → Flowing net s t (min_cut_value net s t) r → (f : List ℤ) → length f ≡ net.links
      → LargestFlow net s t (link_flows full r f)
  largest {r} b f l =
      record {
        lawful =
            record {
              size = flows_long full r f (length f) ∙ l;
              lawful = lawful_same (graph net) g (flow_in net r) is net.nodes s t b.flow.lawful;
            };
        total = total_same (graph net) g (flow_in net r) is s ∙ b.flow.total;
      }
    where
      g : ℕ → ℤ
      g = flow_at (link_flows full r f)

      is : (k : ℕ) → k < net.links → flow_at (link_flows full r f) k ≡ flow_in net r k
      is k q =
          flows_at full r f (length f) k (omega arith) (omega arith) ∙ ap (λ c. pos c -ℤ pos (ahead r k))
          (capacity_at k q)
