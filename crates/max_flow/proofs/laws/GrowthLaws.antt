-- A flow grows: its start, what a push gives, one improvement more, and its residual form.
use Rattle.std.specs.Prelude.{◌≡◌, refl, ◌≢◌, List, ℕ, ◌+◌, pos, ◌+ℤ◌}
use Rattle.std.proofs.Common.{ap, ◌∙◌}
use Rattle.min_cut.proofs.theorems.MaxFlow.{residual_lawful, residual_total}
use Rattle.min_cut.specs.code.Residual.{ResidualFlow, Pushed}
use Rattle.min_cut.proofs.laws.LawfulLaws.{InResidual, pushed_total, pushed_lawful, lawful_residual}
use Rattle.network.specs.Network.{graph}
use Rattle.network.proofs.laws.NetworkLaws.{ends_within}
use Rattle.network.specs.declared.Network.{Network}
use Rattle.max_flow.specs.LeastCut.{Endpoints}
use Rattle.max_flow.specs.GrowingFlow.{ahead, back, flow_in}
use Rattle.max_flow.specs.code.Residuals.{full_residual, Balanced, Flowing, Sent}
use Rattle.max_flow.proofs.laws.ResidualLaws.{full_balanced, full_flow}

in_residual : {net : Network} {r : List (List ℕ)} → Balanced net r
    → InResidual (graph net) (ahead r) (back r) (flow_in net r)
in_residual b = record { both = b.both; is = λ k l. refl }

-- what is sent from u to w is an improvement of the flow from u to w
pub sent_by : {net : Network} {u w d : ℕ} {r r' : List (List ℕ)} → Balanced net r → Balanced net r'
    → Pushed (graph net) u w d (ahead r) (back r) (ahead r') (back r') → Sent net u w d r r'
sent_by {net} {u} {w} {d} {r} {r'} b b' p =
    record {
      improved = λ n. record {
        lawful =
            pushed_lawful (graph net) u w d n (ahead r) (back r) (ahead r') (back r') p (flow_in net r) (flow_in net r')
            (in_residual b) (in_residual b') net.nodes;
        total =
            pushed_total (graph net) u w d n (ahead r) (back r) (ahead r') (back r') p (flow_in net r) (flow_in net r')
            (in_residual b) (in_residual b');
      };
      balanced = b';
      pushed = p;
    }

-- a push from s to t raises the total by what it sends
pub flow_raised : {net : Network} {s t v d : ℕ} {r r' : List (List ℕ)} → s ≢ t → Flowing net s t v r
    → Sent net s t d r r' → Flowing net s t (v + d) r'
flow_raised {net} {s} {t} {v} {d} n f p =
    record {
      balanced = p.balanced;
      flow = record {
        lawful = (p.improved n).lawful f.flow.lawful;
        total = (p.improved n).total ∙ ap (λ z. z +ℤ pos d) f.flow.total;
      };
    }

module _ {net : Network} {s t : ℕ} (a : Endpoints net s t) where
  -- nothing is sent yet, and the total is 0
  pub flow_start : (r : List (List ℕ)) → r ≡ full_residual net → Flowing net s t 0 r
  flow_start r e =
      let b : Balanced net (full_residual net) = full_balanced net a.fits in
      rw e (record {
        balanced = b;
        flow = record {
          lawful =
              residual_lawful (graph net) s t 0 a.apart (ahead (full_residual net)) (back (full_residual net))
              (full_flow net a.fits s t) (flow_in net (full_residual net)) (in_residual b) net.nodes;
          total =
              residual_total (graph net) s t 0 a.apart (ahead (full_residual net)) (back (full_residual net))
              (full_flow net a.fits s t) (flow_in net (full_residual net)) (in_residual b);
        };
      })

  -- of every side: what the cuts are shown by
  pub residual_form : {v : ℕ} {r : List (List ℕ)} → Flowing net s t v r
      → ResidualFlow (graph net) s t v (ahead r) (back r)
  residual_form {v} {r} f =
      lawful_residual (graph net) net.nodes s t v (ends_within net a.fits) a.source a.sink a.apart
      (flow_in net r) f.flow.lawful f.flow.total (ahead r) (back r) (in_residual f.balanced)
