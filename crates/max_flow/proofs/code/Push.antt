-- What holds of the definitions of specs/code/Push.antt.
use Rattle.std.proofs.Common.{◌≡◌, refl, ◌≢◌, List, ℕ, ◌-◌, ◌<◌, ◌≤◌, sym, ap, ◌∙◌, arith}
use Rattle.min_cut.specs.code.Residual.{Pushed}
use Rattle.min_cut.specs.code.Arcs.{tip}
use Rattle.base.specs.Basics.{at}
use Rattle.network.specs.Network.{graph}
use Rattle.network.specs.declared.Network.{Network}
use Rattle.max_flow.specs.GrowingFlow.{ahead, back}
use Rattle.max_flow.specs.code.Residuals.{sent_along, Along, Sent}
use Rattle.max_flow.proofs.laws.ResidualLaws.{along_pushed, along_balanced, along_other, arc_lt}
use Rattle.max_flow.proofs.laws.GrowthLaws.{sent_by}
use Rattle.max_flow.specs.code.Search.{Entered, TreeFrom}
use Rattle.max_flow.proofs.laws.SearchLaws.{place_lt, node_lt}
use Rattle.max_flow.specs.declared.search.SearchTree.{SearchTree}
use Rattle.max_flow.specs.code.Push.{Half, OnPath, Sending}

module _ {net : Network} {s : ℕ} {r : List (List ℕ)} {w : SearchTree} {d : ℕ} (a : Sending net s r w d) where
  f : TreeFrom net r s w
  f = a.tree

  pub half_start : Half net r w d (w.count - 1) r
  half_start =
      record {
        pushed = λ X. refl;
        balanced = a.balanced;
        here = omega (arith, f.some);
        enough = a.amount;
        fits = λ j p q. (f.entered j p (omega (arith, f.some))).fits;
      }

  module _ {i : ℕ} {r' : List (List ℕ)} (o : Half net r w d i r') where
    pub half_end : i ≤ 0 → Sent net s (at w.node (w.count - 1)) d r r'
    half_end z =
        let y : i ≡ 0 = omega arith in
        sent_by a.balanced o.balanced (rw (← f.root) (rw y at o.pushed))

    module _ (p : 0 < i) where
      entry : Entered net r w i
      entry = f.entered i p o.here

      one_arc : Along net r' (at w.arc i) d
      one_arc =
          record {
            fits = a.fits;
            balanced = o.balanced;
            here = entry.here;
            spare = omega (arith, o.enough, o.fits i p (omega arith));
          }

      from_lt : at w.from i < w.count
      from_lt = omega (arith, entry.earlier, o.here)

      pub is_on_path : OnPath net w d i r'
      is_on_path =
          record {
            place = place_lt f a.fits i o.here;
            arc = arc_lt one_arc;
            earlier = entry.earlier;
            tail = node_lt f a.fits (at w.from i) from_lt;
            tip = node_lt f a.fits i o.here;
            along = one_arc;
          }

      pub half_next : Half net r w d (at w.from i) (sent_along r' (at w.arc i) d)
      half_next =
          record {
            pushed = λ X. omega (arith, o.pushed X, one X);
            balanced = along_balanced one_arc;
            here = from_lt;
            enough = omega (arith, entry.falls, o.enough);
            fits = λ j y z.
                omega (
                  arith,
                  o.fits j y (omega (arith, entry.earlier)),
                  along_other one_arc (at w.arc j) (apart j y (omega (arith, entry.earlier))),
                );
          }
        where
          one : Pushed (graph net) (at w.node (at w.from i)) (at w.node i) d (ahead r') (back r')
              (ahead (sent_along r' (at w.arc i) d)) (back (sent_along r' (at w.arc i) d))
          one = rw (← entry.starts, ← entry.leads) (along_pushed one_arc)

          -- two places were entered by different arcs, since their nodes differ
          apart : (j : ℕ) → 0 < j → j < i → at w.arc j ≢ at w.arc i
          apart j y z c =
              f.differ j i z o.here
              (sym (f.entered j y (omega (arith, o.here))).leads ∙ ap (tip (graph net)) c ∙ entry.leads)
