-- What holds of the definitions of specs/code/Send.antt and Sender.antt.
use Rattle.std.proofs.Common.{◌≡◌, ◌≢◌, Bool, List, ℕ, ◌+◌, ◌-◌, ◌*◌, ◌/◌, ◌%◌, ◌<◌, ◌≤◌, min, refl, sym, ap, ◌∙◌}
use Rattle.std.proofs.Common.{true≢false, arith, true, false, cond, eq-eqb, ne_eqb, leb-true, leb-false, leb}
use Rattle.std.proofs.Math.Decide.{ℕ_discrete}
use Rattle.min_cut.specs.Cut.{Net}
use Rattle.base.specs.Word.{holds}
use Rattle.min_cut.specs.code.Residual.{Pushed}
use Rattle.min_cut.proofs.code.Residual.{when_none, when_add}
use Rattle.min_cut.specs.code.Arcs.{tail, tip, spare, forward}
use Rattle.network.specs.Limits.{max_arcs}
use Rattle.network.specs.Network.{network_fits, graph}
use Rattle.network.specs.declared.Network.{Network}
use Rattle.node_set.specs.Set.{added}
use Rattle.flow_hints.specs.code.Hints.{room_of}
use Rattle.flow_hints.specs.declared.table.Step.{Step}
use Rattle.node_set.proofs.theorems.Members.{added_same, added_keeps}
use Rattle.max_flow.specs.GrowingFlow.{ahead, back}
use Rattle.max_flow.specs.code.Residuals.{room_on, sent_along, Balanced, Along}
use Rattle.max_flow.proofs.laws.ResidualLaws.{along_pushed, along_balanced, along_other, spare_read}
use Rattle.max_flow.proofs.laws.GrowthLaws.{sent_by}
use Rattle.max_flow.specs.code.Ends.{OfNetwork}
use Rattle.max_flow.specs.code.Send.{Sends, other_way}
use Rattle.max_flow.specs.code.Sender.{Onward}
use Rattle.max_flow.specs.declared.send.Load.{Load}
use Rattle.max_flow.specs.declared.send.Sender.{Sender}

-- ---- the test of an arc
pub other_lt : (j : ℕ) → j < max_arcs → other_way j < max_arcs
other_lt j l = go (ℕ_discrete (j % 2) 0)
  where
    go : Dec (j % 2 ≡ 0) → other_way j < max_arcs
    go (yes q) = omega arith
    go (no q) = omega arith

back_tip : (G : Net) (j : ℕ) → tip G (other_way j) ≡ tail G j
unfolding tip tail
back_tip G j = go (ℕ_discrete (j % 2) 0)
  where
    go : Dec (j % 2 ≡ 0)
        → cond (forward (other_way j)) (G.b (other_way j / 2)) (G.a (other_way j / 2))
        ≡ cond (forward j) (G.a (j / 2)) (G.b (j / 2))
    go (yes q) =
        let h : other_way j / 2 ≡ j / 2 = omega arith in
        let o : other_way j % 2 ≢ 0 = λ z. omega arith in
        rw (h, ne_eqb (other_way j % 2) 0 o, eq-eqb (j % 2) 0 q)
    go (no q) =
        let h : other_way j / 2 ≡ j / 2 = omega arith in
        let o : other_way j % 2 ≡ 0 = omega arith in
        rw (h, eq-eqb (other_way j % 2) 0 o, ne_eqb (j % 2) 0 q)

-- what has room is an arc of the network
arc_here : {net : Network} {r : List (List ℕ)} → Balanced net r → (j : ℕ) → j < max_arcs → 0 < room_on r j
    → j < 2 * net.links
unfolding spare
arc_here {net} {r} b j l p = go (leb net.links (j / 2)) refl (forward j) p
  where
    go : (o : Bool) → leb net.links (j / 2) ≡ o → (f : Bool) → 0 < cond f (ahead r (j / 2)) (back r (j / 2))
        → j < 2 * net.links
    go true q true z = absurd (omega (arith, b.none (j / 2) (leb-true net.links (j / 2) q) (omega arith)))
    go true q false z = absurd (omega (arith, b.none (j / 2) (leb-true net.links (j / 2) q) (omega arith)))
    go false q f z = omega (arith, leb-false net.links (j / 2) q)

-- arc j leads from u to x, which is not one of `on`, and d may be sent along it
pub record Way (net : Network) (r : List (List ℕ)) (on u x j d : ℕ) : Type 0 where
  pub here : j < 2 * net.links
  pub starts : tail (graph net) j ≡ u
  pub leads : tip (graph net) j ≡ x
  pub off : holds on x ≡ false
  pub fits : d ≤ room_on r j

-- a step that leads on, by an arc with room, is a way for all that the arc has room for
pub way : {net : Network} (sender : Sender) (load : Load) (step : Step) {r : List (List ℕ)} {spare : ℕ}
    → OfNetwork net sender.ends.now → Balanced net r → Onward sender load step → spare ≡ room_of r step.arc
    → 0 < room_of r step.arc → Way net r load.on load.node step.node step.arc spare
way {net} sender load step {r} a b o e p =
    let leads = a.ready.chains.leads in
    let room = spare_read r step.arc in
    let h : step.arc < 2 * net.links = arc_here b step.arc step.arc_within (omega (arith, room, p)) in
    record {
      here = h;
      starts = sym (back_tip (graph net) step.arc) ∙ sym (leads (other_way step.arc) (omega arith)) ∙ o.starts;
      leads = sym (leads step.arc h) ∙ o.leads;
      off = o.off;
      fits = omega (arith, room, e);
    }

-- ---- what is sent
-- at t itself
pub send_there : {net : Network} {t on limit : ℕ} {r : List (List ℕ)} → Balanced net r
    → Sends net t on t limit limit r r
send_there b = record { within = omega arith; sent = sent_by b b (λ X. refl); kept = λ e h. omega arith }

module _ {net : Network} {t on u : ℕ} where
  -- nothing yet
  pub send_none : {limit : ℕ} {r : List (List ℕ)} → Balanced net r → Sends net t on u limit 0 r r
  send_none b =
      record {
        within = omega arith;
        sent = sent_by b b (λ X. omega (arith, when_none (X u), when_none (X t)));
        kept = λ e h. omega arith;
      }

  -- more, of what is left of the limit
  pub send_more : {limit sent left d : ℕ} {r r1 r2 : List (List ℕ)} → Balanced net r
      → Sends net t on u limit sent r r1 → Sends net t on u left d r1 r2 → left ≡ limit - sent
      → Sends net t on u limit (sent + d) r r2
  send_more {limit} {sent} {left} {d} b o a q =
      record {
        within = omega (arith, o.within, a.within);
        sent =
            sent_by b a.sent.balanced
            (λ X. omega (arith, o.sent.pushed X, a.sent.pushed X, when_add sent d (X u), when_add sent d (X t)));
        kept = λ e h. omega (arith, o.kept e h, a.kept e h);
      }

  -- by arc j to x, and on from there
  module _ {x j spare want d on' : ℕ} {r r1 : List (List ℕ)} (limit : ℕ) (f : network_fits net ≡ true)
      (b : Balanced net r) (w : Way net r on u x j spare) (e : want ≡ min spare limit) (q : on' ≡ added on x)
      (a : Sends net t on' x want d r r1) where
    dl : d ≤ room_on r1 j
    dl = omega (arith, a.within, e, w.fits, a.kept j (rw (q, w.leads) (added_same on x)))

    pub send_along : Along net r1 j d
    send_along = record { fits = f; balanced = a.sent.balanced; here = w.here; spare = dl }

    apart : (i : ℕ) → holds on (tip (graph net) i) ≡ true → i ≢ j
    apart i h z = true≢false (sym h ∙ ap (λ k. holds on (tip (graph net) k)) z ∙ ap (holds on) w.leads ∙ w.off)

    one : Pushed (graph net) u x d (ahead r1) (back r1) (ahead (sent_along r1 j d)) (back (sent_along r1 j d))
    one = rw (← w.starts, ← w.leads) (along_pushed send_along)

    pub send_way : Sends net t on u limit d r (sent_along r1 j d)
    send_way =
        record {
          within = omega (arith, a.within, e);
          sent = sent_by b (along_balanced send_along) (λ X. omega (arith, a.sent.pushed X, one X));
          kept = λ i h.
              omega (
                arith,
                a.kept i (rw q (added_keeps on x (tip (graph net) i) h)),
                along_other send_along i (apart i h),
              );
        }
