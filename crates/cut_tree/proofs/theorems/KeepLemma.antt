-- What holds of the definitions of specs/KeepLemma.antt.
use Rattle.std.specs.Prelude.{◌≡◌, refl, ◌≢◌, Bool, true, false, not, ◌&&◌, ◌||◌, ℕ, ◌+◌, ◌-◌, ◌^◌, ◌≤◌, ◌<◌, ltb, leb, eqb}
use Rattle.std.proofs.Common.{sym, ap, true≢false, arith, ltb-true, eqb-true}
use Rattle.min_cut.specs.Cut.{Side, LeastMinCut}
use Rattle.base.specs.Word.{holds}
use Rattle.min_cut.proofs.theorems.LeastCut.{least_min_cut_lt, least_min_cut_least, least_min_cut_word}
use Rattle.base.specs.Basics.{pick, at}
use Rattle.network.specs.Network.{WithinLimits, with_capacity, graph, crosses_link, value_of, least_side, min_cut_value}
use Rattle.network.proofs.laws.NetworkLaws.{ends_within}
use Rattle.network.proofs.laws.ChangeLaws.{value_changed}
use Rattle.network.specs.declared.Network.{Network}
use Rattle.cut_tree.specs.Rebuild.{survives}
use Rattle.cut_tree.specs.KeepLemma.{LosesMost, SameNodes}

-- such a side that was the least minimum cut is so afterwards: a minimum cut of the new network was one of the old
loses_least : (old new : Network) (s t e : ℕ) (X : Side) → LosesMost old new X e
    → LeastMinCut (graph old) s t X → LeastMinCut (graph new) s t X
loses_least old new s t e X h x =
    let m = x.minimum in
    record {
      minimum = record {
        inside = m.inside;
        outside = m.outside;
        least = λ Y i o. omega (arith, h.own, h.most Y, m.least Y i o);
      };
      contained = λ Y y. x.contained Y (record {
        inside = y.inside;
        outside = y.outside;
        least = λ W i o. omega (arith, h.own, h.most Y, y.least X m.inside m.outside, m.least W i o);
      });
    }

-- THE KEEP LEMMA
pub keep_lemma : (old new : Network) → WithinLimits old → SameNodes old new
    → (s t : ℕ) → s < old.nodes → t < old.nodes → s ≢ t
    → (e : ℕ) → LosesMost old new (holds (least_side old s t)) e
    → (least_side new s t ≡ least_side old s t) × (min_cut_value new s t ≡ min_cut_value old s t - e)
keep_lemma old new w same s t sl tl n e h =
    let G = graph old in
    let ends = ends_within old w.fits in
    let X = least_side old s t in
    let few : new.nodes ≡ old.nodes = same.nodes in
    let x = loses_least old new s t e (holds X) h (least_min_cut_least old.nodes G s t ends sl tl n) in
    let short : X < 2 ^ new.nodes = rw few (least_min_cut_lt old.nodes G s t ends sl tl n) in
    let stays : least_side new s t ≡ X =
    least_min_cut_word new.nodes (graph new) s t same.ends (omega arith) (omega arith) n X short
    x.minimum (λ y yl m i il q. x.contained (holds y) m i q) in
    (stays, omega (arith, ap (λ v. value_of new (holds v)) stays, h.own))

-- ---- one changed link
-- what the keeping test says: a crossed link's capacity does not rise, another's does not fall
survives_rise : (p : Bool) (v c d : ℕ) → survives p v c d ≡ true → pick p d c ≤ pick p c d
survives_rise p v c d = go (eqb c d) refl (ltb c d) refl (ltb d c) refl p
  where
    go : (e : Bool) → eqb c d ≡ e → (r : Bool) → ltb c d ≡ r → (f : Bool) → ltb d c ≡ f → (p : Bool)
        → e || (r && not p || f && (p && leb (c - d) v)) ≡ true → pick p d c ≤ pick p c d
    go true he r hr f hf true q = omega (arith, eqb-true c d he)
    go true he r hr f hf false q = omega (arith, eqb-true c d he)
    go false he true hr f hf false q = omega (arith, ltb-true c d hr)
    go false he true hr true hf true q = omega (arith, ltb-true d c hf)
    go false he true hr false hf true q = absurd (true≢false (sym q))
    go false he false hr true hf true q = omega (arith, ltb-true d c hf)
    go false he false hr true hf false q = absurd (true≢false (sym q))
    go false he false hr false hf p q = absurd (true≢false (sym q))

lost : (p : Bool) (c d v v' : ℕ) → v' + pick p c 0 ≡ v + pick p d 0 → v ≤ v' + (c - d)
lost true c d v v' e = omega arith
lost false c d v v' e = omega arith

lost_own : (p : Bool) (c d v v' : ℕ) → pick p d c ≤ pick p c d → v' + pick p c 0 ≡ v + pick p d 0 → v' + (c - d) ≡ v
lost_own true c d v v' l e = omega arith
lost_own false c d v v' l e = omega arith

module _ (net : Network) (w : WithinLimits net) (k d : ℕ) (kl : k < net.links) where
  -- the capacity of link k before, and the network afterwards
  abbrev c : ℕ
  c = at net.capacity k

  abbrev new : Network
  new = with_capacity net k d

  pub change_nodes : SameNodes net new
  change_nodes = record { nodes = refl; ends = ends_within net w.fits }

  -- a cut that survives loses what the capacity falls by
  pub survives_loses : (X : Side) (v : ℕ) → survives (crosses_link net X k) v c d ≡ true → LosesMost net new X (c - d)
  survives_loses X v e =
      let p = crosses_link net X k in
      record {
        own = lost_own p c d (value_of net X) (value_of new X) (survives_rise p v c d e) (value_changed net w k d kl X);
        most = λ Y. lost (crosses_link net Y k) c d (value_of net Y) (value_of new Y) (value_changed net w k d kl Y);
      }

  -- a least minimum cut that survives is the least minimum cut afterwards, and its value is less by the fall
  pub kept_least : (s t : ℕ) → s < net.nodes → t < net.nodes → s ≢ t
      → survives (crosses_link net (holds (least_side net s t)) k) (min_cut_value net s t) c d ≡ true
      → (least_side new s t ≡ least_side net s t) × (min_cut_value new s t ≡ min_cut_value net s t - (c - d))
  kept_least s t sl tl n e =
      let loses = survives_loses (holds (least_side net s t)) (min_cut_value net s t) e in
      keep_lemma net new w change_nodes s t sl tl n (c - d) loses
