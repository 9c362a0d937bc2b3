-- What the change of one capacity does to the value of every side.
use Rattle.std.proofs.Common.{◌≡◌, refl, Bool, true, false, set, ap, ◌∙◌, get_or-set_other, ℕ, ◌+◌, ◌<◌, arith}
use Rattle.std.proofs.Math.Seq.{get_or-set_same}
use Rattle.base.proofs.laws.SumLaws.{sum_at}
use Rattle.base.specs.Basics.{pick, at, differ}
use Rattle.min_cut.specs.Cut.{Side, crossing, cut_value}
use Rattle.network.specs.Network.{WithinLimits, with_capacity, crosses_link, value_of}
use Rattle.network.proofs.laws.NetworkLaws.{links_le}
use Rattle.network.specs.declared.Network.{Network}

crossing_pick : (x y : Bool) (c : ℕ) → crossing x y c ≡ pick (differ x y) c 0
crossing_pick true true c = refl
crossing_pick true false c = refl
crossing_pick false true c = refl
crossing_pick false false c = refl

-- as link k goes to capacity d, a side that crosses it has d in place of the link's capacity, and any other side keeps its value
module _ (net : Network) (w : WithinLimits net) (k d : ℕ) (kl : k < net.links) (X : Side) where
  abbrev crosses : Bool
  crosses = crosses_link net X k

  pub value_changed : value_of (with_capacity net k d) X + pick crosses (at net.capacity k) 0 ≡ value_of net X + pick crosses d 0
  unfolding cut_value
  value_changed =
      let x = X (at net.a k) in
      let y = X (at net.b k) in
      let term : (ℕ → ℕ) → ℕ → ℕ = λ c i. crossing (X (at net.a i)) (X (at net.b i)) (c i) in
      let here = get_or-set_same net.capacity k d 0 (omega (arith, w.sized.capacity, links_le net w.fits)) in
      omega (
        arith,
        ap (crossing x y) here ∙ crossing_pick x y d,
        crossing_pick x y (at net.capacity k),
        sum_at net.links (term (at (set net.capacity k d))) (term (at net.capacity)) k kl
            (λ i n. ap (crossing (X (at net.a i)) (X (at net.b i))) (get_or-set_other net.capacity k i d 0 n)),
      )
