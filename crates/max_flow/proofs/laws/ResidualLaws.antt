-- Laws of the residual capacities: what the code reads, the start, one arc along which more is sent.
use Rattle.std.proofs.Common.{◌≡◌, ◌≢◌, Bool, set, length, refl, ap, ◌∙◌, arith, get_or-set_same, true, false}
use Rattle.std.proofs.Common.{cond, List, [], ◌∷◌, ℕ, zero, suc, ◌+◌, ◌*◌, ◌/◌, ◌%◌, ◌<◌, ◌≤◌, get_or, length-set}
use Rattle.std.proofs.Common.{get_or-set_other, eqb-true}
use Rattle.std.proofs.lemmas.List.{length-replicate, get_or-replicate}
use Rattle.std.proofs.lemmas.Bool.{eqb-false}
use Rattle.std.proofs.Math.Decide.{ℕ_discrete}
use Rattle.base.proofs.laws.SumLaws.{sum_ext}
use Rattle.min_cut.specs.code.Residual.{residual, ResidualFlow, Pushed, At}
use Rattle.min_cut.proofs.code.Residual.{start, push_ahead, push_back}
use Rattle.min_cut.specs.code.Arcs.{tail, tip, spare, forward}
use Rattle.base.specs.Basics.{at}
use Rattle.network.specs.Limits.{max_links, max_arcs}
use Rattle.network.specs.Network.{network_fits, graph}
use Rattle.network.proofs.laws.NetworkLaws.{links_le, capacity_le}
use Rattle.network.specs.declared.Network.{Network}
use Rattle.max_flow.specs.GrowingFlow.{ahead, back}
use Rattle.max_flow.specs.code.Residuals.{room_on, row_after, sent_along, full_up_to, full_residual}
use Rattle.max_flow.specs.code.Residuals.{Balanced, Along, MaySend}

-- what the code reads
pub spare_read : (r : List (List ℕ)) (e : ℕ) → get_or (get_or r (e / 2) []) (e % 2) 0 ≡ room_on r e
unfolding spare
spare_read r e = go (ℕ_discrete (e % 2) 0)
  where
    go : Dec (e % 2 ≡ 0) → get_or (get_or r (e / 2) []) (e % 2) 0 ≡ cond (forward e) (ahead r (e / 2)) (back r (e / 2))
    go (yes q) = rw q
    go (no q) = let o : e % 2 ≡ 1 = omega arith in rw o

-- ---- the start
module _ (net : Network) where
  full_long : (k : ℕ) → length (full_up_to net k) ≡ max_links
  unfolding full_up_to
  full_long zero = let row : List ℕ = 0 ∷ 0 ∷ [] in length-replicate max_links row
  full_long (suc k) = length-set (full_up_to net k) k _ ∙ full_long k

  full_at : (k j : ℕ) → j < k → k ≤ max_links
      → get_or (full_up_to net k) j [] ≡ at net.capacity j ∷ at net.capacity j ∷ []
  unfolding full_up_to
  full_at zero j l m = absurd (omega arith)
  full_at (suc k) j l m = go (ℕ_discrete j k) (λ q. full_at k j q (omega arith))
    where
      go : Dec (j ≡ k) → (j < k → get_or (full_up_to net k) j [] ≡ at net.capacity j ∷ at net.capacity j ∷ [])
          → get_or (set (full_up_to net k) k (at net.capacity k ∷ at net.capacity k ∷ [])) j [] ≡ at net.capacity j
          ∷ at net.capacity j ∷ []
      go (yes e) ih = rw e (get_or-set_same (full_up_to net k) k _ [] (omega (arith, full_long k)))
      go (no n) ih = get_or-set_other (full_up_to net k) k j _ [] n ∙ ih (omega arith)

  full_rest : (k j : ℕ) → k ≤ j → j < max_links → get_or (full_up_to net k) j [] ≡ 0 ∷ 0 ∷ []
  unfolding full_up_to
  full_rest zero j l m = let row : List ℕ = 0 ∷ 0 ∷ [] in get_or-replicate max_links j row [] m
  full_rest (suc k) j l m = get_or-set_other (full_up_to net k) k j _ [] (λ e. omega arith) ∙ full_rest k j (omega arith) m

  -- the capacity stands in the row
  pub full_ahead : network_fits net ≡ true → (k : ℕ) → k < net.links → ahead (full_residual net) k ≡ at net.capacity k
  full_ahead h k l = rw (full_at net.links k l (links_le net h))

  pub full_balanced : network_fits net ≡ true → Balanced net (full_residual net)
  full_balanced h =
      record {
        long = full_long net.links;
        both = λ k l. rw (full_at net.links k l (links_le net h)) (omega arith);
        none = λ k l m. rw (full_rest net.links k l m) refl;
      }

  pub full_flow : network_fits net ≡ true → (s t : ℕ)
      → ResidualFlow (graph net) s t 0 (ahead (full_residual net)) (back (full_residual net))
  unfolding residual
  full_flow h s t X = omega (arith, start (graph net) s t X, same)
    where
      same : residual (graph net) (ahead (full_residual net)) (back (full_residual net)) X
          ≡ residual (graph net) (graph net).c (graph net).c X
      same = sum_ext net.links _ _ (λ k l. rw (full_at net.links k l (links_le net h)))

-- ---- d more is sent along arc e
module _ {net : Network} {r : List (List ℕ)} {e d : ℕ} (a : Along net r e d) where
  abbrev k : ℕ
  k = e / 2

  b : Balanced net r
  b = a.balanced

  kl : e / 2 < net.links
  kl = omega (arith, a.here)

  in_list : e / 2 < length r
  in_list = omega (arith, b.long, links_le net a.fits, kl)

  module _ (row : List ℕ) where
    same : get_or (set r k row) k [] ≡ row
    same = get_or-set_same r k row [] in_list

    other : (i : ℕ) → i ≢ k → get_or (set r k row) i [] ≡ get_or r i []
    other i n = get_or-set_other r k i row [] n

    others : At k (ahead r) (back r) (ahead (set r k row)) (back (set r k row))
    others =
        record { p_other = λ i n. ap (λ v. get_or v 0 0) (other i n); q_other = λ i n. ap (λ v. get_or v 1 0) (other i n) }

  ahead_true : d ≤ ahead r k → ahead (set r k (row_after true (ahead r k) (back r k) d)) k + d ≡ ahead r k
  ahead_true z = rw (same (row_after true (ahead r k) (back r k) d)) (omega arith)

  back_true : back (set r k (row_after true (ahead r k) (back r k) d)) k ≡ back r k + d
  back_true = rw (same (row_after true (ahead r k) (back r k) d))

  ahead_false : ahead (set r k (row_after false (ahead r k) (back r k) d)) k ≡ ahead r k + d
  ahead_false = rw (same (row_after false (ahead r k) (back r k) d))

  back_false : d ≤ back r k → back (set r k (row_after false (ahead r k) (back r k) d)) k + d ≡ back r k
  back_false z = rw (same (row_after false (ahead r k) (back r k) d)) (omega arith)

  pub along_pushed : Pushed (graph net) (tail (graph net) e) (tip (graph net) e) d (ahead r) (back r)
      (ahead (sent_along r e d)) (back (sent_along r e d))
  unfolding tail tip spare
  along_pushed = go (forward e) a.spare
    where
      go : (f : Bool) → d ≤ cond f (ahead r k) (back r k)
          → Pushed (graph net) (cond f ((graph net).a k) ((graph net).b k)) (cond f ((graph net).b k) ((graph net).a k)) d
          (ahead r) (back r)
          (ahead (set r k (row_after f (ahead r k) (back r k) d))) (back (set r k (row_after f (ahead r k) (back r k) d)))
      go true z =
          push_ahead (graph net) (ahead r) (back r) _ _ k d kl (others (row_after true (ahead r k) (back r k) d))
          (ahead_true z) back_true
      go false z =
          push_back (graph net) (ahead r) (back r) _ _ k d kl (others (row_after false (ahead r k) (back r k) d))
          ahead_false (back_false z)

  pub along_balanced : Balanced net (sent_along r e d)
  unfolding spare
  along_balanced =
      record {
        long = length-set r k _ ∙ b.long;
        both = λ i il. go (forward e) a.spare i il (ℕ_discrete i k);
        none = λ i il im. rw (other _ i (λ q. omega (arith, kl))) (b.none i il im);
      }
    where
      go : (f : Bool) → d ≤ cond f (ahead r k) (back r k) → (i : ℕ) → i < net.links → Dec (i ≡ k)
          → ahead (set r k (row_after f (ahead r k) (back r k) d)) i + back
          (set r k (row_after f (ahead r k) (back r k) d)) i ≡ 2 * at net.capacity i
      go true z i il (yes q) = rw q (omega (arith, ahead_true z, back_true, b.both k kl))
      go false z i il (yes q) = rw q (omega (arith, ahead_false, back_false z, b.both k kl))
      go f z i il (no n) = rw (other (row_after f (ahead r k) (back r k) d) i n) (b.both i il)

  -- no other arc has less room than before
  pub along_other : (j : ℕ) → j ≢ e → room_on r j ≤ room_on (sent_along r e d) j
  unfolding spare
  along_other j n = go (forward e) refl (forward j) refl (ℕ_discrete (j / 2) k)
    where
      go : (f : Bool) → forward e ≡ f → (g : Bool) → forward j ≡ g → Dec (j / 2 ≡ k)
          → cond g (ahead r (j / 2)) (back r (j / 2))
          ≤ cond g (ahead (set r k (row_after f (ahead r k) (back r k) d)) (j / 2))
          (back (set r k (row_after f (ahead r k) (back r k) d)) (j / 2))
      go f z g q (no a) = rw (other (row_after f (ahead r k) (back r k) d) (j / 2) a) (omega arith)
      go true z true q (yes a) = absurd (n (omega (arith, eqb-true (e % 2) 0 z, eqb-true (j % 2) 0 q)))
      go true z false q (yes a) = rw a (omega (arith, back_true))
      go false z true q (yes a) = rw a (omega (arith, ahead_false))
      go false z false q (yes a) =
          let u = eqb-false (e % 2) 0 z in
          let v = eqb-false (j % 2) 0 q in
          absurd (n (omega (arith, u, v)))

  -- what the code asks before it changes the row
  pub arc_lt : e < max_arcs
  arc_lt = omega (arith, a.here, links_le net a.fits)

  pub may_send : MaySend r e d
  unfolding spare
  may_send = record { arc = arc_lt; room = a.spare; sum = omega (arith, b.both k kl, capacity_le net a.fits k kl) }
