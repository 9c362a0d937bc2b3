-- A lawful flow in resort A, of total 8 from node 0 to node 1: what a flow call on its plan may reply.
use Rattle.std.specs.Prelude.{ℕ, zero, suc, ◌≡◌, refl, Bool, true, false, ◌||◌, List, [], ◌∷◌, length, eqb, leb, ℤ, pos, negsuc, nat_abs}
use Rattle.std.proofs.Common.{arith, leb-true, ne_eqb}
use Rattle.base.specs.Sum.{sum}
use Rattle.min_cut.specs.Cut.{cut_value}
use Rattle.min_cut.specs.FirstWord.{first, least_min_cut}
use Rattle.base.specs.Word.{holds}
use Rattle.min_cut.specs.Lawful.{outflow, total}
use Rattle.base.specs.Basics.{at, all}
use Rattle.base.proofs.laws.TestLaws.{all_at}
use Rattle.network.specs.Network.{graph, min_cut_value, flow_at, LawfulFlow, total_of}
use Rattle.network.specs.declared.Network.{Network}
use Rattle.plan.proofs.examples.ResortA.{network_a}

is_zero : ℤ → Bool
is_zero (pos zero) = true
is_zero (pos (suc n)) = false
is_zero (negsuc n) = false

zero_is : (z : ℤ) → is_zero z ≡ true → z ≡ pos 0
unfolding is_zero
zero_is (pos zero) e = refl
zero_is (pos (suc n)) e = absurd (let z : ◌≡◌ {A = ℕ} 0 1 = cc in omega arith)
zero_is (negsuc n) e = absurd (let z : ◌≡◌ {A = ℕ} 0 1 = cc in omega arith)

-- a flow's law, computed
lawful : (net : Network) (s t : ℕ) (f : List ℤ) → length f ≡ net.links
    → all net.links (λ k. leb (nat_abs (flow_at f k)) (at net.capacity k)) ≡ true
    → all net.nodes (λ x. eqb x s || (eqb x t || is_zero (outflow (graph net) (flow_at f) x net.links))) ≡ true
    → LawfulFlow net s t f
lawful net s t f z u v =
    record {
      size = z;
      lawful = record {
        within = λ k l. leb-true _ _ (all_at net.links _ u k l);
        conserved = λ x l a b. zero_is (outflow (graph net) (flow_at f) x net.links)
            (rw (ne_eqb x s a, ne_eqb x t b) at (all_at net.nodes _ v x l));
      };
    }

-- 5 straight from 0 to 1, and 3 over node 2, of which 2 come over node 3
abbrev pub eight : List ℤ
eight = pos 5 ∷ negsuc 2 ∷ negsuc 1 ∷ pos 2 ∷ pos 1 ∷ []

pub eight_lawful : LawfulFlow network_a 0 1 eight
unfolding is_zero all outflow
eight_lawful = lawful network_a 0 1 eight refl refl refl

pub eight_total : (total_of network_a eight 0 ≡ pos 8) × (min_cut_value network_a 0 1 ≡ 8)
unfolding sum cut_value holds first least_min_cut outflow total
eight_total = (refl, refl)
