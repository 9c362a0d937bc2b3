-- The lines of a plan while they are written: the turns of the loops over the nodes of the tree, over the nodes above one, and over all.
use Rattle.std.specs.Prelude.{Result, Ok, Err, MatchResult, ℕ, zero, suc, ◌+◌, ◌-◌, ◌≤◌, ◌<◌, ◌≡◌, refl, List, [], ◌∷◌, ◌++◌, length}
use Rattle.std.proofs.Common.{ap, subst, arith, add-one, length-append}
use Rattle.std.proofs.Math.Decide.{ℕ_discrete}
use Rattle.cut_tree.specs.Results.{as_answer}
use Rattle.cut_tree.specs.declared.PairFound.{PairFound}
use Rattle.network.specs.declared.refusals.Refusal.{Refusal}
use Rattle.cut_tree.specs.declared.Tree.{Tree}
use Rattle.plan.specs.Calls.{pair_of}
use Rattle.plan.specs.declared.Plan.{Plan}
use Rattle.listing.specs.Listing.{line_of, pair_word, tree_line, tree_lines, pair_line, pairs_of, pair_lines, plan_lines}
use Rattle.base.specs.code.Puts.{Puts}
use Rattle.base.proofs.laws.PutsLaws.{puts_length, puts_none, puts_then}

-- ---- lines that grow at their end
module _ (f step : ℕ → List ℕ) (grows : (k : ℕ) → f (suc k) ≡ f k ++ step k) where
  longer : (j k : ℕ) → j < k → length (f j) + length (step j) ≤ length (f k)
  longer j zero b = absurd (omega arith)
  longer j (suc k) b = go (ℕ_discrete j k) (longer j k)
    where
      go : Dec (j ≡ k) → (j < k → length (f j) + length (step j) ≤ length (f k)) → length (f j) + length (step j) ≤ length (f (suc k))
      go (yes e) ih = rw e (omega (arith, ap length (grows k), length-append (f k) (step k)))
      go (no d) ih = omega (arith, ih (omega arith), ap length (grows k), length-append (f k) (step k))

  module _ {l m : List ℕ} {place next : ℕ} (j : ℕ) (h : Puts l place (f j) next m) where
    -- where all have room, the next has
    grow_fits : (k : ℕ) → j < k → place + length (f k) ≤ length l → next + length (step j) ≤ length m
    grow_fits k b fits = omega (arith, longer j k b, h.next_is, puts_length h)

    grow_more : {r : ℕ} {n : List ℕ} → Puts m next (step j) r n → Puts l place (f (suc j)) r n
    grow_more p = rw (grows j) (puts_then h p)

-- ---- the tree: nodes 1 to i - 1 are written
tree_grows : (tree : Tree) (k : ℕ) → tree_lines tree (suc k) ≡ tree_lines tree k ++ tree_line tree (suc k)
unfolding tree_lines
tree_grows tree k = refl

pub tree_none : (tree : Tree) (l : List ℕ) (place : ℕ) → Puts l place (tree_lines tree (1 - 1)) place l
unfolding tree_lines
tree_none tree l place = puts_none l place

module _ (tree : Tree) {l m : List ℕ} {place next : ℕ} (i : ℕ) (b : 1 ≤ i) (h : Puts l place (tree_lines tree (i - 1)) next m) where
  same : suc (i - 1) ≡ i
  same = omega arith

  pub tree_fits_lem : (n : ℕ) → i < n → place + length (tree_lines tree (n - 1)) ≤ length l → next + length (tree_line tree i) ≤ length m
  tree_fits_lem n c fits =
      subst (λ (k : ℕ). next + length (tree_line tree k) ≤ length m) same
      (grow_fits (tree_lines tree) (λ k. tree_line tree (suc k)) (tree_grows tree) (i - 1) h (n - 1) (omega arith) fits)

  pub tree_more : {r : ℕ} {n : List ℕ} → Puts m next (tree_line tree i) r n → Puts l place (tree_lines tree (i + 1 - 1)) r n
  tree_more {r} {n} p =
      let e : i + 1 - 1 ≡ suc (i - 1) = omega arith in
      rw e (grow_more (tree_lines tree) (λ k. tree_line tree (suc k)) (tree_grows tree) (i - 1) h (rw same p))

-- ---- node s and those above it: s + 1 to t - 1 are written
pairs_grow : (p : Plan) (s k : ℕ) → pairs_of p s (suc k) ≡ pairs_of p s k ++ pair_line p s (s + suc k)
unfolding pairs_of
pairs_grow p s k = refl

pub pairs_none : (p : Plan) (s : ℕ) (l : List ℕ) (place : ℕ) → Puts l place (pairs_of p s (s + 1 - suc s)) place l
unfolding pairs_of
pairs_none p s l place = let e : s + 1 - suc s ≡ 0 = omega arith in rw e (puts_none l place)

module _ (p : Plan) (s : ℕ) {l m : List ℕ} {place next : ℕ} (t : ℕ) (b : s < t) (h : Puts l place (pairs_of p s (t - suc s)) next m) where
  above : s + suc (t - suc s) ≡ t
  above = omega arith

  pub pairs_fits : (n : ℕ) → t < n → place + length (pairs_of p s (n - suc s)) ≤ length l → next + length (pair_line p s t) ≤ length m
  pairs_fits n c fits =
      subst (λ (k : ℕ). next + length (pair_line p s k) ≤ length m) above
      (grow_fits (pairs_of p s) (λ k. pair_line p s (s + suc k)) (pairs_grow p s) (t - suc s) h (n - suc s) (omega arith) fits)

  pub pairs_more : {r : ℕ} {n : List ℕ} → Puts m next (pair_line p s t) r n → Puts l place (pairs_of p s (t + 1 - suc s)) r n
  pairs_more q =
      let e : t + 1 - suc s ≡ suc (t - suc s) = omega arith in
      rw e (grow_more (pairs_of p s) (λ k. pair_line p s (s + suc k)) (pairs_grow p s) (t - suc s) h (rw above q))

-- a pair's line, by the call's result: its weight and side, zeros where it is refused
pub pair_is : (p : Plan) (s t : ℕ) (r : Result PairFound Refusal) {x : ℕ × ℕ} {P : PairFound → Type 0}
    → as_answer r ≡ pair_of p s t → MatchResult r P (λ e. x ≡ (0, 0))
    → ((found : PairFound) → P found → x ≡ (found.weight, found.side))
    → line_of pair_word (s ∷ t ∷ x.0 ∷ x.1 ∷ []) ≡ pair_line p s t
unfolding pair_line
pair_is p s t (Ok found) a m f = rw (f found m, ← a)
pair_is p s t (Err e) a m f = rw (m, ← a)

-- ---- all: nodes 0 to s - 1 are written
lines_grow : (p : Plan) (k : ℕ) → pair_lines p (suc k) ≡ pair_lines p k ++ pairs_of p k (p.network.nodes - suc k)
unfolding pair_lines
lines_grow p k = refl

pub lines_none : (p : Plan) (l : List ℕ) (place : ℕ) → Puts l place (pair_lines p 0) place l
unfolding pair_lines
lines_none p l place = puts_none l place

module _ (p : Plan) {l m : List ℕ} {place next : ℕ} (s : ℕ) (h : Puts l place (pair_lines p s) next m) where
  pub lines_fits : (n : ℕ) → s < n → place + length (pair_lines p n) ≤ length l
      → next + length (pairs_of p s (p.network.nodes - suc s)) ≤ length m
  lines_fits n c fits = grow_fits (pair_lines p) (λ k. pairs_of p k (p.network.nodes - suc k)) (lines_grow p) s h n c fits

  pub lines_more : {r : ℕ} {n : List ℕ} → Puts m next (pairs_of p s (p.network.nodes - suc s)) r n → Puts l place (pair_lines p (s + 1)) r n
  lines_more q = rw add-one (grow_more (pair_lines p) (λ k. pairs_of p k (p.network.nodes - suc k)) (lines_grow p) s h q)

-- ---- the tree, then the pairs
pub plan_length : (p : Plan)
    → length (plan_lines p) ≡ length (tree_lines p.tree (p.network.nodes - 1)) + length (pair_lines p p.network.nodes)
unfolding plan_lines
plan_length p = length-append (tree_lines p.tree (p.network.nodes - 1)) (pair_lines p p.network.nodes)

pub plan_puts : (p : Plan) {l m n : List ℕ} {place next r : ℕ} → Puts l place (tree_lines p.tree (p.network.nodes - 1)) next m
    → Puts m next (pair_lines p p.network.nodes) r n → Puts l place (plan_lines p) r n
unfolding plan_lines
plan_puts p h q = puts_then h q
