-- The machine: what an accepted call's rows say, the state behind a call, and that 19 is never given. Assumes nothing.
use Rattle.std.specs.Prelude.{◌≡◌, refl, ◌≢◌, Bool, true, false, not, ◌&&◌, List, [], ◌∷◌, ℕ, zero, suc, ◌≤◌, ◌<◌, length, set, ltb, eqb}
use Rattle.std.proofs.Common.{length-set, ltb-true, ltb-false}
use Rattle.std.proofs.lemmas.List.{set-append_left}
use Rattle.std.proofs.lemmas.Bool.{eqb-false, not-false}
use Rattle.base.proofs.laws.Bools.{and_l, and_r}
use Rattle.base.specs.Checks.{Row, row, check, chain, accepted}
use Rattle.network.specs.Limits.{max_capacity}
use Rattle.network.specs.Network.{with_capacity}
use Rattle.network.specs.declared.Network.{Network}
use Rattle.cut_tree.specs.Path.{pair_rows}
use Rattle.base.specs.Basics.{among}
use Rattle.plan.specs.Plan.{max_depth}
use Rattle.history.specs.Machine.{Query, pair, flow, preview, Call, change, undo, ask, State, change_rows, refusal, number_at, moves}
use Rattle.history.specs.Machine.{next, numbers, padded, network_at}
use Rattle.base.proofs.laws.ChecksLaws.{later_rows, passed_row}

-- what rows 14 and 15 leave
pub pair_ok : (n s t : ℕ) (later : List Row) → chain (pair_rows n s t later) ≡ 0 → (s < n) × (t < n) × (s ≢ t)
pair_ok n s t later q =
    let b = not-false (ltb s n && ltb t n) (passed_row (not (ltb s n && ltb t n)) 13 _ q) in
    let q1 = later_rows (not (ltb s n && ltb t n)) 13 _ q in
    (ltb-true s n (and_l _ _ b), ltb-true t n (and_r (ltb s n) _ b), eqb-false s t (passed_row (eqb s t) 14 _ q1))

-- what rows 10 to 12 leave
pub change_ok : (m : ℕ) (x : State) (k c : ℕ) (later : List Row) → chain (change_rows m x k c later) ≡ 0
    → (k < m) × (c ≤ max_capacity) × (length x.stack ≢ max_depth) × (chain later ≡ 0)
change_ok m x k c later q =
    let q1 = later_rows (not (ltb k m)) 9 _ q in
    let q2 = later_rows (ltb max_capacity c) 10 _ q1 in (
      ltb-true k m (not-false _ (passed_row (not (ltb k m)) 9 _ q)),
      ltb-false max_capacity c (passed_row (ltb max_capacity c) 10 _ q1),
      eqb-false (length x.stack) max_depth (passed_row (eqb (length x.stack) max_depth) 11 _ q2),
      later_rows (eqb (length x.stack) max_depth) 11 _ q2,
    )

-- ---- the state behind a call
-- accepted or not, the same
pub either : {A : Type 0} (e : ℕ) (x : A) → accepted e x (λ n. x) ≡ x
either zero x = refl
either (suc e) x = refl

module _ (net : Network) (x : State) where
  pub refused_next : (c : Call) (e : ℕ) → number_at net x c ≡ suc e → next net x c ≡ x
  unfolding next
  refused_next c e q = rw q

  pub accepted_next : (c : Call) → number_at net x c ≡ 0 → next net x c ≡ moves x c
  unfolding next
  accepted_next c q = rw q

  -- what leaves the plan leaves the state
  pub ask_next : (q : Query) → next net x (ask q) ≡ x
  unfolding next
  ask_next q = either (number_at net x (ask q)) x

-- ---- a changed capacity, as an array
pub padded_set : (cs : List ℕ) (k c : ℕ) → k < length cs → padded (set cs k c) ≡ set (padded cs) k c
padded_set cs k c l = simp (length-set, set-append_left)

pub network_set : (net : Network) (cs : List ℕ) (k c : ℕ) → k < length cs → network_at net (set cs k c)
    ≡ with_capacity (network_at net cs) k c
network_set net cs k c l = simp (length-set, set-append_left)

-- ---- 19 is not among the numbers
check_not : (b : Bool) (n later : ℕ) → eqb 19 n ≡ false → eqb 19 later ≡ false → eqb 19 (check b n later) ≡ false
check_not true n later e f = e
check_not false n later e f = f

pair_not : (n s t : ℕ) (later : List Row) → eqb 19 (chain later) ≡ false → eqb 19 (chain (pair_rows n s t later)) ≡ false
pair_not n s t later e = check_not (not (ltb s n && ltb t n)) 14 _ refl (check_not (eqb s t) 15 _ refl e)

change_not : (m : ℕ) (x : State) (k c : ℕ) (later : List Row) → eqb 19 (chain later) ≡ false
    → eqb 19 (chain (change_rows m x k c later)) ≡ false
change_not m x k c later e =
    check_not (not (ltb k m)) 10 _ refl
    (check_not (ltb max_capacity c) 11 _ refl (check_not (eqb (length x.stack) max_depth) 12 _ refl e))

refusal_not : (n m : ℕ) (x : State) (c : Call) → eqb 19 (refusal n m x c) ≡ false
unfolding refusal
refusal_not n m x (change k c) = change_not m x k c [] refl
refusal_not n m x undo = check_not (eqb (length x.stack) 0) 13 0 refl refl
refusal_not n m x (ask (pair s t)) = pair_not n s t [] refl
refusal_not n m x (ask (flow s t size)) = pair_not n s t (row (not (eqb size m)) 16 ∷ []) (check_not (not (eqb size m)) 16 0 refl refl)
refusal_not n m x (ask (preview k c s t)) = change_not m x k c (pair_rows n s t []) (pair_not n s t [] refl)

pub never : (net : Network) (cs : List Call) (x : State) → among 19 (numbers net x cs) ≡ false
unfolding among numbers
never net [] x = refl
never net (c ∷ cs) x = rw (refusal_not net.nodes net.links x c) (never net cs (next net x c))
