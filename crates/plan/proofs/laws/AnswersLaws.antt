-- Pair and headroom: one law for each way through the code.
use Rattle.std.proofs.Common.{◌≡◌, refl, ◌≢◌, Bool, true, false, not, ◌&&◌, List, [], ◌∷◌, ℕ, ◌≤◌, ◌<◌, eqb, pos, ◌-ℤ◌, ap, ◌∙◌, arith}
use Rattle.std.proofs.Common.{ltb, lt-ltb, le-ltb, ne_eqb}
use Rattle.std.proofs.Math.Bool.{and_comm}
use Rattle.std.proofs.lemmas.Bool.{not-false}
use Rattle.base.proofs.laws.TestLaws.{eqb_turned}
use Rattle.base.specs.Checks.{Row, row, check, chain, accepted}
use Rattle.network.specs.Limits.{max_value}
use Rattle.cut_tree.specs.Path.{lightest_on, answer, query_of, number_of, weight_of}
use Rattle.cut_tree.specs.Path.{PairAnswer}
use Rattle.cut_tree.specs.Path.{Refused, Found}
use Rattle.plan.specs.Plan.{sound}
use Rattle.plan.specs.Calls.{max_demand, node_rows, pair_number, pair_of, headroom_by, headroom_number, headroom_of, no_headroom}
use Rattle.plan.proofs.laws.SoundFacts.{sound_weight}
use Rattle.plan.specs.declared.Plan.{Plan}
use Rattle.plan.specs.declared.HeadroomReply.{HeadroomReply}
use Rattle.plan.proofs.laws.SoundFacts.{sound_climbs}

-- ---- pair
module _ (p : Plan) (s t : ℕ) where
  pub pair_unsound : sound p ≡ false → pair_of p s t ≡ Refused 19
  unfolding pair_of pair_number
  pair_unsound e = rw e

  pub pair_query : sound p ≡ true → pair_of p s t ≡ query_of p.tree p.network.nodes s t
  unfolding pair_of pair_number query_of
  pair_query e = rw e

  -- of two nodes of a sound plan
  pub pair_found : sound p ≡ true → s < p.network.nodes → t < p.network.nodes → s ≢ t
      → pair_of p s t ≡ answer p.tree p.network.nodes s t
  unfolding query_of
  pair_found e sl tl d =
      let n = p.network.nodes in
      pair_query e ∙ rw (lt-ltb s n sl, lt-ltb t n tl, ne_eqb s t d)

-- ---- headroom, by the pair's answer: the rows before its own are the pair's
abbrev rows : Bool → Bool → Bool → ℕ → ℕ
rows x y z later = check x 19 (check y 14 (check z 15 later))

abbrev asked : PairAnswer → Bool → Bool → Bool → PairAnswer
asked a x y z = accepted (rows x y z 0) a Refused

-- the answer that is asked for is no refusal
abbrev Right : PairAnswer → Type 0
Right a = (e : ℕ) → a ≡ Refused e → ⊥

refused_rows : (a : PairAnswer) → Right a → (later : ℕ) (h : HeadroomReply) (e : ℕ) (x y z : Bool)
    → asked a x y z ≡ Refused e → accepted (rows x y z later) h no_headroom ≡ no_headroom e
refused_rows a found later h e true y z q = ap no_headroom (ap number_of q)
refused_rows a found later h e false true z q = ap no_headroom (ap number_of q)
refused_rows a found later h e false false true q = ap no_headroom (ap number_of q)
refused_rows a found later h e false false false q = absurd (found e q)

found_rows : (a : PairAnswer) (later w v side size : ℕ) (x y z : Bool)
    → asked a x y z ≡ Found w v side size → (x ≡ false) × (rows x y z later ≡ later) × (weight_of a ≡ w)
found_rows a later w v side size true y z q = let n : ◌≡◌ {A = ℕ} 0 1 = cc in absurd (omega arith)
found_rows a later w v side size false true z q = let n : ◌≡◌ {A = ℕ} 0 1 = cc in absurd (omega arith)
found_rows a later w v side size false false true q = let n : ◌≡◌ {A = ℕ} 0 1 = cc in absurd (omega arith)
found_rows a later w v side size false false false q = (refl, refl, ap weight_of q)

module _ (p : Plan) (s t : ℕ) where
  answer_right : Right (answer p.tree p.network.nodes s t)
  unfolding answer
  answer_right e q = let z : ◌≡◌ {A = ℕ} 0 1 = cc in omega arith

  pub headroom_refused : (e demand : ℕ) → pair_of p s t ≡ Refused e → headroom_of p s t demand ≡ no_headroom e
  unfolding pair_of pair_number headroom_of headroom_number
  headroom_refused e demand q =
      let n = p.network.nodes in
      refused_rows (answer p.tree n s t) answer_right _ _ e (not (sound p)) (not (ltb s n && ltb t n)) (eqb s t) q

  module _ (w v side size : ℕ) (q : pair_of p s t ≡ Found w v side size) where
    by_pair : (later : List Row)
        → (not (sound p) ≡ false) × (chain (node_rows p s t later) ≡ chain later) × (weight_of (answer p.tree p.network.nodes s t) ≡ w)
    unfolding pair_of pair_number
    by_pair later =
        let n = p.network.nodes in
        found_rows (answer p.tree n s t) (chain later) w v side size (not (sound p)) (not (ltb s n && ltb t n)) (eqb s t) q

    pub found_weight : w ≤ max_value
    unfolding answer
    found_weight = omega (arith, (by_pair []).2, sound_weight p (not-false _ (by_pair []).0) (lightest_on p.tree s t))

    pub headroom_over : (demand : ℕ) → max_demand < demand → headroom_of p s t demand ≡ no_headroom 17
    unfolding headroom_of headroom_number
    headroom_over demand l = rw ((by_pair (row (ltb max_demand demand) 17 ∷ [])).1, lt-ltb max_demand demand l)

    pub headroom_found : (demand : ℕ) → demand ≤ max_demand → headroom_of p s t demand ≡ headroom_by (pos w -ℤ pos demand)
    unfolding headroom_of headroom_number
    headroom_found demand l = rw ((by_pair (row (ltb max_demand demand) 17 ∷ [])).1, le-ltb max_demand demand l, (by_pair []).2)

-- ---- from the other end
pub rows_turned : (p : Plan) (s t : ℕ) (later : List Row) → chain (node_rows p s t later) ≡ chain (node_rows p t s later)
rows_turned p s t later =
    let n = p.network.nodes in
    rw (and_comm (ltb s n) (ltb t n), eqb_turned s t)

-- ---- what the code of each call needs
pub ruleset pairing = (pair_unsound, pair_query, sound_climbs)

pub ruleset headrooms = (headroom_refused, found_weight, headroom_over, headroom_found)
