-- Laws of the pair query: the edge found by two climbs is the lightest on the tree path, the lowest number among
-- equals.
use Rattle.std.specs.Prelude.{ℕ, zero, suc, ◌≤◌, ◌<◌, ◌≡◌, ◌≢◌, refl, Bool, true, false, not, ◌&&◌, ◌||◌, List, [], ◌∷◌}
use Rattle.std.specs.Prelude.{Option, None, Some, min, ltb, eqb}
use Rattle.std.proofs.Common.{sym, ap, ◌∙◌, true≢false, arith, eq-eqb, ne_eqb, lt-ltb, le-ltb}
use Rattle.std.proofs.Math.Bool.{or-false}
use Rattle.std.proofs.Math.Decide.{ℕ_discrete, dec_lt}
use Rattle.std.proofs.lemmas.Bool.{eqb-false}
use Rattle.base.proofs.laws.Bools.{bool2, or_pick}
use Rattle.base.proofs.laws.ChecksLaws.{both_below, refused_by, passed_row, later_rows}
use Rattle.base.specs.Word.{holds}
use Rattle.node_set.specs.Set.{empty, added, Counted}
use Rattle.node_set.proofs.theorems.Members.{holds_empty, holds_added}
use Rattle.base.specs.Basics.{pick, at, differ, among}
use Rattle.network.specs.Limits.{max_nodes}
use Rattle.cut_tree.specs.Path.{max_climb, reaches, Climbs, climb, under, on_path, lightest_on, side_of, answer}
use Rattle.cut_tree.specs.Path.{query_number, query_of}
use Rattle.cut_tree.proofs.laws.MemberLaws.{among_head, among_later, among_on}
use Rattle.cut_tree.specs.code.QueryParts.{IsNode, climb_to, added_all, lighter, lightest_from}
use Rattle.cut_tree.proofs.laws.ClimbLaws.{rooted_lt, rooted_next, climb_closed, climb_to_among}
use Rattle.cut_tree.proofs.laws.ClimbLaws.{climb_end, climb_none, climb_on, climb_to_end, climb_to_none, climb_to_stop}
use Rattle.cut_tree.specs.Answer.{BothEnds}
use Rattle.cut_tree.proofs.laws.PathLaws.{lowest_lightest}
use Rattle.cut_tree.proofs.laws.SideLaws.{side_lt}
use Rattle.cut_tree.proofs.laws.LightestLaws.{Met, none_met, met_from, met_lightest}
use Rattle.std.specs.Prelude.{Result, IsErrAnd}
use Rattle.base.proofs.laws.ResultLaws.{exit_of}
use Rattle.network.specs.Refusals.{refusal_number}
use Rattle.network.proofs.laws.RefusalLaws.{refusal_some}
use Rattle.network.specs.declared.refusals.Refusal.{Refusal}
use Rattle.cut_tree.specs.Results.{as_answer}
use Rattle.cut_tree.specs.declared.PairFound.{PairFound}
use Rattle.cut_tree.specs.declared.Tree.{Tree}
use Rattle.cut_tree.specs.Path.{PairAnswer}
use Rattle.cut_tree.specs.Path.{Refused, Found}

-- ---- by the ways through the code
module _ (weight : List ℕ) where
  pub lighter_none : (i : ℕ) → i ≡ lighter weight None i
  unfolding lighter
  lighter_none i = refl

  module _ (b i : ℕ) where
    pub lighter_less : at weight i < at weight b → i ≡ lighter weight (Some b) i
    unfolding lighter
    lighter_less l = rw (lt-ltb (at weight i) (at weight b) l)

    pub lighter_more : at weight b < at weight i → b ≡ lighter weight (Some b) i
    unfolding lighter
    lighter_more l = rw (le-ltb (at weight i) (at weight b) (omega arith), lt-ltb (at weight b) (at weight i) l)

    pub lighter_lower : at weight i ≡ at weight b → min i b ≡ lighter weight (Some b) i
    unfolding lighter
    lighter_lower e =
        rw (le-ltb (at weight i) (at weight b) (omega (arith, e)), le-ltb (at weight b) (at weight i) (omega (arith, e)))
        (go (dec_lt i b))
      where
        go : Dec (i < b) → min i b ≡ pick (ltb i b) i b
        go (yes l) = rw (lt-ltb i b l) (omega arith)
        go (no l) = rw (le-ltb i b (omega arith)) (omega arith)

  pub up_none : (best : Option ℕ) (xs : List ℕ) → xs ≡ [] → best ≡ lightest_from weight best xs
  unfolding lightest_from
  up_none best xs e = rw e

  pub up_on : (best : Option ℕ) (i c : ℕ) (r : Option ℕ) (xs ys : List ℕ) → xs ≡ i ∷ ys → c ≡ lighter weight best i
      → r ≡ lightest_from weight (Some c) ys → r ≡ lightest_from weight best xs
  unfolding lightest_from
  up_on best i c r xs ys e f g = rw (g, f, e)

pub ruleset lighter_ways = (lighter_none, lighter_less, lighter_more, lighter_lower)

-- ---- the set of a climb
pub added_none : (x : ℕ) (xs : List ℕ) → xs ≡ [] → x ≡ added_all x xs
unfolding added_all
added_none x xs e = rw e

pub added_on : (x i y r : ℕ) (xs ys : List ℕ) → xs ≡ i ∷ ys → y ≡ added x i → r ≡ added_all y ys → r ≡ added_all x xs
unfolding added_all
added_on x i y r xs ys e f g = rw (g, f, e)

pub ruleset gathering = (climb_end, climb_none, climb_on, added_none, added_on, rooted_lt, rooted_next)

holds_added_all : (x : ℕ) (xs : List ℕ) (v : ℕ) → holds (added_all x xs) v ≡ (holds x v || among v xs)
unfolding added_all among
holds_added_all x [] v = sym (or-false (holds x v))
holds_added_all x (i ∷ is) v = holds_added_all (added x i) is v ∙ rw (holds_added x i v) (or_pick (holds x v) (eqb v i) (among v is))

-- ---- the two climbs, one after the other
module _ (n : ℕ) (tree : Tree) (h : Climbs n tree.parent) (s t : ℕ) (sl : s < n) (tl : t < n) (apart : s ≢ t) where
  abbrev ps : List ℕ
  ps = tree.parent

  abbrev ws : List ℕ
  ws = tree.weight

  -- a climb from i stops at the nodes of the climb from j
  stops : (i j z x : ℕ) → reaches ps max_climb j ≡ true → z ≡ empty → x ≡ added_all z (climb ps max_climb j)
      → (u : ℕ) → among u (climb_to x ps max_climb i) ≡ (under ps u i && not (under ps u j))
  stops i j z x r d e u =
      climb_to_among ps x (λ v m n. same (at ps v) ∙ climb_closed ps max_climb j v r (sym (same v) ∙ m) n) max_climb i u
      ∙ ap (λ b. under ps u i && not b) (same u)
    where
      same : (v : ℕ) → holds x v ≡ among v (climb ps max_climb j)
      same v = rw (e, d, holds_added_all empty (climb ps max_climb j) v, holds_empty v)

  module _ (z x y : ℕ) (best r : Option ℕ) (d : z ≡ empty) (ex : x ≡ added_all z (climb ps max_climb s))
      (f : ℕ) (g : f ≡ empty) (ey : y ≡ added_all f (climb ps max_climb t))
      (ef : best ≡ lightest_from tree.weight None (climb_to y ps max_climb s))
      (er : r ≡ lightest_from tree.weight best (climb_to x ps max_climb t)) where
    abbrev up : ℕ → Bool
    up u = among u (climb_to y ps max_climb s)

    on_s : (u : ℕ) → up u ≡ (under ps u s && not (under ps u t))
    on_s = stops s t f y (h.rooted t tl) g ey

    on_t : (u : ℕ) → among u (climb_to x ps max_climb t) ≡ (under ps u t && not (under ps u s))
    on_t = stops t s z x (h.rooted s sl) d ex

    both_ways : (u : ℕ) → (up u || among u (climb_to x ps max_climb t)) ≡ on_path ps s t u
    both_ways u =
        rw (on_s u, on_t u)
        (bool2 (λ a b. (a && not b || b && not a) ≡ differ a b) ((refl, refl), (refl, refl)) (under ps u s) (under ps u t))

    from_s : Met ws up best
    from_s = rw ef (met_from ws (λ u. false) up None (climb_to y ps max_climb s) (none_met ws) (λ u. refl))

    from_both : Met ws (on_path ps s t) r
    from_both = rw er (met_from ws up (on_path ps s t) best (climb_to x ps max_climb t) from_s both_ways)

    pub lightest_on_lem : r ≡ Some (lightest_on tree s t)
    lightest_on_lem =
        met_lightest ws (on_path ps s t) r (lightest_on tree s t) from_both
        (lowest_lightest n tree h s t sl tl apart)

-- ---- what is found is a node
pub node_one : (v : ℕ) → v < max_nodes → IsNode (Some v)
node_one v l u e = let f : v ≡ u = cc in omega arith

module _ (weight : List ℕ) where
  pub lighter_below : (best : Option ℕ) (x : ℕ) → IsNode best → x < max_nodes → lighter weight best x < max_nodes
  unfolding lighter
  lighter_below None x bl xl = xl
  lighter_below (Some b) x bl xl =
      go (ltb (at weight x) (at weight b)) (ltb (at weight b) (at weight x)) (ltb x b) (bl b refl)
    where
      go : (q r v : Bool) → b < max_nodes → pick q x (pick r b (pick v x b)) < max_nodes
      go true r v l = xl
      go false true v l = l
      go false false true l = xl
      go false false false l = l

  from_below : (best : Option ℕ) (xs : List ℕ) → IsNode best → ((x : ℕ) → among x xs ≡ true → x < max_nodes)
      → IsNode (lightest_from weight best xs)
  unfolding lightest_from among
  from_below best [] l h = l
  from_below best (x ∷ xs) l h =
      from_below (Some (lighter weight best x)) xs
      (node_one (lighter weight best x) (lighter_below best x l (h x (among_head x xs)))) (λ y m. h y (among_later y x xs m))

pub ruleset going_up =
    (climb_to_end, climb_to_none, climb_to_stop, up_none, rooted_lt, rooted_next, node_one, lighter_below)

module _ (n : ℕ) (parent : List ℕ) (c : Climbs n parent) (stop : ℕ) where
  climb_to_below : (left i : ℕ) → i < n → (x : ℕ) → among x (climb_to stop parent left i) ≡ true → x < max_nodes
  unfolding climb_to among
  climb_to_below zero i h x m = absurd (true≢false (sym m))
  climb_to_below (suc left) i h x m =
      let further = climb_to_below left (at parent i) (rooted_next c i h) x in
      go (eqb i 0) (holds stop i) (ℕ_discrete x i) m further
    where
      go : (y z : Bool) → Dec (x ≡ i) → among x (pick y [] (pick z [] (i ∷ climb_to stop parent left (at parent i)))) ≡ true
          → (among x (climb_to stop parent left (at parent i)) ≡ true → x < max_nodes) → x < max_nodes
      go true z d e ih = absurd (true≢false (sym e))
      go false true d e ih = absurd (true≢false (sym e))
      go false false (yes d) e ih = rw d (rooted_lt c i h)
      go false false (no d) e ih = ih (sym (among_on x i (climb_to stop parent left (at parent i)) d) ∙ e)

  pub up_below : (weight : List ℕ) (left i : ℕ) (best : Option ℕ) → i < n → IsNode best
      → IsNode (lightest_from weight best (climb_to stop parent left i))
  up_below weight left i best h l = from_below weight best (climb_to stop parent left i) l (climb_to_below left i h)

-- ---- the answer
pub query_nodes : (n s t r : ℕ) → r ≡ query_number n s t → r ≡ 0 → (s < n) × (t < n) × (s ≡ t → ⊥)
query_nodes n s t r e z =
    let q = sym e ∙ z in
    let (l, m) = (both_below s t n).0 (passed_row (not (ltb s n && ltb t n)) 13 _ q) in
    (l, m, eqb-false s t (passed_row (eqb s t) 14 _ (later_rows (not (ltb s n && ltb t n)) 13 _ q)))

module _ (tree : Tree) (n s t : ℕ) where
  pub refused_s : n ≤ s → Refused 14 ≡ query_of tree n s t
  unfolding query_of
  refused_s l = rw (le-ltb s n l)

  pub refused_t : s < n → n ≤ t → Refused 14 ≡ query_of tree n s t
  unfolding query_of
  refused_t m l = rw (lt-ltb s n m, le-ltb t n l)

  pub refused_same : s < n → t < n → s ≡ t → Refused 15 ≡ query_of tree n s t
  unfolding query_of
  refused_same l m e = rw (lt-ltb s n l, lt-ltb t n m, eq-eqb s t e)

  query_answer : s < n → t < n → (s ≡ t → ⊥) → query_of tree n s t ≡ answer tree n s t
  unfolding query_of
  query_answer l m d = rw (lt-ltb s n l, lt-ltb t n m, ne_eqb s t d)

  -- r is the number of the checks' outcome
  module _ (r : ℕ) (e : r ≡ query_number n s t) where
    pub query_refused : (r ≡ 0 → ⊥) → Refused r ≡ query_of tree n s t
    unfolding query_of
    query_refused d = rw (← e) (sym (refused_by r (answer tree n s t) Refused d))

    pub answered : r ≡ 0 → (v x size : ℕ) → v ≡ lightest_on tree s t → x ≡ side_of tree.parent n v s → Counted x size
        → Found (at tree.weight v) v x size ≡ query_of tree n s t
    unfolding query_of answer
    answered z v x size ev ex es =
        rw (sym e ∙ z, es.members n (rw ex (side_lt tree.parent n v s)), ex, ev)

pub query_err : (tree : Tree) (n s t : ℕ) (e : Refusal) (r : Result PairFound Refusal)
    → refusal_number e ≡ query_number n s t → IsErrAnd r (λ f. f ≡ e) → as_answer r ≡ query_of tree n s t
query_err tree n s t e r q h =
    exit_of as_answer r e _ h (query_refused tree n s t (refusal_number e) q (refusal_some e))

-- the answers from both ends: refused alike, or given
module _ (tree : Tree) (n s t : ℕ) (P : PairAnswer → PairAnswer → Type 0) where
  pub query_cases : ((e : ℕ) → (e ≡ 0 → ⊥) → P (Refused e) (Refused e))
      → (s < n → t < n → (s ≡ t → ⊥) → P (answer tree n s t) (answer tree n t s)) → P (query_of tree n s t) (query_of tree n t s)
  query_cases no_answer given = go (dec_lt s n) (dec_lt t n) (ℕ_discrete s t)
    where
      alike : (e : ℕ) → (e ≡ 0 → ⊥) → Refused e ≡ query_of tree n s t → Refused e ≡ query_of tree n t s
          → P (query_of tree n s t) (query_of tree n t s)
      alike e z p q = rw (← p, ← q) (no_answer e z)

      go : Dec (s < n) → Dec (t < n) → Dec (s ≡ t) → P (query_of tree n s t) (query_of tree n t s)
      go (no p) (no q) r = alike 14 (omega arith) (refused_s tree n s t (omega arith)) (refused_s tree n t s (omega arith))
      go (no p) (yes q) r = alike 14 (omega arith) (refused_s tree n s t (omega arith)) (refused_t tree n t s q (omega arith))
      go (yes p) (no q) r = alike 14 (omega arith) (refused_t tree n s t p (omega arith)) (refused_s tree n t s (omega arith))
      go (yes p) (yes q) (yes r) = alike 15 (omega arith) (refused_same tree n s t p q r) (refused_same tree n t s q p (sym r))
      go (yes p) (yes q) (no r) =
          rw (query_answer tree n s t p q r, query_answer tree n t s q p (λ e. r (sym e))) (given p q r)

pub refused_both : (n e : ℕ) → (e ≡ 0 → ⊥) → BothEnds n (Refused e) (Refused e)
refused_both n e z =
    record { number = refl; weight = refl; node = refl; sides = λ y. absurd (z y); sizes = λ y. absurd (z y) }
