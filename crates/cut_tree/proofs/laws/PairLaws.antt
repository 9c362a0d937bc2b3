-- What a cut tree says of two nodes: the subtree of the lightest edge between them separates them, and no side that does so has a smaller
-- value.
use Rattle.std.specs.Prelude.{◌≡◌, ◌≢◌, true, List, ℕ, ◌≤◌, ◌<◌}
use Rattle.std.proofs.Common.{sym, ap₂, ◌∙◌, arith}
use Rattle.min_cut.specs.Cut.{Net, Side, cut_value, Separates, MinCut, Within}
use Rattle.min_cut.proofs.laws.CutLaws.{cut_value_ext}
use Rattle.min_cut.proofs.laws.GusfieldPairs.{pairs}
use Rattle.base.specs.Basics.{at, differ}
use Rattle.base.proofs.laws.Bools.{differ_not, not_differ}
use Rattle.network.specs.Limits.{max_nodes}
use Rattle.cut_tree.specs.Path.{max_climb, Climbs, on_path, lightest_on, under}
use Rattle.cut_tree.specs.Definition1.{Lightest}
use Rattle.cut_tree.proofs.laws.PathLaws.{lowest_lightest, lightest_node}
use Rattle.cut_tree.proofs.laws.Depth.{climb_through, climb_ends}
use Rattle.cut_tree.proofs.laws.RuleTree.{Placed}
use Rattle.cut_tree.specs.declared.Tree.{Tree}

module _ (G : Net) (n : ℕ) (few : n ≤ max_nodes) (w : Within G n) (tree : Tree) (T : Placed G n tree) where
  abbrev ps : List ℕ
  ps = tree.parent

  abbrev ws : List ℕ
  ws = tree.weight

  -- the subtrees of the invariant are those of the climbs
  pub under_is : (v x : ℕ) → 0 < v → v < n → x < n → under ps v x ≡ T.0 v x
  under_is v x p l m = climb_through G n ps (at ws) T.0 T.1 T.2 max_climb v x (omega arith) p l m

  pub under_value : (v : ℕ) → 0 < v → v < n → cut_value G (under ps v) ≡ at ws v
  under_value v p l = cut_value_ext G n w (under ps v) (T.0 v) (λ x m. under_is v x p l m) ∙ sym (T.2.weight v p l)

  pub under_minimum : (v : ℕ) → 0 < v → v < n → MinCut G v (at ps v) (under ps v)
  under_minimum v p l =
      let m = T.2.minimum v p l in
      record {
        inside = under_is v v p l l ∙ m.inside;
        outside = under_is v (at ps v) p l (T.2.done v) ∙ m.outside;
        least = λ X i o. omega (arith, under_value v p l, T.2.weight v p l, m.least X i o);
      }

  pub placed_climbs : Climbs n ps
  placed_climbs = record {
    small = few;
    stays = λ i l. T.2.done i;
    rooted = λ i l. climb_ends G n ps (at ws) T.0 T.1 T.2 max_climb i (omega arith) l;
  }

  module _ (s t : ℕ) (sl : s < n) (tl : t < n) (d : s ≢ t) where
    abbrev v : ℕ
    v = lightest_on tree s t

    -- a side that separates s and t has at least the weight of some edge of the path
    met : (W : Side) → Separates W s t → (x : ℕ) × (on_path ps s t x ≡ true) × (at ws x ≤ cut_value G W)
    met W e =
        let k = pairs G n (at ps) (at ws) T.0 T.1 T.2 W s t sl tl e in
        let x = k.0 in (
          x,
          ap₂ differ (under_is x s k.1 k.2 sl) (under_is x t k.1 k.2 tl)
              ∙ not_differ (T.0 x s) (T.0 x t) k.3,
          k.4,
        )

    pub lightest_edge_lem : Lightest ws (on_path ps s t) v
    lightest_edge_lem = (lowest_lightest n tree placed_climbs s t sl tl d).lightest

    pub lightest_separates : Separates (under ps v) s t
    lightest_separates = differ_not (under ps v s) (under ps v t) lightest_edge_lem.is_on_path

    pub lightest_value : cut_value G (under ps v) ≡ at ws v
    lightest_value = let p = lightest_node n tree placed_climbs s t sl tl d in under_value v p.0 p.1

    pub lightest_least : (W : Side) → Separates W s t → at ws v ≤ cut_value G W
    lightest_least W e = let k = met W e in omega (arith, k.2, lightest_edge_lem.least k.0 k.1)
