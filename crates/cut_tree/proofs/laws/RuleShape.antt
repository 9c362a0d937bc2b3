-- Tree and steps of the rule have the shape that a sound plan has (docs/SCOPE.md, 7), whatever cuts it is given, if each is a set of nodes
-- that holds s and not t and has a value within the limit. So they do by the least minimum cuts, and by recorded steps of that shape.
use Rattle.std.specs.Prelude.{◌≡◌, ◌≢◌, Bool, false, ◌&&◌, set, eqb}
use Rattle.std.proofs.Math.Path.{refl, ap}
use Rattle.std.proofs.Common.{sym, ◌∙◌, pow_mono, eqb-true}
use Rattle.std.proofs.Math.Bool.{true, true≢false}
use Rattle.std.specs.Prelude.{ℕ, zero, suc, ◌-◌, ◌^◌, ◌≤◌, ◌<◌}
use Rattle.std.proofs.Common.{arith}
use Rattle.std.proofs.Math.Seq.{get_or-set_other}
use Rattle.base.specs.Word.{holds}
use Rattle.base.proofs.laws.WordLaws.{holds_out}
use Rattle.base.specs.Basics.{pick, at}
use Rattle.base.proofs.laws.BlankLaws.{zeros_at}
use Rattle.base.proofs.laws.ListLaws.{set_le}
use Rattle.min_cut.specs.GusfieldTree.{Goes, along, stays, far}
use Rattle.network.specs.Limits.{max_nodes, max_value}
use Rattle.network.specs.Network.{network_fits, least_side}
use Rattle.network.proofs.laws.NetworkLaws.{nodes_pos, nodes_le, value_le}
use Rattle.network.specs.declared.Network.{Network}
use Rattle.cut_tree.specs.Rule.{placed, stepped, rule_by, least_cut, rule}
use Rattle.cut_tree.specs.Rebuild.{KeepTest, kept_by, kept_or_least_by, rebuilt_by}
use Rattle.cut_tree.specs.Path.{max_climb, reaches}
use Rattle.cut_tree.proofs.laws.RuleLaws.{rule_long, parents_le, rule_recorded}
use Rattle.cut_tree.proofs.laws.PlacedLaws.{beside_goes, between_goes, weight_out}
use Rattle.cut_tree.proofs.laws.RankLaws.{Ranked, ranked_reaches, placed_ranked}
use Rattle.cut_tree.proofs.laws.RuleTree.{least_minimum, least_lt}
use Rattle.cut_tree.specs.declared.Tree.{Tree}
use Rattle.cut_tree.specs.declared.Steps.{Steps}
use Rattle.cut_tree.specs.declared.Built.{Built}
use Rattle.cut_tree.specs.Rule.{StepCut}

-- a side and its value as the cut of s and t: nodes only, with s and without t, and within the limit
pub record CutFits (n s t side value : ℕ) : Type 0 where
  pub nodes : side < 2 ^ n
  pub inside : holds side s ≡ true
  pub outside : holds side t ≡ false
  pub within : value ≤ max_value

-- place x is 0 in tree and steps
pub record Blank (b : Built) (x : ℕ) : Type 0 where
  pub parent : at b.tree.parent x ≡ 0
  pub weight : at b.tree.weight x ≡ 0
  pub pivot : at b.steps.pivot x ≡ 0
  pub side : at b.steps.side x ≡ 0
  pub value : at b.steps.value x ≡ 0

-- step s: a pivot below s, and a cut of the two
pub record StepShape (n : ℕ) (steps : Steps) (s : ℕ) : Type 0 where
  pub pivot : at steps.pivot s < s
  pub cut : CutFits n s (at steps.pivot s) (at steps.side s) (at steps.value s)

pub record Shape (n : ℕ) (b : Built) : Type 0 where
  -- node 0, and the places from n on
  pub root : Blank b 0
  pub unused : (x : ℕ) → n ≤ x → Blank b x
  pub parent : (i : ℕ) → at b.tree.parent i < n
  pub weight : (i : ℕ) → at b.tree.weight i ≤ max_value
  pub climbs : (i : ℕ) → i < n → reaches b.tree.parent max_climb i ≡ true
  pub step : (s : ℕ) → 0 < s → s < n → StepShape n b.steps s

-- what placing s does not reach: a node that is neither s nor t nor of the side
parent_out : (p p' : ℕ → ℕ) (X s t x : ℕ) → holds X x ≡ false → Goes p p' (holds X) s t x → p' x ≡ p x
parent_out p p' X s t x e (along f q g) = absurd (true≢false (sym q ∙ e))
parent_out p p' X s t x e (stays f q g) = g ∙ sym f
parent_out p p' X s t x e (far f g) = g

weight_le : (b : Bool) (tree : Tree) (s t X w : ℕ) → w ≤ max_value → ((x : ℕ) → at tree.weight x ≤ max_value) → (x : ℕ)
    → at (placed b tree s t X w).weight x ≤ max_value
weight_le false tree s t X w l h = set_le max_value tree.weight s w l h
weight_le true tree s t X w l h =
    let v = at tree.weight t in set_le max_value (set tree.weight s v) t w l (set_le max_value tree.weight s v (h t) h)

-- ---- by any cuts that fit
abbrev pub CutsFit : ℕ → (ℕ → ℕ → StepCut) → Type 0
CutsFit n cut = (s t : ℕ) → t < s → s < n → CutFits n s t (cut s t).side (cut s t).value

module _ (n : ℕ) (one : 0 < n) (few : n ≤ max_nodes) (cut : ℕ → ℕ → StepCut) (fit : CutsFit n cut) where
  abbrev b : ℕ → Built
  b = rule_by cut

  -- step k + 1: its pivot and its cut
  abbrev pivot : ℕ → ℕ
  pivot k = at (b k).tree.parent (suc k)

  pivot_lt : (k : ℕ) → pivot k < suc k
  pivot_lt k = omega (arith, parents_le cut k (suc k))

  cut_fits : (k : ℕ) → suc k < n → CutFits n (suc k) (pivot k) (cut (suc k) (pivot k)).side (cut (suc k) (pivot k)).value
  cut_fits k l = fit (suc k) (pivot k) (pivot_lt k) l

  wide : (k : ℕ) → suc k < n → (cut (suc k) (pivot k)).side < 2 ^ max_nodes
  wide k l = omega (arith, (cut_fits k l).nodes, pow_mono {i = n} {j = max_nodes} few)

  -- the parents are a tree
  ranked : (k : ℕ) → k < n → Ranked k (b k).tree.parent
  unfolding rule_by stepped
  ranked zero l = record {
    rank = λ x. x;
    home = zeros_at max_nodes 0;
    most = λ x l. l;
    falls = λ x p l. absurd (omega arith);
  }
  ranked (suc k) l =
      let x = cut (suc k) (pivot k) in
      placed_ranked (b k).tree (rule_long cut k).parent k (omega arith) (parents_le cut k) (ranked k (omega arith)) x.side x.value
      (wide k l) (cut_fits k l).outside

  unused_next : (x : ℕ) → n ≤ x → (k : ℕ) → suc k < n → Blank (b k) x → Blank (b (suc k)) x
  unfolding rule_by stepped
  unused_next x xl k l ih = record {
    parent = parent_out (at tree.parent) _ X (suc k) t x (holds_out n X x (cut_fits k l).nodes xl) (goes up) ∙ ih.parent;
    weight = weight_out up tree (suc k) t X w x ns (λ u. nt) ∙ ih.weight;
    pivot = get_or-set_other (b k).steps.pivot (suc k) x t 0 ns ∙ ih.pivot;
    side = get_or-set_other (b k).steps.side (suc k) x X 0 ns ∙ ih.side;
    value = get_or-set_other (b k).steps.value (suc k) x w 0 ns ∙ ih.value;
  }
    where
      tree : Tree
      tree = (b k).tree

      t : ℕ
      t = pivot k

      X : ℕ
      X = (cut (suc k) t).side

      w : ℕ
      w = (cut (suc k) t).value

      up : Bool
      up = holds X (at tree.parent t)

      ns : x ≢ suc k
      ns = omega arith

      nt : x ≢ t
      nt = omega (arith, pivot_lt k)

      goes : (z : Bool) → Goes (at tree.parent) (at (placed z tree (suc k) t X w).parent) (holds X) (suc k) t x
      goes false = beside_goes tree (rule_long cut k).parent (suc k) t X w (wide k l) x ns
      goes true = between_goes tree (rule_long cut k).parent (suc k) t X w (wide k l) x ns nt

  unused_blank : (x : ℕ) → n ≤ x → (k : ℕ) → k < n → Blank (b k) x
  unfolding rule_by
  unused_blank x xl zero l = let z = zeros_at max_nodes x in record { parent = z; weight = z; pivot = z; side = z; value = z }
  unused_blank x xl (suc k) l = unused_next x xl k l (unused_blank x xl k (omega arith))

  -- node 0 is no step's node, and no node changes places with it: its parent is itself
  root_blank : (k : ℕ) → k < n → Blank (b k) 0
  unfolding rule_by stepped
  root_blank zero l = record { parent = refl; weight = refl; pivot = refl; side = refl; value = refl }
  root_blank (suc k) l =
      let ih = root_blank k (omega arith) in
      let tree = (b k).tree in
      let t = pivot k in
      let X = (cut (suc k) t).side in
      let w = (cut (suc k) t).value in
      let up = holds X (at tree.parent t) in
      let ns : 0 ≢ suc k = omega arith in
      let nt : up ≡ true → 0 ≢ t =
      λ u q. true≢false
      (sym u ∙ ap (λ v. holds X (at tree.parent v)) (sym q) ∙ ap (holds X) (ih.parent ∙ q) ∙ (cut_fits k l).outside) in
      record {
        parent = (ranked (suc k) l).home;
        weight = weight_out up tree (suc k) t X w 0 ns nt ∙ ih.weight;
        pivot = get_or-set_other (b k).steps.pivot (suc k) 0 t 0 ns ∙ ih.pivot;
        side = get_or-set_other (b k).steps.side (suc k) 0 X 0 ns ∙ ih.side;
        value = get_or-set_other (b k).steps.value (suc k) 0 w 0 ns ∙ ih.value;
      }

  weights_le : (k : ℕ) → k < n → (x : ℕ) → at (b k).tree.weight x ≤ max_value
  unfolding rule_by stepped
  weights_le zero l x = omega (arith, zeros_at max_nodes x)
  weights_le (suc k) l y =
      let x = cut (suc k) (pivot k) in
      weight_le (holds x.side (at (b k).tree.parent (pivot k))) (b k).tree (suc k) (pivot k) x.side x.value
      (cut_fits k l).within (weights_le k (omega arith)) y

  step_shape : (s : ℕ) → 0 < s → s < n → StepShape n (b (n - 1)).steps s
  step_shape s p l =
      let r = rule_recorded cut (n - 1) (omega arith) s p (omega arith) in
      record { pivot = r.pivot; cut = rw (r.side, r.value) (fit s _ r.pivot l) }

  pub shape_by : Shape n (rule_by cut (n - 1))
  shape_by =
      let last : n - 1 < n = omega arith in
      record {
        root = root_blank (n - 1) last;
        unused = λ x l. unused_blank x l (n - 1) last;
        parent = λ i. omega (arith, parents_le cut (n - 1) i);
        weight = weights_le (n - 1) last;
        climbs = λ i l.
            ranked_reaches (n - 1) (b (n - 1)).tree.parent (parents_le cut (n - 1)) (ranked (n - 1) last) max_climb i (omega arith)
            (omega arith);
        step = step_shape;
      }

-- ---- by the least minimum cuts
least_fits : (net : Network) → network_fits net ≡ true → CutsFit net.nodes (least_cut net)
unfolding least_cut
least_fits net e s t tl sl =
    let m = least_minimum net e s t sl tl in
    record {
      nodes = least_lt net e s t sl tl;
      inside = m.inside;
      outside = m.outside;
      within = value_le net e (holds (least_side net s t));
    }

pub rule_shape : (net : Network) → network_fits net ≡ true → Shape net.nodes (rule net)
unfolding rule
rule_shape net e = shape_by net.nodes (nodes_pos net e) (nodes_le net e) (least_cut net) (least_fits net e)

-- ---- by recorded steps of this shape, whatever is kept of them
module _ (new : Network) (e : network_fits new ≡ true) (test : KeepTest) (fall : ℕ) (steps : Steps)
    (fits : (s : ℕ) → 0 < s → s < new.nodes
    → CutFits new.nodes s (at steps.pivot s) (at steps.side s) (at steps.value s)) where
  kept_fits : CutsFit new.nodes (kept_or_least_by new test fall steps)
  unfolding kept_or_least_by kept_by
  kept_fits s t tl sl = go (eqb (at steps.pivot s) t) refl (test (at steps.side s) (at steps.value s))
    where
      least : CutFits new.nodes s t (least_cut new s t).side (least_cut new s t).value
      least = least_fits new e s t tl sl

      stays : StepCut
      stays = record { side = at steps.side s; value = at steps.value s - fall; anew = 0 }

      go : (p : Bool) → eqb (at steps.pivot s) t ≡ p → (q : Bool)
          → let x = pick (p && q) stays (least_cut new s t) in CutFits new.nodes s t x.side x.value
      go false ep q = least
      go true ep false = least
      go true ep true =
          let h = fits s (omega arith) sl in
          record {
            nodes = h.nodes;
            inside = h.inside;
            outside = ap (holds (at steps.side s)) (sym (eqb-true _ _ ep)) ∙ h.outside;
            within = omega (arith, h.within);
          }

  pub rebuilt_shape : Shape new.nodes (rebuilt_by new test fall steps)
  unfolding rebuilt_by
  rebuilt_shape = shape_by new.nodes (nodes_pos new e) (nodes_le new e) (kept_or_least_by new test fall steps) kept_fits
