-- Gusfield's rule (docs/SCOPE.md, 4), by a function that gives the cut of a step.
use Rattle.std.specs.Prelude.{ℕ, zero, suc, ◌+◌, ◌-◌, Bool, true, false, ◌&&◌, List, [], ◌∷◌, set, replicate, eqb}
use Rattle.base.specs.Word.{holds}
use Rattle.base.specs.Basics.{pick, at}
use Rattle.network.specs.Limits.{max_nodes}
use Rattle.network.specs.Network.{least_side, min_cut_value}
use Rattle.network.specs.declared.Network.{Network}
use Rattle.cut_tree.specs.declared.Tree.{Tree}
use Rattle.cut_tree.specs.declared.Steps.{Steps}
use Rattle.cut_tree.specs.declared.Built.{Built}

-- the cut of a step: its side and its value; 1 where it was worked out, 0 where a recorded one was kept
pub record StepCut : Type 0 where
  pub side : ℕ
  pub value : ℕ
  pub anew : ℕ

abbrev pub no_tree : Tree
no_tree = record { parent = replicate max_nodes 0; weight = replicate max_nodes 0 }

abbrev pub no_steps : Steps
no_steps = record { pivot = replicate max_nodes 0; side = replicate max_nodes 0; value = replicate max_nodes 0 }

-- at first all parents are 0
abbrev pub unbuilt : Built
unbuilt = record { tree = no_tree; steps = no_steps; count = 0 }

-- the parents ps of the nodes i, i + 1, ..: every node in X with parent t gets parent s
unfoldable pub moved : ℕ → ℕ → ℕ → ℕ → List ℕ → List ℕ
moved X s t i [] = []
moved X s t i (p ∷ ps) = pick (holds X i && eqb p t) s p ∷ moved X s t (suc i) ps

-- s, of pivot t and a cut X of value w, is placed: beside t; or, where X holds the parent q of t, between q and t
abbrev pub placed : Bool → Tree → (s t X w : ℕ) → Tree
placed false tree s t X w = record { parent = set (moved X s t 0 tree.parent) s t; weight = set tree.weight s w }
placed true tree s t X w =
    record {
      parent = set (set (moved X s t 0 tree.parent) s (at tree.parent t)) t s;
      weight = set (set tree.weight s (at tree.weight t)) t w;
    }

-- pivot, X and w are recorded as step s
abbrev pub recorded : Steps → (s t X w : ℕ) → Steps
recorded steps s t X w = record {
  pivot = set steps.pivot s t;
  side = set steps.side s X;
  value = set steps.value s w;
}

-- step s, of pivot t, by the cut x
unfoldable pub stepped : Built → ℕ → ℕ → StepCut → Built
stepped b s t x =
    record {
      tree = placed (holds x.side (at b.tree.parent t)) b.tree s t x.side x.value;
      steps = recorded b.steps s t x.side x.value;
      count = b.count + x.anew;
    }

-- steps 1 to k: the pivot of s is its parent
unfoldable pub rule_by : (ℕ → ℕ → StepCut) → ℕ → Built
rule_by cut zero = unbuilt
rule_by cut (suc k) =
    let b = rule_by cut k in
    let t = at b.tree.parent (suc k) in
    stepped b (suc k) t (cut (suc k) t)

-- the least minimum cut of (s, t), worked out
unfoldable pub least_cut : Network → ℕ → ℕ → StepCut
least_cut net s t = record { side = least_side net s t; value = min_cut_value net s t; anew = 1 }

-- the rule
unfoldable pub rule : Network → Built
rule net = rule_by (least_cut net) (net.nodes - 1)
