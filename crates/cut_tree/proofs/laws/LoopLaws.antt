-- The loop that works a tree out, before step s: its invariant and that invariant's laws. A rebuild and a first build
-- are this loop.
use Rattle.std.specs.Prelude.{◌≡◌, ℕ, suc, ◌+◌, ◌-◌, ◌≤◌, ◌<◌, Option, None, Some}
use Rattle.std.proofs.Common.{refl, sym, ap, subst, ◌∙◌, arith}
use Rattle.std.proofs.Math.Path.{fun_ext}
use Rattle.base.specs.Word.{holds}
use Rattle.base.specs.Basics.{at}
use Rattle.network.specs.Network.{with_capacity}
use Rattle.network.specs.declared.Network.{Network}
use Rattle.max_flow.specs.LeastCut.{least_cut_of}
use Rattle.max_flow.specs.declared.Cut.{Cut}
use Rattle.cut_tree.specs.Rule.{unbuilt, placed, recorded, stepped, rule_by, least_cut}
use Rattle.cut_tree.specs.Rebuild.{kept_or_least_by, rebuilt_by, link_test, rebuilt}
use Rattle.cut_tree.proofs.laws.RuleLaws.{stepped_le}
use Rattle.base.proofs.laws.BlankLaws.{zeros_at}
use Rattle.network.specs.Limits.{max_nodes}
use Rattle.cut_tree.proofs.laws.TakingLaws.{kept_gives}
use Rattle.cut_tree.specs.code.RebuildParts.{Gives, kept_or_least, kept, step_of, survived}
use Rattle.cut_tree.specs.declared.keep.Change.{Change}
use Rattle.cut_tree.specs.declared.Steps.{Steps}
use Rattle.cut_tree.specs.declared.Tree.{Tree}
use Rattle.cut_tree.specs.declared.Built.{Built}
use Rattle.cut_tree.specs.Rule.{StepCut}

-- steps 1 to s - 1 are taken, by what keeps steps
pub record Going (net : Network) (returns : ℕ → ℕ → Option Cut → Type 0) (b : Built) (s : ℕ) : Type 0 where
  pub low : 1 ≤ s
  pub parents : (i : ℕ) → at b.tree.parent i < s
  pub few : b.count < s
  pub made : (cut : ℕ → ℕ → StepCut) → Gives net returns cut → b ≡ rule_by cut (s - 1)

module _ (net : Network) (returns : ℕ → ℕ → Option Cut → Type 0) where
  pub going_start : Going net returns unbuilt 1
  unfolding rule_by
  going_start = record {
    low = omega arith;
    parents = λ i. omega (arith, zeros_at max_nodes i);
    few = omega arith;
    made = λ cut gives. refl;
  }

  module _ (b : Built) (s : ℕ) (g : Going net returns b s) where
    -- the pivot of s
    abbrev t : ℕ
    t = at b.tree.parent s

    more : (cut : ℕ → ℕ → StepCut) (i : ℕ) → b ≡ rule_by cut i
        → stepped b (suc i) (at b.tree.parent (suc i)) (cut (suc i) (at b.tree.parent (suc i))) ≡ rule_by cut (suc i)
    unfolding rule_by
    more cut i e = rw e refl

    -- step s by the cut k, whose a is 1 where it was worked out
    module _ (r : Option Cut) (p : returns s t r) (l : s < net.nodes) (k : Cut) (tree : Tree) (steps : Steps)
        (et : tree ≡ placed (holds k.side (at b.tree.parent t)) b.tree s t k.side k.value)
        (es : steps ≡ recorded b.steps s t k.side k.value) where
      abbrev after : ℕ → Built
      after count = record { tree = tree; steps = steps; count = count }

      abbrev cut_of : ℕ → StepCut
      cut_of a = record { side = k.side; value = k.value; anew = a }

      made_by : (a : ℕ) → after (b.count + a) ≡ stepped b s t (cut_of a)
      unfolding stepped
      made_by a = rw (et, es) refl

      low_parents : (a i : ℕ) → at (stepped b s t (cut_of a)).tree.parent i ≤ s
      low_parents a =
          stepped_le s b s t (cut_of a) (omega arith) (omega (arith, g.parents s)) (λ j. omega (arith, g.parents j))

      going_next : (a : ℕ) → a ≤ 1 → cut_of a ≡ kept_or_least net s t r
          → Going net returns (after (b.count + a)) (s + 1)
      going_next a one e =
          let q : suc (s - 1) ≡ s = omega (arith, g.low) in
          let z : s + 1 - 1 ≡ s = omega arith in
          let f : after (b.count + a) ≡ stepped b s t (cut_of a) = made_by a in
          record {
            low = omega arith;
            parents = λ i. subst (λ (z : Built). at z.tree.parent i < s + 1) (sym f) (omega (arith, low_parents a i));
            few = omega (arith, g.few);
            made = λ cut gives.
                let m = rw q at (more cut (s - 1) (g.made cut gives)) in
                rw z (f ∙ ap (stepped b s t) (e ∙ gives s t r l (g.parents s) p) ∙ m);
          }

      pub going_kept : r ≡ Some k → (count : ℕ) → count ≡ b.count → Going net returns (after count) (s + 1)
      going_kept e count ec =
          let z : count ≡ b.count + 0 = omega (arith, ec) in
          rw z (going_next 0 (omega arith) (rw e refl))

      pub going_least : r ≡ None → k ≡ least_cut_of net s t → (count : ℕ) → count ≡ b.count + 1
          → Going net returns (after count) (s + 1)
      unfolding least_cut least_cut_of
      going_least e ek count ec = rw ec (going_next 1 (omega arith) (rw (e, ek) refl))

    pub going_end : net.nodes ≤ s → s ≤ net.nodes - 1 + 1 → (cut : ℕ → ℕ → StepCut) → Gives net returns cut
        → b ≡ rule_by cut (net.nodes - 1)
    going_end l h cut gives = let q : s - 1 ≡ net.nodes - 1 = omega (arith, g.low) in rw q at (g.made cut gives)

-- what the keeping test gives is a rebuild: the changed link's test on the network is that on its numbers
module _ (net : Network) (steps : Steps) (k d : ℕ) where
  abbrev pub link_cuts : ℕ → ℕ → StepCut
  link_cuts = kept_or_least_by (with_capacity net k d) (link_test net k d) (at net.capacity k - d) steps

  pub link_rebuilt : rule_by link_cuts (net.nodes - 1) ≡ rebuilt net steps k d
  unfolding rebuilt rebuilt_by
  link_rebuilt = refl

  same_test : (h : Change)
      → h.link.a ≡ at net.a k → h.link.b ≡ at net.b k → h.link.capacity ≡ at net.capacity k → h.new ≡ d
      → (side value : ℕ) → survived h side value ≡ link_test net k d side value
  unfolding survived
  same_test h ea eb ec ed side value = rw (ea, eb, ec, ed) refl

  pub link_gives : (s t : ℕ) (r : Option Cut) (h : Change) → r ≡ kept h (step_of steps s) t
      → h.link.a ≡ at net.a k → h.link.b ≡ at net.b k → h.link.capacity ≡ at net.capacity k → h.new ≡ d
      → kept_or_least (with_capacity net k d) s t r ≡ link_cuts s t
  link_gives s t r h e ea eb ec ed =
      let f : survived h ≡ link_test net k d = fun_ext (λ side. fun_ext (λ value. same_test h ea eb ec ed side value)) in
      let g = kept_gives (with_capacity net k d) h steps s t in
      rw (e, g, f, ec, ed) refl
