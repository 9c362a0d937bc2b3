-- The nodes from 1 up in their order, each with a key that orders them by weight: the first of the least key is that of
-- the lightest edge, the lowest number among equals.
use Rattle.std.specs.Prelude.{ℕ, ◌+◌, ◌≤◌, ◌<◌, ◌≡◌, List, [], ◌∷◌, Some}
use Rattle.std.proofs.Common.{sym, ap, subst, ◌∙◌, arith}
use Rattle.std.specs.Fn.{CalledAt}
use Rattle.std.specs.List.{FoldsTo}
use Rattle.std.specs.Cmp.{ranks}
use Rattle.std.specs.Iterator.{Yields, Drains, KeyTurn, PicksMinByKey}
use Rattle.std.specs.Ordering.{nat_cmp, min_by_ordering, MatchOrdering}
use Rattle.std.specs.declared.cmp.Ordering.{Ordering}
use Rattle.std.specs.declared.cmp.Ordering.TheVariants.{Less, Equal, Greater}
use Rattle.std.specs.declared.ops.Range.{Range}
use Rattle.std.proofs.iter.Yields.{nat_range_steps}
use denote.Param.Members.{Mut}
use denote.Ref.{Bor}
use Rattle.base.specs.Basics.{at}
use Rattle.network.specs.Limits.{max_nodes}
use Rattle.cut_tree.specs.Answer.{LowestLightest}
use Rattle.cut_tree.specs.LightestEdge.{edges_of, no_edge, lightest_among}
use Rattle.cut_tree.specs.declared.Edge.{Edge}
use Rattle.cut_tree.proofs.laws.EdgeLaws.{is_edge_lem, edge_none, edge_unique, lowest_first, lowest_next, lowest_still}

-- the edge of node b is the lightest of n nodes
abbrev pub IsLightest : List ℕ → (n b : ℕ) → Type 0
IsLightest weight n b = ◌≡◌ {A = Edge} (record { node = b; weight = at weight b }) (lightest_among n weight)

-- nodes with these keys are in the order of their weights
abbrev pub InOrder : List ℕ → (x k y l : ℕ) → Type 0
InOrder weight x k y l = (k ≤ l → at weight x ≤ at weight y) × (l < k → at weight y < at weight x)

module _ {F : Type 0} (g : Mut F (Bor ℕ × Unit {0}) ℕ) (f : F) (weight : List ℕ)
    (stays : (x k : ℕ) (q : F) → CalledAt g f x k q → q ≡ f)
    (orders : (x k : ℕ) (q : F) → CalledAt g f x k q → (y l : ℕ) (r : F) → CalledAt g f y l r
    → InOrder weight x k y l) where
  -- what the closure gives for node x
  record IsKey (x k : ℕ) : Type 0 where
    pub left : F
    pub called : CalledAt g f x k left

  -- what the pass keeps: the closure, the least key, and its node
  abbrev Kept : Type 0
  Kept = (F × ℕ) × ℕ

  abbrev Turn : Kept → ℕ → Kept → Type 0
  Turn = KeyTurn min_by_ordering min_by_ordering g nat_cmp

  -- before node i
  record Before (i : ℕ) (p : Kept) : Type 0 where
    pub same : p.0.0 ≡ f
    pub key : IsKey p.1 p.0.1
    pub lowest : LowestLightest weight (edges_of i) p.1

  turn : (i : ℕ) (p q : Kept) → 0 < i → Before i p → Turn p i q → Before (i + 1) q
  turn i p q l h t =
      go t.1 (subst (λ o. MatchOrdering o (p.0.1 < t.0) (p.0.1 ≡ t.0) (t.0 < p.0.1)) t.3 (ranks p.0.1 t.0)) t.4 t.5
    where
      called : CalledAt g f i t.0 q.0.0
      called = subst (λ w. CalledAt g w i t.0 q.0.0) h.same t.2

      same : q.0.0 ≡ f
      same = stays i t.0 q.0.0 called

      order : InOrder weight p.1 p.0.1 i t.0
      order = orders p.1 p.0.1 h.key.left h.key.called i t.0 q.0.0 called

      key_is : {j k : ℕ} → q.0.1 ≡ k → q.1 ≡ j → IsKey j k → IsKey q.1 q.0.1
      key_is {j} {k} e d w = subst (λ (n : ℕ). IsKey n q.0.1) (sym d) (subst (λ (n : ℕ). IsKey j n) (sym e) w)

      still : at weight p.1 ≤ at weight i → q.0.1 ≡ p.0.1 → q.1 ≡ p.1 → Before (i + 1) q
      still m e d = record {
        same = same;
        key = key_is e d h.key;
        lowest = subst (LowestLightest weight (edges_of (i + 1))) (sym d) (lowest_still weight i p.1 l h.lowest m);
      }

      go : (o : Ordering) → MatchOrdering o (p.0.1 < t.0) (p.0.1 ≡ t.0) (t.0 < p.0.1) → q.0.1 ≡ min_by_ordering o p.0.1 t.0
          → q.1 ≡ min_by_ordering o p.1 i → Before (i + 1) q
      go Less m e d = still (order.0 (omega (arith, m))) e d
      go Equal m e d = still (order.0 (omega (arith, m))) e d
      go Greater m e d = record {
        same = same;
        key = key_is e d (record { left = q.0.0; called = called });
        lowest =
            subst (LowestLightest weight (edges_of (i + 1))) (sym d) (lowest_next weight i p.1 l h.lowest (order.1 m));
      }

  pass : (xs : List ℕ) (s t : Range ℕ) (p q : Kept) → 0 < s.start → s.start ≤ s.end → Before s.start p → Yields nat_range_steps s xs t
      → FoldsTo Turn p xs q → Before t.start q × (t.start ≤ t.end) × (t.end ≡ s.end)
  pass [] s t p q l m h y c = (
    subst (λ (w : ℕ × Kept). Before w.0 w.1) {x = (s.start, p)} {y = (t.start, q)} (λ i. ((y i).start, c i)) h,
    omega (arith, ap (λ (k : Range ℕ). k.start) y, ap (λ (k : Range ℕ). k.end) y),
    sym (ap (λ (k : Range ℕ). k.end) y),
  )
  pass (x ∷ xs) s t p q l m h y c =
      let step = y.1 in
      let next = turn s.start p c.0 l h (subst (λ k. Turn p k c.0) step.1.1 c.1) in
      let r = pass xs y.0 t c.0 q (omega (arith, step.1.2)) (omega (arith, step.0, step.1.0, step.1.2))
      (subst (λ i. Before i c.0) (sym step.1.2) next) y.2 c.2 in
      (r.0, r.1, r.2 ∙ step.0)

  found : (n b : ℕ) → n ≤ max_nodes → PicksMinByKey nat_range_steps g nat_cmp (record { start = 1; end = n }) f (Some b)
      → (b < n) × IsLightest weight n b
  found n b few d =
      let y = d.5.1.1 in
      let step = y.1 in
      let one : Before 2 ((d.3, d.2), d.0) = record {
        same = stays d.0 d.2 d.3 d.6;
        key = record { left = d.3; called = d.6 };
        lowest = subst (LowestLightest weight (edges_of 2)) (sym step.1.1) (lowest_first weight);
      } in
      let before = subst (λ i. Before i ((d.3, d.2), d.0)) (sym step.1.2) one in
      let some : y.0.start ≤ y.0.end = omega (arith, step.0, step.1.0, step.1.2) in
      let r = pass d.1 y.0 d.5.1.0 ((d.3, d.2), d.0) (d.4, b) (omega (arith, step.1.2)) some before y.2 d.7 in
      let all : d.5.1.0.start ≡ n = omega (arith, r.1, r.2, step.0, d.5.1.2.1.0) in
      let lowest = subst (λ i. LowestLightest weight (edges_of i) b) all r.0.lowest in
      ((is_edge_lem n b lowest.lightest.is_on_path).1, sym (edge_unique weight n b few (omega (arith, step.1.0)) lowest))

-- what is found of n nodes
pub first_lightest : {F : Type 0} {g : Mut F (Bor ℕ × Unit {0}) ℕ} {f : F} (weight : List ℕ) (n b : ℕ)
    → n ≤ max_nodes → PicksMinByKey nat_range_steps g nat_cmp (record { start = 1; end = n }) f (Some b)
    → ((x k : ℕ) (q : F) → CalledAt g f x k q → q ≡ f)
    → ((x k : ℕ) (q : F) → CalledAt g f x k q → (y l : ℕ) (r : F) → CalledAt g f y l r → InOrder weight x k y l)
    → (b < n) × IsLightest weight n b
first_lightest {F} {g} {f} weight n b few d stays orders = found g f weight stays orders n b few d

-- and where no node is met
pub no_lightest : (weight : List ℕ) (n : ℕ) → Drains nat_range_steps (record { start = 1; end = n }) []
    → no_edge ≡ lightest_among n weight
no_lightest weight n d =
    let start = ap (λ (k : Range ℕ). k.start) d.1.1 in
    let end = ap (λ (k : Range ℕ). k.end) d.1.1 in
    sym (edge_none weight n (omega (arith, start, end, d.1.2.1.0)))
