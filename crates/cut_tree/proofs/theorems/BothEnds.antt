-- A pair's answer from any tree whose nodes climb to node 0: the lightest edge on the path, the lowest number among
-- equals; and what is answered from the other end.
use Rattle.std.specs.Prelude.{ℕ, ◌<◌, ◌≡◌, ◌≢◌}
use Rattle.std.proofs.Math.Path.{refl}
use Rattle.cut_tree.specs.Path.{Climbs, lightest_on, answer, query_of, number_of}
use Rattle.cut_tree.specs.Answer.{LightestAnswer, BothEnds}
use Rattle.cut_tree.proofs.theorems.SameEdge.{same_edge}
use Rattle.cut_tree.proofs.laws.PathLaws.{lowest_lightest}
use Rattle.cut_tree.proofs.laws.SideLaws.{sides_turned, sizes_turned}
use Rattle.cut_tree.proofs.laws.QueryLaws.{query_cases, refused_both}
use Rattle.cut_tree.specs.declared.Tree.{Tree}

module _ (n : ℕ) (tree : Tree) (h : Climbs n tree.parent) where
  module _ (s t : ℕ) (sl : s < n) (tl : t < n) (d : s ≢ t) where
    pub lightest_answer : LightestAnswer tree s t (answer tree n s t)
    unfolding answer
    lightest_answer = record { edge = lowest_lightest n tree h s t sl tl d; weight = refl }

    answers_turned : BothEnds n (answer tree n s t) (answer tree n t s)
    unfolding answer
    answers_turned =
        let e = (lowest_lightest n tree h s t sl tl d).lightest.is_on_path in
        let v = lightest_on tree s t in
        rw (same_edge tree t s) (record {
          number = refl;
          weight = refl;
          node = refl;
          sides = λ z. sides_turned tree.parent n v s t e;
          sizes = λ z. sizes_turned tree.parent n v s t e;
        })

  pub both_ends : (s t : ℕ) → BothEnds n (query_of tree n s t) (query_of tree n t s)
  both_ends s t = query_cases tree n s t (BothEnds n) (refused_both n) (answers_turned s t)

  -- an accepted one
  pub query_lightest : (s t : ℕ) → number_of (query_of tree n s t) ≡ 0 → LightestAnswer tree s t (query_of tree n s t)
  query_lightest s t =
      query_cases tree n s t (λ r q. number_of r ≡ 0 → LightestAnswer tree s t r) (λ e z q. absurd (z q))
      (λ sl tl d e. lightest_answer s t sl tl d)
