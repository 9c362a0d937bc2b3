-- What the contracts of the pair query's parts cite: its climbs, as the code goes. The query's own contract is
-- `query_of`.
use Rattle.std.specs.Prelude.{ℕ, zero, suc, ◌≤◌, ◌<◌, ◌≡◌, Bool, true, false, List, [], ◌∷◌, Option, None, Some}
use Rattle.std.specs.Prelude.{ltb, eqb}
use Rattle.base.specs.Word.{holds}
use Rattle.node_set.specs.Set.{added}
use Rattle.base.specs.Basics.{pick, at}
use Rattle.network.specs.Limits.{max_nodes}
use Rattle.cut_tree.specs.Path.{max_climb, reaches, under}

-- a climb from i stays below a bound
pub record Inside (parent : List ℕ) (i : ℕ) : Type 0 where
  pub bound : ℕ
  pub small : bound ≤ max_nodes
  pub here : i < bound
  pub stays : (j : ℕ) → j < bound → at parent j < bound

-- the nodes from i up to node 0, without it, and no further than the first that is in stop
unfoldable pub climb_to : ℕ → List ℕ → ℕ → ℕ → List ℕ
climb_to stop parent zero i = []
climb_to stop parent (suc left) i =
    let further = climb_to stop parent left (at parent i) in pick (eqb i 0) [] (pick (holds stop i) [] (i ∷ further))

-- the set x with each of xs
unfoldable pub added_all : ℕ → List ℕ → ℕ
added_all x [] = x
added_all x (i ∷ is) = added_all (added x i) is

-- the lighter of best and i, the lower number where they are equal; i where there is none yet
unfoldable pub lighter : List ℕ → Option ℕ → ℕ → ℕ
lighter weight None i = i
lighter weight (Some best) i =
    let lower = pick (ltb i best) i best in
    let other = pick (ltb (at weight best) (at weight i)) best lower in
    pick (ltb (at weight i) (at weight best)) i other

unfoldable pub lightest_from : List ℕ → Option ℕ → List ℕ → Option ℕ
lightest_from weight best [] = best
lightest_from weight best (i ∷ is) = lightest_from weight (Some (lighter weight best i)) is

-- what is found is a node
abbrev pub IsNode : Option ℕ → Type 0
IsNode best = (v : ℕ) → best ≡ Some v → v < max_nodes

-- whether the nodes below i climb through v is known of the set x; a climb has come to j
pub record Known (parent : List ℕ) (v x i left j : ℕ) : Type 0 where
  pub rooted : reaches parent left j ≡ true
  pub short : left ≤ max_climb
  pub known : (k : ℕ) → k < i → holds x k ≡ under parent v k

-- x with i, if so
abbrev pub added_if : Bool → ℕ → ℕ → ℕ
added_if true x i = added x i
added_if false x i = x
