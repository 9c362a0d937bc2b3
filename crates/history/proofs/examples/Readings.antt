-- "Readings to check", P1 to P12: a table, what it means that a row holds, and that all do, together in one statement.
use Rattle.std.specs.Prelude.{ℕ, ◌+◌, ◌-◌, ◌≡◌, refl, Bool, true, false, ◌&&◌, List, [], ◌∷◌, take, drop, eqb, ℤ, pos, negsuc}
use Rattle.node_set.specs.Set.{size}
use Rattle.base.specs.Sum.{sum}
use Rattle.min_cut.specs.Cut.{cut_value}
use Rattle.min_cut.specs.FirstWord.{first, least_min_cut}
use Rattle.base.specs.Word.{holds, word}
use Rattle.base.specs.Basics.{all, every, blank, among, same}
use Rattle.network.specs.Network.{network_fits}
use Rattle.network_file.specs.Number.{read_groups}
use Rattle.network_file.specs.Reading.{taken, link_at, read_link, read_links, read_all, read_file}
use Rattle.cut_tree.specs.Rule.{moved, stepped, rule_by, least_cut, rule}
use Rattle.cut_tree.specs.Rebuild.{kept_by, kept_or_least_by, rebuilt_by, rebuilt}
use Rattle.cut_tree.specs.Path.{reaches, climb, lightest_of, lightest_on, side_of, answer}
use Rattle.cut_tree.specs.LightestEdge.{lightest_among}
use Rattle.cut_tree.specs.Path.{PairAnswer}
use Rattle.cut_tree.specs.Path.{Refused, Found}
use Rattle.plan.specs.Plan.{tree_fits, steps_fit, stack_fits, sound}
use Rattle.text.specs.Text.{digits, text_width, right_aligned, text_of}
use Rattle.plan.specs.Calls.{open_of, change_number, undo_number, altered, change_of, undo_of, pair_number, pair_of, preview_of}
use Rattle.plan.proofs.examples.ResortA.{resort_a}
use Rattle.plan.specs.declared.Plan.{Plan}
use Rattle.plan.specs.Calls.{Changed}

-- link k to capacity c; an undo
pub data Alter : Type 0 where
  to : (k c : ℕ) → Alter
  back : Alter

pub data Reading : Type 0 where
  -- a file and calls, and of nodes 1 up the parents, the weights, the steps' sides; the steps not kept in the last call
  parents : (file : List ℕ) → List Alter → List ℕ → Reading
  weights : (file : List ℕ) → List Alter → List ℕ → Reading
  sides : (file : List ℕ) → List Alter → List ℕ → Reading
  not_kept : (file : List ℕ) → List Alter → ℕ → Reading
  -- the lightest edge that the plan then holds
  lightest : (file : List ℕ) → List Alter → (node weight : ℕ) → Reading
  -- a pair call's answer
  pair : (file : List ℕ) (s t : ℕ) (weight node side size : ℕ) → Reading
  -- a file and calls, and the reply of a preview then: the pair with link k at capacity c, and the steps not kept
  preview : (file : List ℕ) → List Alter → (k c s t : ℕ) (weight node side size count : ℕ) → Reading
  -- a headroom's text, without the spaces before it
  reads : ℤ → List ℕ → Reading
  -- a file that is refused: number and place
  refused : (file : List ℕ) (number place : ℕ) → Reading

abbrev pub alter : Plan → Alter → Changed
alter p (to k c) = change_of p k c
alter p back = undo_of p

-- what the last of the calls replies; with no call, the opening's plan
unfoldable pub last : Changed → List Alter → Changed
last r [] = r
last r (x ∷ xs) = last (alter r.plan x) xs

unfoldable pub played : List ℕ → List Alter → Changed
played file xs = let o = open_of file in last (record { number = o.number; count = 0; plan = o.plan }) xs

-- accepted, and nodes 1 up have these values
abbrev pub nodes_have : Changed → List ℕ → List ℕ → Bool
nodes_have r values expected = eqb r.number 0 && same (take (r.plan.network.nodes - 1) (drop 1 values)) expected

abbrev pub zeros : Plan → Bool
zeros p =
    every (
    eqb (p.network.nodes + p.network.links + p.stack.depth + p.lightest.node + p.lightest.weight) 0
    ∷ blank p.network.a ∷ blank p.network.b ∷ blank p.network.capacity
    ∷ blank p.tree.parent ∷ blank p.tree.weight
    ∷ blank p.steps.pivot ∷ blank p.steps.side ∷ blank p.steps.value
    ∷ blank p.stack.link ∷ blank p.stack.capacity
    ∷ [])

abbrev pub same_answer : PairAnswer → ℕ → ℕ → ℕ → ℕ → Bool
same_answer (Refused e) w v x n = false
same_answer (Found w₁ v₁ x₁ n₁) w v x n = eqb w₁ w && (eqb v₁ v && (eqb x₁ x && eqb n₁ n))

unfoldable pub stands : Reading → Bool
stands (parents file xs expected) = let r = played file xs in nodes_have r r.plan.tree.parent expected
stands (weights file xs expected) = let r = played file xs in nodes_have r r.plan.tree.weight expected
stands (sides file xs expected) = let r = played file xs in nodes_have r r.plan.steps.side expected
stands (not_kept file xs n) = let r = played file xs in eqb r.number 0 && eqb r.count n
stands (lightest file xs v w) =
    let r = played file xs in
    eqb r.number 0 && (eqb r.plan.lightest.node v && eqb r.plan.lightest.weight w)
stands (pair file s t w v x n) = same_answer (pair_of (open_of file).plan s t) w v x n
stands (preview file xs k c s t w v x n count) =
    let r = preview_of (played file xs).plan k c s t in same_answer r.answer w v x n && eqb r.count count
stands (reads z text) = same (text_of z) (right_aligned text_width text)
stands (refused file e place) = let o = open_of file in eqb o.number e && (eqb o.place place && zeros o.plan)

unfoldable pub all_stand : List Reading → Bool
all_stand [] = true
all_stand (r ∷ rs) = stands r && all_stand rs

-- three nodes, links of 4 between 1 and 2 and of 1 between 2 and 0: in its step node 2 changes places with its pivot,
-- node 1
abbrev pub exchanging : List ℕ
exchanging = 0x03 ∷ 0x02 ∷ 0x01 ∷ 0x02 ∷ 0x04 ∷ 0x02 ∷ 0x00 ∷ 0x01 ∷ []

unfoldable pub table : List Reading
table =
    parents resort_a [] (0 ∷ 0 ∷ 2 ∷ []) ∷ weights resort_a [] (8 ∷ 6 ∷ 6 ∷ [])  -- P1
    ∷ sides resort_a [] (2 ∷ 12 ∷ 8 ∷ [])  -- P2
    ∷ weights resort_a (to 1 1 ∷ []) (6 ∷ 4 ∷ 6 ∷ []) ∷ not_kept resort_a (to 1 1 ∷ []) 1  -- P3
    ∷ parents resort_a (to 3 4 ∷ []) (0 ∷ 0 ∷ 0 ∷ []) ∷ weights resort_a (to 3 4 ∷ []) (8 ∷ 8 ∷ 8 ∷ [])
    ∷ not_kept resort_a (to 3 4 ∷ []) 2  -- P4
    ∷ parents resort_a (to 3 4 ∷ back ∷ []) (0 ∷ 0 ∷ 2 ∷ [])
    ∷ weights resort_a (to 3 4 ∷ back ∷ []) (8 ∷ 6 ∷ 6 ∷ [])  -- P5
    ∷ not_kept resort_a (to 3 4 ∷ back ∷ []) 3  -- P5
    ∷ pair resort_a 3 1 6 2 12 2  -- P6
    ∷ reads (negsuc 4) (45 ∷ 48 ∷ 46 ∷ 53 ∷ []) ∷ reads (negsuc 9) (45 ∷ 49 ∷ 46 ∷ 48 ∷ [])
    ∷ reads (pos 0) (48 ∷ 46 ∷ 48 ∷ [])  -- P7
    ∷ refused [] 1 0  -- P8
    ∷ refused (0x80 ∷ 0x80 ∷ 0x80 ∷ 0x80 ∷ []) 2 0  -- P9
    ∷ weights (0x02 ∷ 0x01 ∷ 0x00 ∷ 0x01 ∷ 0xC1 ∷ 0x84 ∷ 0x3D ∷ []) [] (1000001 ∷ [])  -- C1 84 3D
    ∷ refused (0x02 ∷ 0x01 ∷ 0x00 ∷ 0x01 ∷ 0x80 ∷ 0x00 ∷ []) 3 4  -- P10
    ∷ refused (0x02 ∷ 0x01 ∷ 0x00 ∷ 0x00 ∷ 0x00 ∷ []) 7 3  -- P11
    ∷ refused (0x01 ∷ 0x00 ∷ 0x00 ∷ []) 9 2  -- P12
    -- not the paper's
    ∷ refused (0x80 ∷ 0x80 ∷ 0x80 ∷ []) 1 0
    ∷ pair resort_a 1 3 6 2 3 2
    ∷ preview resort_a [] 1 1 1 3 4 2 3 2 1  -- of P3
    ∷ preview resort_a [] 3 4 1 3 8 1 2 1 2 ∷ preview resort_a [] 3 4 3 2 8 2 11 3 2  -- of P4
    ∷ preview resort_a (to 3 4 ∷ back ∷ []) 3 4 1 3 8 1 2 1 2  -- of P4, on P5's plan
    ∷ lightest resort_a [] 2 6 ∷ lightest resort_a (to 1 1 ∷ []) 2 4 ∷ lightest resort_a (to 3 4 ∷ []) 1 8
    ∷ lightest resort_a (to 3 4 ∷ back ∷ []) 2 6 ∷ lightest (0x01 ∷ 0x00 ∷ []) [] 0 0
    ∷ lightest (0x02 ∷ 0x00 ∷ []) [] 1 0
    ∷ parents exchanging [] (2 ∷ 0 ∷ []) ∷ weights exchanging [] (4 ∷ 1 ∷ [])
    ∷ []

pub readings : all_stand table ≡ true
unfolding sum cut_value holds first least_min_cut word all every blank network_fits read_groups taken link_at
    read_link read_links read_all read_file moved stepped rule_by least_cut rule kept_by kept_or_least_by rebuilt_by rebuilt
    reaches climb among lightest_on lightest_of side_of answer tree_fits steps_fit stack_fits lightest_among sound digits
    text_of open_of change_number undo_number altered change_of undo_of pair_number pair_of preview_of same last played stands
    all_stand table size
readings = refl
