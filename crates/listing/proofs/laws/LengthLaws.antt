-- How long a listing is: the longest has room in the buffer that is asked for. A node's number has at most two digits.
use Rattle.std.specs.Prelude.{ℕ, zero, suc, ◌+◌, ◌-◌, ◌*◌, ◌/◌, ◌%◌, ◌≤◌, ◌<◌, ◌≡◌, refl, List, [], ◌∷◌, length}
use Rattle.std.proofs.Common.{ap, subst, arith, length-append}
use Rattle.std.proofs.Math.Decide.{dec_lt}
use Rattle.base.specs.Basics.{at}
use Rattle.base.specs.Checks.{accepted}
use Rattle.network.specs.Limits.{max_nodes}
use Rattle.network.proofs.laws.NetworkLaws.{nodes_le}
use Rattle.network_file.specs.Reading.{read_file}
use Rattle.network_file.proofs.laws.FileLaws.{accepts}
use Rattle.network_file.specs.Reading.{Reading}
use Rattle.text.specs.Text.{decimal}
use Rattle.text.proofs.laws.TextLaws.{decimal_length, decimal_one, decimal_more}
use Rattle.cut_tree.specs.Path.{weight_of, side_in}
use Rattle.cut_tree.specs.declared.Tree.{Tree}
use Rattle.plan.specs.Plan.{no_plan}
use Rattle.plan.specs.Calls.{fresh, opened, open_of, pair_of}
use Rattle.plan.specs.declared.Plan.{Plan}
use Rattle.plan.specs.Calls.{Opening}
use Rattle.listing.specs.Listing.{decimals_of, tree_line, tree_lines, pair_line, pairs_of, pair_lines, plan_lines}
use Rattle.listing.specs.Listing.{refused_line, listing_of, max_digits, max_line, max_listing}

-- ---- lines
decimal_two : (n : ℕ) → n < 100 → length (decimal n) ≤ 2
decimal_two n h = go (dec_lt n 10)
  where
    go : Dec (n < 10) → length (decimal n) ≤ 2
    go (yes b) = omega (arith, ap length (decimal_one n b))
    go (no b) =
        omega (
          arith,
          ap length (decimal_more n (omega arith) (omega arith)),
          length-append (decimal (n / 10)) ((48 + n % 10) ∷ []),
          ap length (decimal_one (n / 10) (omega arith)),
        )

number_length : (n : ℕ) (ns : List ℕ) → length (decimals_of (n ∷ ns)) ≡ 1 + length (decimal n) + length (decimals_of ns)
unfolding decimals_of
number_length n ns = let e = length-append (decimal n) (decimals_of ns) in omega arith

numbers_length : (ns : List ℕ) → length (decimals_of ns) ≤ (1 + max_digits) * length ns + 1
unfolding decimals_of
numbers_length [] = omega arith
numbers_length (n ∷ ns) = omega (arith, number_length n ns, decimal_length n, numbers_length ns)

tree_line_lem : (tree : Tree) (i : ℕ) → length (tree_line tree i) ≤ max_line
unfolding tree_line
tree_line_lem tree i = omega (arith, numbers_length (i ∷ at tree.parent i ∷ at tree.weight i ∷ []))

pair_line_lem : (p : Plan) (s t : ℕ) → s < max_nodes → length (pair_line p s t) ≤ max_line
unfolding pair_line
pair_line_lem p s t b =
    let ns = t ∷ weight_of (pair_of p s t) ∷ side_in (pair_of p s t) ∷ [] in
    omega (arith, number_length s ns, decimal_two s (omega arith), numbers_length ns)

refused_line_lem : (number place : ℕ) → length (refused_line number place) ≤ max_line
unfolding refused_line
refused_line_lem number place = omega (arith, numbers_length (number ∷ place ∷ []))

-- ---- many lines
tree_lines_lem : (tree : Tree) (k : ℕ) → length (tree_lines tree k) ≤ max_line * k
unfolding tree_lines
tree_lines_lem tree zero = omega arith
tree_lines_lem tree (suc k) = omega (
  arith,
  tree_lines_lem tree k,
  tree_line_lem tree (suc k),
  length-append (tree_lines tree k) (tree_line tree (suc k)),
)

pairs_of_lem : (p : Plan) (s k : ℕ) → s < max_nodes → length (pairs_of p s k) ≤ max_line * k
unfolding pairs_of
pairs_of_lem p s zero b = omega arith
pairs_of_lem p s (suc k) b =
    omega (arith, pairs_of_lem p s k b, pair_line_lem p s (s + suc k) b, length-append (pairs_of p s k) (pair_line p s (s + suc k)))

-- pairs of n nodes, the first of them one of the first k
unfoldable pair_count : ℕ → ℕ → ℕ
pair_count n zero = 0
pair_count n (suc k) = pair_count n k + (n - suc k)

pair_lines_lem : (p : Plan) (k : ℕ) → k ≤ max_nodes → length (pair_lines p k) ≤ max_line * pair_count p.network.nodes k
unfolding pair_lines pair_count
pair_lines_lem p zero b = omega arith
pair_lines_lem p (suc k) b =
    let n = p.network.nodes in
    omega (
      arith,
      pair_lines_lem p k (omega arith),
      pairs_of_lem p k (n - suc k) (omega arith),
      length-append (pair_lines p k) (pairs_of p k (n - suc k)),
    )

-- no more than those of the most nodes
count_nodes : (n k : ℕ) → n ≤ max_nodes → pair_count n k ≤ pair_count max_nodes k
unfolding pair_count
count_nodes n zero b = omega arith
count_nodes n (suc k) b = omega (arith, count_nodes n k b)

count_first : (n j k : ℕ) → pair_count n j ≤ pair_count n (j + k)
unfolding pair_count
count_first n j zero = let e : j + 0 ≡ j = omega arith in rw e (omega arith)
count_first n j (suc k) = let e : j + suc k ≡ suc (j + k) = omega arith in rw e (omega (arith, count_first n j k))

count_most : pair_count max_nodes max_nodes ≡ max_nodes * (max_nodes - 1) / 2
unfolding pair_count
count_most = refl

count_all : (n : ℕ) → n ≤ max_nodes → pair_count n n ≤ max_nodes * (max_nodes - 1) / 2
count_all n b =
    let e : n + (max_nodes - n) ≡ max_nodes = omega arith in
    omega (
      arith,
      count_nodes n n b,
      subst (λ (k : ℕ). pair_count max_nodes n ≤ pair_count max_nodes k) e (count_first max_nodes n (max_nodes - n)),
      count_most,
    )

plan_lines_lem : (p : Plan) → p.network.nodes ≤ max_nodes → length (plan_lines p) ≤ max_listing
unfolding plan_lines
plan_lines_lem p b =
    let n = p.network.nodes in
    omega (
      arith,
      tree_lines_lem p.tree (n - 1),
      pair_lines_lem p n b,
      count_all n b,
      length-append (tree_lines p.tree (n - 1)) (pair_lines p n),
    )

-- ---- a listing
-- an opened plan has no more nodes than a network may have, and beside a refusal it has none
opened_nodes : (r : Reading) → (r.number ≡ 0 → r.network.nodes ≤ max_nodes) → (opened r).plan.network.nodes ≤ max_nodes
opened_nodes r h = go r.number h
  where
    go : (e : ℕ) → (e ≡ 0 → r.network.nodes ≤ max_nodes)
        → (accepted {A = Opening} e (record { number = 0; place = 0; plan = fresh r.network }) (λ e. record {
          number = e;
          place = r.place;
          plan = no_plan;
        })).plan.network.nodes ≤ max_nodes
    go zero k = k refl
    go (suc e) k = omega arith

pub open_nodes : (file : List ℕ) → (open_of file).plan.network.nodes ≤ max_nodes
unfolding open_of
open_nodes file = opened_nodes (read_file file) (λ e. nodes_le (read_file file).network (accepts file e).fits)

pub listing_length : (file : List ℕ) → length (listing_of file) ≤ max_listing
unfolding listing_of
listing_length file = go (open_of file).number
  where
    go : (e : ℕ) → length (accepted e (plan_lines (open_of file).plan) (λ e. refused_line e (open_of file).place)) ≤ max_listing
    go zero = plan_lines_lem (open_of file).plan (open_nodes file)
    go (suc e) = omega (arith, refused_line_lem (suc e) (open_of file).place)
