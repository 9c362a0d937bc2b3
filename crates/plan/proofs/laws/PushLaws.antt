-- A stack with one more entry within the limits.
use Rattle.std.proofs.Common.{◌≡◌, true, ℕ, ◌+◌, ◌-◌, ◌≤◌, ◌<◌, arith, lt-ltb, le-leb, ltb-true, leb-true}
use Rattle.std.proofs.Math.Decide.{dec_lt}
use Rattle.base.specs.Basics.{at}
use Rattle.base.proofs.laws.TestLaws.{all_at, all_in, none, ◌&◌, shown, head, rest, test}
use Rattle.base.proofs.laws.BlankLaws.{blank_above, blank_behind}
use Rattle.base.proofs.laws.ListLaws.{set_le}
use Rattle.network.specs.Limits.{max_capacity}
use Rattle.plan.specs.Plan.{max_depth, entry_fits, stack_fits, push}
use Rattle.plan.specs.declared.Stack.{Stack}

module _ (m : ℕ) (stack : Stack) (e : stack_fits m stack ≡ true) (k c : ℕ) (kl : k < m) (cl : c ≤ max_capacity)
    (room : stack.depth < max_depth) where
  -- a link and a capacity at any place, used or not
  any_entry : (i : ℕ) → (at stack.link i ≤ m - 1) × (at stack.capacity i ≤ max_capacity)
  unfolding stack_fits
  any_entry i = go (dec_lt i stack.depth)
    where
      go : Dec (i < stack.depth) → (at stack.link i ≤ m - 1) × (at stack.capacity i ≤ max_capacity)
      go (yes l) =
          let h = shown _ (all_at stack.depth (entry_fits m stack) (head (rest (shown _ e))) i l) in
          (omega (arith, ltb-true (at stack.link i) m (head h)), leb-true _ _ (head (rest h)))
      go (no l) =
          let b = rest (rest (shown _ e)) in
          omega (
            arith,
            blank_above stack.depth stack.link (head b) i (omega arith),
            blank_above stack.depth stack.capacity (head (rest b)) i (omega arith),
          )

  entry_fits_lem : (i : ℕ) → entry_fits m (push stack k c) i ≡ true
  entry_fits_lem i =
      let link = set_le (m - 1) stack.link stack.depth k (omega arith) (λ i. (any_entry i).0) i in
      let capacity = set_le max_capacity stack.capacity stack.depth c cl (λ i. (any_entry i).1) i in
      let within : at (push stack k c).link i < m = omega (arith, link, kl) in
      test (lt-ltb _ _ within & le-leb _ _ capacity & none)

  pub push_fits : stack_fits m (push stack k c) ≡ true
  unfolding stack_fits
  push_fits =
      let b = rest (rest (shown _ e)) in
      let d = stack.depth + 1 in
      test (le-leb d max_depth (omega arith) & all_in d (entry_fits m (push stack k c)) (λ i l. entry_fits_lem i)
      & blank_behind stack.depth k stack.link (head b) & blank_behind stack.depth c stack.capacity (head (rest b)) & none)
