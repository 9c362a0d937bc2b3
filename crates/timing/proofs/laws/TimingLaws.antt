-- What the function for timing gives, by the ways through the code.
use Rattle.std.proofs.Common.{ℕ, zero, suc, ◌+◌, ◌≡◌, ◌≢◌, List, refl, sym, ap, ◌∙◌, add-one}
use Rattle.base.specs.Checks.{accepted}
use Rattle.network.specs.declared.Network.{Network}
use Rattle.network_file.specs.Reading.{read_file, Reading}
use Rattle.timing.specs.Timing.{weight_of, weight_after, timed_in, timed_of}

-- ---- rounds
module _ (net : Network) where
  pub weight_none : weight_after net 0 ≡ 0
  unfolding weight_after
  weight_none = refl

  pub weight_more : (k : ℕ) → weight_after net (k + 1) ≡ weight_of net
  unfolding weight_after
  weight_more k = rw (add-one k)

-- ---- a file
module _ (file : List ℕ) {r : Reading} (e : r ≡ read_file file) where
  pub timed_refused : r.number ≢ 0 → (rounds : ℕ) → 0 ≡ timed_of file rounds
  unfolding timed_of
  timed_refused n rounds = sym (go r.number n) ∙ ap (λ (r : Reading). timed_in r rounds) e
    where
      go : (k : ℕ) → k ≢ 0 → accepted k (weight_after r.network rounds) (λ e. 0) ≡ 0
      go zero n = absurd (n refl)
      go (suc k) n = refl

  pub timed_accepted : r.number ≡ 0 → (rounds : ℕ) {w : ℕ} → w ≡ weight_after r.network rounds → w ≡ timed_of file rounds
  unfolding timed_of
  timed_accepted z rounds g =
      g ∙ sym (ap (λ (k : ℕ). accepted k (weight_after r.network rounds) (λ e. 0)) z) ∙
      ap (λ (r : Reading). timed_in r rounds) e
