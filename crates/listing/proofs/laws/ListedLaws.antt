-- A listing written into a buffer: the ways through the code.
use Rattle.std.specs.Prelude.{ℕ, zero, suc, ◌≤◌, ◌<◌, ◌≡◌, ◌≢◌, Bool, true, false, List, length, take, ltb, Option, Some, None}
use Rattle.std.specs.Prelude.{Ok, Err}
use Rattle.std.specs.Option.{unwrap_or}
use Rattle.std.proofs.Common.{refl, sym, ap, subst, ◌∙◌, arith, length-take-le, lt-ltb, le-ltb}
use Rattle.std.proofs.lemmas.List.Edits.{sets}
use Rattle.std.proofs.Math.Seq.{length-sets}
use Rattle.base.specs.Basics.{pick}
use Rattle.base.specs.Checks.{accepted}
use Rattle.network.specs.Limits.{max_nodes}
use Rattle.network.specs.Refusals.{refusal_number}
use Rattle.network.proofs.laws.RefusalLaws.{refusal_some}
use Rattle.network_file.specs.declared.Fault.{Fault}
use Rattle.plan.specs.Calls.{open_of}
use Rattle.plan.specs.Calls.{Opening}
use Rattle.plan.specs.Results.{as_opening}
use Rattle.plan.specs.declared.Plan.{Plan}
use Rattle.listing.specs.Listing.{plan_lines, refused_line, listing_of, max_listing, not_listed, listed, listed_length, listed_to}
use Rattle.base.specs.code.Puts.{Puts}
use Rattle.listing.proofs.laws.LengthLaws.{open_nodes, listing_length}

-- ---- the lines of a file, by its opening
module _ (file : List ℕ) {o : Opening} (e : o ≡ open_of file) where
  nodes_of : o.plan.network.nodes ≤ max_nodes
  nodes_of = subst (λ (o : Opening). o.plan.network.nodes ≤ max_nodes) (sym e) (open_nodes file)

  accepted_is : o.number ≡ 0 → plan_lines o.plan ≡ listing_of file
  unfolding listing_of
  accepted_is z =
      let y : (open_of file).number ≡ 0 =
      ap (λ (o : Opening). o.number) (sym e) ∙ z in rw y (ap (λ (o : Opening). plan_lines o.plan) e)

  refused_is : o.number ≢ 0 → refused_line o.number o.place ≡ listing_of file
  unfolding listing_of
  refused_is z =
      ap (λ (o : Opening). refused_line o.number o.place) e
      ∙ go (open_of file).number (λ y. z (ap (λ (o : Opening). o.number) e ∙ y))
    where
      go : (k : ℕ) → k ≢ 0
          → refused_line k (open_of file).place ≡ accepted k (plan_lines (open_of file).plan) (λ e. refused_line e (open_of file).place)
      go zero n = absurd (n refl)
      go (suc k) n = refl

-- an opened plan
module _ (file : List ℕ) (p : Plan) (e : as_opening (Ok p) ≡ open_of file) where
  pub nodes_within : p.network.nodes ≤ max_nodes
  nodes_within = nodes_of file e

  pub opened_lines : plan_lines p ≡ listing_of file
  opened_lines = accepted_is file e refl

-- a refusal
pub fault_line : (file : List ℕ) (f : Fault) → as_opening (Err f) ≡ open_of file
    → refused_line (refusal_number f.refusal) f.place ≡ listing_of file
fault_line file f e = refused_is file e (refusal_some f.refusal)

-- ---- the answer r, and the buffer m behind it
abbrev Listed : List ℕ → List ℕ → Option ℕ → List ℕ → Type 0
Listed file l r m = (r ≡ listed file (length l)) × (m ≡ listed_to file l)

pub listed_some : (file : List ℕ) (size : ℕ) → max_listing ≤ size → listed file size ≡ Some (length (listing_of file))
unfolding listed
listed_some file size b = rw (le-ltb size max_listing b)

module _ (file l : List ℕ) where
  listed_kept : length (listed_to file l) ≡ length l
  unfolding listed_to
  listed_kept = go (ltb (length l) max_listing)
    where
      go : (b : Bool) → length (pick b l (sets l 0 (listing_of file))) ≡ length l
      go true = refl
      go false = length-sets l 0 (listing_of file)

  pub too_short : length l < max_listing → Listed file l None l
  unfolding listed listed_to
  too_short b = rw (lt-ltb (length l) max_listing b) (refl, refl)

  module _ (b : max_listing ≤ length l) where
    pub listing_fits : length (listing_of file) ≤ length l
    listing_fits = omega (arith, listing_length file)

    pub listing_listed : {r : ℕ} {m : List ℕ} → Puts l 0 (listing_of file) r m → Listed file l (Some r) m
    unfolding listed listed_to
    listing_listed {r} p =
        let e : r ≡ length (listing_of file) = omega (arith, p.next_is) in
        rw (le-ltb (length l) max_listing b) (ap (λ (n : ℕ). Some n) e, p.after_is)

-- in a buffer that is long enough: how many of its bytes were written
pub listed_counts : (file l : List ℕ) {r : ℕ} {m : List ℕ} → max_listing ≤ length l → Some r ≡ listed file (length l)
    → m ≡ listed_to file l
    → (r ≤ length m) × (r ≡ length (take r m))
listed_counts file l {r} {m} b e f =
    let is : Some r ≡ Some (length (listing_of file)) = e ∙ listed_some file (length l) b in
    let long : r ≡ length (listing_of file) = cc in
    let within : r ≤ length m = omega (arith, listing_length file, long, ap length f, listed_kept file l) in
    (within, sym (length-take-le r m within))

-- ---- the same as C is answered
pub listed_number : (file : List ℕ) (size : ℕ) → unwrap_or (listed file size) not_listed ≡ listed_length file size
unfolding listed listed_length
listed_number file size = go (ltb size max_listing)
  where
    go : (b : Bool) → unwrap_or (pick b None (Some (length (listing_of file)))) not_listed
        ≡ pick b not_listed (length (listing_of file))
    go true = refl
    go false = refl
