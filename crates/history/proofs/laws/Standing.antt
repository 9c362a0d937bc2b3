-- The capacities are those at opening with each accepted change that is not undone applied in order.
use Rattle.std.specs.Prelude.{◌≡◌, length, set, replicate, List, [], ◌∷◌, ℕ, zero, suc, ◌-◌, ◌<◌}
use Rattle.std.proofs.Common.{sym, ap, subst, ◌∙◌, arith, set-set}
use Rattle.std.proofs.Math.ListN.{get_or-append}
use Rattle.std.proofs.lemmas.List.{set-get_or}
use Rattle.base.specs.Basics.{at}
use Rattle.base.specs.Checks.{accepted}
use Rattle.network.specs.Limits.{max_links}
use Rattle.network.specs.declared.Network.{Network}
use Rattle.history.specs.Machine.{Call, change, undo, ask, Entry, State, refusal, number_at, popped, moves, next, state, padded}
use Rattle.history.specs.Run.{Event, number_in, calls_of, Run}
use Rattle.history.specs.History.{stands, standing, applied}
use Rattle.history.proofs.laws.StackLaws.{Entries}
use Rattle.history.proofs.laws.MachineLaws.{change_ok, padded_set}
use Rattle.history.proofs.laws.PlanAt.{plan_at, Good}
use Rattle.history.proofs.laws.HistoryLaws.{step}
use Rattle.plan.specs.declared.Plan.{Plan}

-- Of the capacities at opening, those now, the stack, and the changes that stand: one entry of the stack for each change. The newest change
-- made the capacities of those under it, and its entry, put back, gives the capacities under it.
abbrev pub Backed : List ℕ → List ℕ → List Entry → List Entry → Type 0
Backed opened now [] [] = now ≡ opened
Backed opened now [] (d ∷ ds) = ⊥
Backed opened now (e ∷ es) [] = ⊥
Backed opened now (e ∷ es) (d ∷ ds) =
    (now ≡ set (applied opened ds) d.link d.capacity) × Backed opened (set now e.link e.capacity) es ds

backed_applied : (opened now : List ℕ) (es ds : List Entry) → Backed opened now es ds → now ≡ applied opened ds
unfolding applied
backed_applied opened now [] [] h = h
backed_applied opened now [] (d ∷ ds) h = absurd h
backed_applied opened now (e ∷ es) [] h = absurd h
backed_applied opened now (e ∷ es) (d ∷ ds) h = h.0

backed_undo : (m : ℕ) (opened cs : List ℕ) (es ds : List Entry) → length cs ≡ m → Entries m es → Backed opened (padded cs) es ds
    → Backed opened (padded (popped cs es).capacity) (popped cs es).stack (stands ds undo)
backed_undo m opened cs [] [] z f h = h
backed_undo m opened cs [] (d ∷ ds) z f h = absurd h
backed_undo m opened cs (e ∷ es) [] z f h = absurd h
backed_undo m opened cs (e ∷ es) (d ∷ ds) z f h = rw (padded_set cs e.link e.capacity (omega (arith, f.0))) h.1

module _ (net : Network) (opened : List ℕ) (x : State) (g : Good net x) (ds : List Entry)
    (b : Backed opened (padded x.capacity) x.stack ds) where
  backed_change : (k c : ℕ) → k < net.links
      → Backed opened (padded (set x.capacity k c)) (record { link = k; capacity = at x.capacity k } ∷ x.stack) (record {
        link = k;
        capacity = c;
      } ∷ ds)
  backed_change k c l =
      let kl : k < length x.capacity = omega (arith, g.long) in
      let old : at (padded x.capacity) k ≡ at x.capacity k =
      get_or-append x.capacity (replicate (max_links - length x.capacity) 0) 0 k kl in
      let again : set (set (padded x.capacity) k c) k (at x.capacity k) ≡ padded x.capacity =
      set-set (padded x.capacity) k c (at x.capacity k)
      ∙ ap (set (padded x.capacity) k) (sym old)
      ∙ set-get_or (padded x.capacity) k 0 in (
        padded_set x.capacity k c kl ∙ ap (λ (l : List ℕ). set l k c) (backed_applied opened (padded x.capacity) x.stack ds b),
        rw (padded_set x.capacity k c kl, again) b,
      )

  backed_moves : (c : Call) → number_at net x c ≡ 0 → Backed opened (padded (moves x c).capacity) (moves x c).stack (stands ds c)
  unfolding refusal
  backed_moves (change k c) q = backed_change k c (change_ok net.links x k c [] q).0
  backed_moves undo q = backed_undo net.links opened x.capacity x.stack ds g.long g.entries b
  backed_moves (ask q) e = b

  backed_next : (c : Call) (n : ℕ) → n ≡ number_at net x c
      → Backed opened (padded (next net x c).capacity) (next net x c).stack (accepted n (stands ds c) (λ e. ds))
  unfolding next
  backed_next c n q = rw (← q) (go n q)
    where
      go : (n : ℕ) → n ≡ number_at net x c
          → Backed opened (padded (accepted n (moves x c) (λ e. x)).capacity) (accepted n (moves x c) (λ e. x)).stack
          (accepted n (stands ds c) (λ e. ds))
      go zero q = backed_moves c (sym q)
      go (suc n) q = b

pub stood : (net : Network) (opened : List ℕ) (es : List Event) (x : State) → Good net x → Run (plan_at net x) es
    → (ds : List Entry) → Backed opened (padded x.capacity) x.stack ds
    → padded (state net x (calls_of es)).capacity ≡ applied opened (standing ds es)
unfolding state standing
stood net opened [] x g h ds b = backed_applied opened (padded x.capacity) x.stack ds b
stood net opened (e ∷ es) x g h ds b =
    let st = step net x g e.call e.reply h.0 in
    stood net opened es (next net x e.call) st.good (subst (λ (p : Plan). Run p es) st.plan h.1) _
    (backed_next net opened x g ds b e.call (number_in e.call e.reply) st.right.number)
