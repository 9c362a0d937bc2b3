-- What holds of the definitions of specs/Numbers.antt.
use Rattle.std.proofs.Common.{ℕ, zero, suc, ◌+◌, ◌-◌, ◌≤◌, ◌≡◌, ◌≢◌, ◌↔◌, List, ◌++◌, replicate, ℤ, pos, refl, sym, ap, subst₂, ◌∙◌}
use Rattle.std.proofs.Common.{arith, length, drop}
use Rattle.std.proofs.Math.Seq.{sets-eq}
use Rattle.base.specs.Checks.{accepted}
use Rattle.base.specs.Conditions.{end, Numbered}
use Rattle.base.proofs.laws.ChecksLaws.{positive, numbered, number_kept, refused_by}
use Rattle.network_file.specs.Faults.{Fault}
use Rattle.network_file.proofs.theorems.Files.{refusals}
use Rattle.network_file.specs.Reading.{read_file}
use Rattle.network_file.specs.Writing.{file_of}
use Rattle.cut_tree.proofs.theorems.Rebuilds.{rebuilt_most}
use Rattle.cut_tree.specs.Path.{answer, number_of}
use Rattle.cut_tree.specs.Path.{Refused}
use Rattle.text.specs.Text.{text_width}
use Rattle.base.specs.Basics.{at}
use Rattle.plan.specs.Plan.{push, pop, no_plan}
use Rattle.plan.specs.Calls.{fresh, not_opened, open_of, change_number, undo_number}
use Rattle.plan.specs.Calls.{altered, unaltered, changed, undone, change_of, undo_of, pair_number, pair_of}
use Rattle.plan.specs.Calls.{no_preview, preview_of, preview_number}
use Rattle.plan.proofs.laws.PreviewLaws.{shown, preview_is}
use Rattle.plan.specs.Calls.{flow_number, Flowed, headroom_number, no_headroom, headroom_of}
use Rattle.plan.specs.Calls.{write_number, not_written, write_of, written_to}
use Rattle.plan.specs.declared.Stack.{Stack}
use Rattle.plan.specs.declared.Plan.{Plan}
use Rattle.plan.specs.Calls.{Opening}
use Rattle.plan.specs.Calls.{Changed}
use Rattle.plan.specs.Calls.{PreviewReply}
use Rattle.plan.specs.declared.HeadroomReply.{HeadroomReply}
use Rattle.plan.specs.Calls.{Written}
use Rattle.plan.specs.Numbers.{change_table, undo_table, node_table, preview_table, flow_table, headroom_table, write_table}

-- ---- change
count_most : (p : Plan) (e k c : ℕ) (stack : Stack)
    → (accepted e (altered p k c stack) (unaltered p)).count ≤ p.network.nodes - 1
unfolding altered
count_most p zero k c stack = rebuilt_most p.network p.steps k c
count_most p (suc e) k c stack = omega arith

module _ (p : Plan) (k c : ℕ) where
  change_is : (change_of p k c).number ≡ change_number p k c
  unfolding change_of altered
  change_is =
      number_kept (λ (r : Changed). r.number) (change_number p k c) (changed p k c) (unaltered p) refl (λ n. refl)

  pub change_numbered : Numbered (change_table p k c end) (change_of p k c).number
  unfolding change_number positive
  change_numbered = numbered (change_table p k c end) change_is refl

  -- refused: the plan as before, the count 0
  pub change_refused : (change_of p k c).number ≢ 0 → ((change_of p k c).plan ≡ p) × ((change_of p k c).count ≡ 0)
  unfolding change_of
  change_refused d =
      let e : change_of p k c ≡ unaltered p (change_number p k c) =
      refused_by (change_number p k c) (changed p k c) (unaltered p) (rw change_is at d) in
      rw e (refl, refl)

  -- "at most n - 1" steps are not kept, of every plan
  pub change_most : (change_of p k c).count ≤ p.network.nodes - 1
  unfolding change_of
  change_most = count_most p (change_number p k c) k c (push p.stack k (at p.network.capacity k))

module _ (p : Plan) where
  undo_is : (undo_of p).number ≡ undo_number p
  unfolding undo_of altered
  undo_is = number_kept (λ (r : Changed). r.number) (undo_number p) (undone p) (unaltered p) refl (λ n. refl)

  pub undo_numbered : Numbered (undo_table p) (undo_of p).number
  unfolding undo_number positive
  undo_numbered = numbered (undo_table p) undo_is refl

  pub undo_refused : (undo_of p).number ≢ 0 → ((undo_of p).plan ≡ p) × ((undo_of p).count ≡ 0)
  unfolding undo_of
  undo_refused d =
      let e : undo_of p ≡ unaltered p (undo_number p) =
      refused_by (undo_number p) (undone p) (unaltered p) (rw undo_is at d) in
      rw e (refl, refl)

  pub undo_most : (undo_of p).count ≤ p.network.nodes - 1
  unfolding undo_of
  undo_most =
      let top = p.stack.depth - 1 in
      count_most p (undo_number p) (at p.stack.link top) (at p.stack.capacity top) (pop p.stack)

module _ (p : Plan) (s t : ℕ) where
  pair_is : number_of (pair_of p s t) ≡ pair_number p s t
  unfolding pair_of answer
  pair_is = number_kept number_of (pair_number p s t) (answer p.tree p.network.nodes s t) Refused refl (λ n. refl)

  pub pair_numbered : Numbered (node_table p s t end) (number_of (pair_of p s t))
  unfolding pair_number positive
  pair_numbered = numbered (node_table p s t end) pair_is refl

  -- refused: nothing but the number
  pub pair_refused : number_of (pair_of p s t) ≢ 0 → pair_of p s t ≡ Refused (number_of (pair_of p s t))
  unfolding pair_of
  pair_refused d =
      refused_by (pair_number p s t) (answer p.tree p.network.nodes s t) Refused (rw pair_is at d)
      ∙ ap Refused (sym pair_is)

module _ (p : Plan) (k c s t : ℕ) where
  preview_number_lem : number_of (preview_of p k c s t).answer ≡ preview_number p k c s t
  unfolding answer
  preview_number_lem =
      ap (λ (r : PreviewReply). number_of r.answer) (preview_is p k c s t)
      ∙ number_kept (λ (r : PreviewReply). number_of r.answer) (preview_number p k c s t) (shown p k c s t) no_preview
      refl (λ n. refl)

  pub preview_numbered : Numbered (preview_table p k c s t) (number_of (preview_of p k c s t).answer)
  unfolding preview_number positive
  preview_numbered = numbered (preview_table p k c s t) preview_number_lem refl

  -- refused: nothing but the number, and the count 0
  pub preview_refused : number_of (preview_of p k c s t).answer ≢ 0
      → preview_of p k c s t ≡ no_preview (number_of (preview_of p k c s t).answer)
  preview_refused d =
      preview_is p k c s t ∙ refused_by (preview_number p k c s t) (shown p k c s t) no_preview (rw preview_number_lem at d)
      ∙ ap no_preview (sym preview_number_lem)

  pub preview_most : (preview_of p k c s t).count ≤ p.network.nodes - 1
  unfolding answer
  preview_most = rw (preview_is p k c s t) (go (preview_number p k c s t))
    where
      go : (e : ℕ) → (accepted e (shown p k c s t) no_preview).count ≤ p.network.nodes - 1
      go zero = rebuilt_most p.network p.steps k c
      go (suc e) = omega arith

module _ (p : Plan) (s t : ℕ) (before : List ℤ) (number : ℕ) (behind : List ℤ)
    (f : Flowed p s t before number behind) where
  pub flow_numbered : Numbered (flow_table p s t (length before)) number
  unfolding flow_number positive
  flow_numbered = numbered (flow_table p s t (length before)) f.number_is refl

  pub flow_refused : number ≢ 0 → behind ≡ before
  flow_refused = f.untouched

module _ (p : Plan) (s t demand : ℕ) where
  pub headroom_is : (headroom_of p s t demand).number ≡ headroom_number p s t demand
  unfolding headroom_of
  headroom_is =
      number_kept (λ (r : HeadroomReply). r.number) (headroom_number p s t demand) _ no_headroom refl (λ n. refl)

  pub headroom_numbered : Numbered (headroom_table p s t demand end) (headroom_of p s t demand).number
  unfolding headroom_number positive
  headroom_numbered = numbered (headroom_table p s t demand end) headroom_is refl

  -- refused: 0, with twelve spaces
  pub headroom_refused : (headroom_of p s t demand).number ≢ 0
      → ((headroom_of p s t demand).value ≡ pos 0) × ((headroom_of p s t demand).text ≡ replicate text_width 32)
  unfolding headroom_of
  headroom_refused d =
      let e : headroom_of p s t demand ≡ no_headroom (headroom_number p s t demand) =
      refused_by (headroom_number p s t demand) _ no_headroom (rw headroom_is at d) in
      rw e (refl, refl)

module _ (p : Plan) (buffer : List ℕ) where
  write_is : (write_of p (length buffer)).number ≡ write_number p (length buffer)
  unfolding write_of
  write_is = number_kept (λ (r : Written). r.number) (write_number p (length buffer)) _ not_written refl (λ n. refl)

  pub write_numbered : Numbered (write_table p (length buffer)) (write_of p (length buffer)).number
  unfolding write_number positive
  write_numbered = numbered (write_table p (length buffer)) write_is refl

  -- refused: length 0, the buffer as before
  pub write_refused : (write_of p (length buffer)).number ≢ 0
      → ((write_of p (length buffer)).length ≡ 0) × (written_to p buffer ≡ buffer)
  unfolding write_of written_to
  write_refused d =
      let n = write_number p (length buffer) in
      let e : write_of p (length buffer) ≡ not_written n = refused_by n _ not_written (rw write_is at d) in
      (ap (λ (w : Written). w.length) e, refused_by n _ (λ e. buffer) (rw write_is at d))

  -- accepted: the buffer's first bytes are the file, the rest is left, and the length is the file's
  pub write_fills : (write_of p (length buffer)).number ≡ 0
      → ((write_of p (length buffer)).length ≡ length (file_of p.network))
      × (written_to p buffer ≡ file_of p.network ++ drop (length (file_of p.network)) buffer)
  unfolding write_of written_to
  write_fills z =
      let file = file_of p.network in
      let q : write_number p (length buffer) ≡ 0 = sym write_is ∙ z in
      let e : 0 + length file ≡ length file = omega arith in
      let long : length file ≤ length buffer = (write_numbered.accepted.0 z).1 in
      rw q (refl, sets-eq file buffer 0 (omega arith) ∙ ap (λ (n : ℕ). file ++ drop n buffer) e)

-- ---- opening: reading's number and place; beside a refusal the plan is all zeros, and an accepted file has place 0
module _ (file : List ℕ) where
  pub opening_number : (open_of file).number ≡ (read_file file).number
  unfolding open_of
  opening_number =
      number_kept (λ (r : Opening). r.number) (read_file file).number _ (not_opened (read_file file).place) refl
      (λ n. refl)

  pub opening_refused : (open_of file).number ≢ 0
      → ((open_of file).place ≡ (read_file file).place) × ((open_of file).plan ≡ no_plan)
  unfolding open_of
  opening_refused d =
      let r : ℕ → Opening = not_opened (read_file file).place in
      let e : open_of file ≡ r (read_file file).number =
      refused_by (read_file file).number _ r (rw opening_number at d) in
      (ap (λ (o : Opening). o.place) e, ap (λ (o : Opening). o.plan) e)

  pub opening_accepted : (open_of file).number ≡ 0
      → ((open_of file).place ≡ 0) × ((open_of file).plan ≡ fresh (read_file file).network)
  unfolding open_of
  opening_accepted z =
      let q : (read_file file).number ≡ 0 = sym opening_number ∙ z in
      let whole : Opening = record { number = 0; place = 0; plan = fresh (read_file file).network } in
      let e : open_of file ≡ whole = ap (λ (n : ℕ). accepted n whole (not_opened (read_file file).place)) q in
      (ap (λ (o : Opening). o.place) e, ap (λ (o : Opening). o.plan) e)

  -- numbers 1 to 9: the file has a fault of that number at that place exactly when opening gives both
  pub opening_fault : (e place : ℕ) → Fault file e place
      ↔ ((e ≢ 0) × ((open_of file).number ≡ e) × ((open_of file).place ≡ place) × ((open_of file).plan ≡ no_plan))
  opening_fault e place = (there, back)
    where
      there : Fault file e place
          → (e ≢ 0) × ((open_of file).number ≡ e) × ((open_of file).place ≡ place) × ((open_of file).plan ≡ no_plan)
      there f =
          let d : e ≢ 0 = omega (arith, (refusals.numbers file e place f).0) in
          let n : (open_of file).number ≡ e = opening_number ∙ (refusals.only file e place f).0 in
          let r = opening_refused (λ z. d (sym n ∙ z)) in
          (d, n, r.0 ∙ (refusals.only file e place f).1, r.1)

      back : (e ≢ 0) × ((open_of file).number ≡ e) × ((open_of file).place ≡ place) × ((open_of file).plan ≡ no_plan)
          → Fault file e place
      back (d, n, q, z) =
          let m : (read_file file).number ≡ e = sym opening_number ∙ n in
          let l : (read_file file).place ≡ place = sym (opening_refused (λ z. d (sym n ∙ z))).0 ∙ q in
          subst₂ (Fault file) m l (refusals.given file (λ z. d (sym m ∙ z)))
