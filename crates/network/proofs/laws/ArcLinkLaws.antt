-- Laws of an arc, or none, in two bytes.
use Rattle.std.proofs.Common.{◌≡◌, ℕ, suc, ◌<◌, Option, None, Some, sym, ap, lt-ltb}
use Rattle.network.specs.Limits.{max_arcs}
use Rattle.network.specs.code.ArcLinks.{arc_of, link_to, entry}

pub entry_to : (j : ℕ) → j < max_arcs → entry (arc_of (link_to j)) ≡ suc j
unfolding entry
entry_to j l = rw (lt-ltb j max_arcs l)

pub entry_some : {arc : Option ℕ} {j : ℕ} → Some j ≡ arc → entry arc ≡ suc j
unfolding entry
entry_some e = ap entry (sym e)

pub entry_none : {arc : Option ℕ} → None ≡ arc → entry arc ≡ 0
unfolding entry
entry_none e = ap entry (sym e)
