-- Laws of the links one by one: which list they are, and its sums.
use Rattle.std.specs.Prelude.{◌≡◌, true, Some, None, List, [], ◌∷◌, ℕ, zero, suc, ◌+◌, ◌-◌, ◌<◌, ◌≤◌, length, map, ⊤}
use Rattle.std.specs.Fn.{Called}
use Rattle.std.specs.List.{fold, sum_by}
use Rattle.std.specs.Iterator.{Drains}
use Rattle.std.specs.Iterator.Runs.{EachRunFrom}
use Rattle.std.specs.Iterator.Adapters.{map_source, map_callee, enumerate_steps}
use Rattle.std.specs.declared.iter.Enumerate.{Enumerate}
use Rattle.std.specs.declared.iter.Map.{Map}
use Rattle.std.proofs.Common.{ap, ◌∙◌, arith}
use Rattle.std.proofs.lemmas.Iterator.{YieldsList, YieldsList-from_map, maps}
use Rattle.std.proofs.lemmas.Iterator.Consumers.{YieldsList-at, YieldsList-from_shown, fits_by_from_yields_list, sum_by_from_yields_List}
use denote.Param.Members.{Mut}
use Rattle.base.specs.Basics.{at}
use Rattle.base.specs.Sum.{sum}
use Rattle.min_cut.specs.Cut.{Side, crossing, cut_value}
use Rattle.network.specs.Network.{network_fits, value_of}
use Rattle.network.specs.code.Links.{link_of, IsLink, TakesLink}
use Rattle.network.specs.declared.Network.{Network}
use Rattle.network.specs.declared.link.Link.{Link}
use Rattle.network.specs.declared.links.Links.{Links}
use Rattle.network.specs.declared.valid.ValidNetwork.{ValidNetwork}
use Rattle.network.proofs.laws.NetworkLaws.{link_places, capacity_le}

-- a link of a network within the limits
pub is_link : (net : Network) (k : ℕ) (l : Link) → network_fits net ≡ true → k < net.links → l.a ≡ at net.a k
    → l.b ≡ at net.b k → l.capacity ≡ at net.capacity k → IsLink net k l
is_link net k l e some a b capacity =
    let p = link_places net e k some in
    record {
      same = λ i. record { a = a i; b = b i; capacity = capacity i };
      some = some;
      place = p.0;
      a = rw a p.1;
      b = rw b p.2;
      capacity = rw capacity (capacity_le net e k some);
    }

-- ---- a loop over the links: those of `net` that `links` has not given yet are still to come
pub record Gives (net : ValidNetwork) (links : Links) : Type 0 where
  pub of : links.net.now ≡ net
  pub some : links.come ≤ net.network.links

pub gives_all : {net : ValidNetwork} {s : Links} → s.net.now ≡ net → s.come ≡ 0 → Gives net s
gives_all e z = record { of = e; some = omega arith }

module _ {net : ValidNetwork} {s : Links} (g : Gives net s) where
  pub gives_one : {t : Links} {l : Link} → TakesLink s (Some l) t → IsLink net.network s.come l × Gives net t
  gives_one h =
      let link : IsLink net.network s.come _ = rw g.of at h.0 in
      (link, record { of = ap (λ r. r.now) h.1 ∙ g.of; some = omega (arith, link.some, h.2) })

-- ---- the same, with the links counted
pub record Numbered (net : ValidNetwork) (links : Enumerate Links) : Type 0 where
  pub given : Gives net links.iter
  pub number : links.count ≡ links.iter.come

-- what such a loop finds in a turn: link k, whose number is k
pub record Turn (net : ValidNetwork) (before : Enumerate Links) (k : ℕ) (link : Link) (behind : Enumerate Links) : Type 0 where
  pub place : k ≡ before.iter.come
  pub is : IsLink net.network before.iter.come link
  pub come : behind.iter.come ≡ before.iter.come + 1
  pub next : Numbered net behind

pub turns : {net : ValidNetwork} {s t : Enumerate Links} {k : ℕ} {l : Link} → Numbered net s
    → enumerate_steps TakesLink s (Some (k, l)) t → Turn net s k l t
turns o turn =
    let g = gives_one o.given turn.0 in
    record {
      place = turn.1 ∙ o.number;
      is = g.0;
      come = turn.0.2;
      next = record { given = g.1; number = omega (arith, turn, o.number) };
    }

-- ---- the links as a list
-- n links from link k on
unfoldable pub links_from : Network → ℕ → ℕ → List Link
links_from net k zero = []
links_from net k (suc n) = link_of net k ∷ links_from net (suc k) n

-- those still to come
abbrev pub links_left : Links → List Link
links_left s = links_from s.net.now.network s.come (s.net.now.network.links - s.come)

none_left : (s t : Links) → TakesLink s None t → length (links_left s) ≡ 0
unfolding links_from
none_left s t h = let e : s.net.now.network.links - s.come ≡ 0 = omega (arith, h.0) in rw e

one_less : (s : Links) (l : Link) (t : Links) → TakesLink s (Some l) t → links_left s ≡ l ∷ links_left t
unfolding links_from
one_less s l t h =
    let net = s.net.now.network in
    let e : net.links - s.come ≡ suc (net.links - suc s.come) = omega (arith, h.0.some) in
    let come : t.come ≡ suc s.come = omega (arith, h.2) in
    rw (e, h.0.same, h.1, come)

abbrev pub links_of : Network → List Link
links_of net = links_from net 0 net.links

-- the links of a network come in this order, from the first on
pub links_come : {s : Links} (v : ValidNetwork) → s.net.now ≡ v → s.come ≡ 0
    → YieldsList TakesLink (λ l. l) s (links_of v.network)
links_come {s} v e z =
    let all : links_left s ≡ links_of v.network = rw (e, z) (ap (links_from v.network 0) (omega arith)) in
    rw all at (YieldsList-from_shown TakesLink (λ l. l) links_left none_left one_less s)

-- ---- what a closure gives for each, added up as an iterator does
module _ {F : Type 0} (g : Mut F (Link × Unit {0}) ℕ) {f : F} {s : Links} {t : Map Links F} (gives : Link → ℕ) (v : ValidNetwork)
    (of : s.net.now ≡ v) (first : s.come ≡ 0) (source : map_source t ≡ s) (closure : map_callee t ≡ f)
    (each : (l : Link) (r : ℕ) (q : F) → Called g f (l, tt) r q → (q ≡ f) × (r ≡ gives l)) where
  given_come : YieldsList (maps TakesLink g) (λ r. r) t (map gives (links_of v.network))
  given_come = YieldsList-from_map g gives (YieldsList-at source (links_come v of first)) closure each

  pub links_sum : (r : ℕ) → (xs : List ℕ) × (⊤ → Drains (maps TakesLink g) t xs) × (r ≡ fold (λ a x. a + x) 0 xs)
      → r ≡ sum_by gives (links_of v.network)
  links_sum r ran = sum_by_from_yields_List gives (links_of v.network) t r ran given_come

  pub links_sum_fits : (top : ℕ) → sum_by gives (links_of v.network) < top
      → EachRunFrom (maps TakesLink g) t (λ p. fold (λ a x. a + x) 0 p.items < top)
  links_sum_fits top = fits_by_from_yields_list gives (links_of v.network) t top given_come

-- ---- what links give, added up
module _ (net : Network) (f : Link → ℕ) where
  -- of the first k links
  abbrev given : ℕ → ℕ
  given k = sum k (λ i. f (link_of net i))

  sum_on : (k n : ℕ) → fold (λ a l. a + f l) (given k) (links_from net k n) ≡ given (k + n)
  unfolding links_from sum
  sum_on k zero = ap given (omega arith)
  sum_on k (suc n) = sum_on (suc k) n ∙ ap given (omega arith)

  pub sum_links : sum_by f (links_of net) ≡ sum net.links (λ i. f (link_of net i))
  unfolding sum
  sum_links = sum_on 0 net.links ∙ ap given (omega arith)

-- what they give to the value of a side
pub value_links : (net : Network) (X : Side)
    → sum_by (λ l. crossing (X l.a) (X l.b) l.capacity) (links_of net) ≡ value_of net X
unfolding cut_value
value_links net X = sum_links net (λ l. crossing (X l.a) (X l.b) l.capacity)
