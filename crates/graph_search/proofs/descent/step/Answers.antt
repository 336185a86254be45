use Rattle.std.proofs.Common.{◌≡◌, ℕ, ◌+◌, ◌-◌, ◌<◌, ◌≤◌, ◌++◌, ◌∷◌, [], List, Bool, length, set, get_or, true, false, sym, ap, ◌∙◌, subst, arith}
use Rattle.std.proofs.lemmas.List.{get_or_read, get_or-set_same, length_push}
use Rattle.std.proofs.lemmas.List.Elements.{All-contains}
use Rattle.graph_search.specs.declared.graph.Link.{Link}
use Rattle.graph_search.specs.declared.graph.Graph.{Graph}
use Rattle.graph_search.specs.Graphs.{IsGraph, IsWithin}
use Rattle.graph_search.specs.Searches.{at}
use Rattle.graph_search.specs.Knots.{IsReached}
use Rattle.graph_search.specs.Descents.{flag, end_at, IsDescent}
use Rattle.graph_search.proofs.ReachLaws.{reached-link}
use Rattle.graph_search.proofs.DescentLaws.{last_inside, place_link, mark-one, descent-pass, descent-on, descent-back, leads-on}
use Rattle.graph_search.proofs.descent.step.Goals as goal

-- what is known once the node's links are passed up to a place
record IsAt (g : Graph) (seen : List Bool) (next way done : List ℕ) (node first end place : ℕ) : Type 0 where
  inside : node < length seen
  small : node < g.starts.len - 1
  last : end ≡ at g.starts.items (node + 1)
  from : first ≡ at next node
  low : at g.starts.items node ≤ first
  high : first ≤ end
  bound : end ≤ length g.links.items

is_at : (g : Graph) (seen : List Bool) (next way done : List ℕ) (node first end place : ℕ) → IsGraph (g.starts.len - 1) g →
    IsDescent g.links.items g.starts.items seen next (way ++ node ∷ []) done → end ≡ get_or g.starts.items (node + 1) end →
    first ≡ get_or next node first → IsAt g seen next way done node first end place
is_at g seen next way done node first end place graph d e f =
    let inside = last_inside g.links.items g.starts.items seen next way done node d in
    let last : end ≡ at g.starts.items (node + 1) = get_or_read g.starts.items (node + 1) end (omega (arith, d.size)) e 0 in
    let from : first ≡ at next node = get_or_read next node first (omega (arith, d.size, d.places)) f 0 in
    let small : node < g.starts.len - 1 = omega (arith, d.size, g.starts.ok.0) in
    record {
      inside = inside;
      small = small;
      last = last;
      from = from;
      low = omega (arith, (d.bounds node inside).0);
      high = omega (arith, (d.bounds node inside).1);
      bound = omega (arith, graph.starts.within (node + 1) (omega arith));
    }

passed : (g : Graph) (seen : List Bool) (next way done : List ℕ) (node first end place : ℕ) → IsAt g seen next way done node first end place →
    IsDescent g.links.items g.starts.items seen next (way ++ node ∷ []) done → first ≤ place → place ≤ end →
    ((k : ℕ) → first ≤ k → k < place → flag seen (end_at g.links.items k) ≡ true) →
    IsDescent g.links.items g.starts.items seen (set next node place) (way ++ node ∷ []) done
passed g seen next way done node first end place a d up to pass =
    descent-pass g.links.items g.starts.items seen next (way ++ node ∷ []) done node place d a.inside (omega (arith, a.from)) (omega (arith, a.last))
    (λ k low high. pass k (omega (arith, a.from)) high)

back : (g : Graph) (seen : List Bool) (next way done : List ℕ) (node first end place : ℕ) → IsAt g seen next way done node first end place →
    IsGraph (g.starts.len - 1) g → place ≡ end → node < length next →
    IsDescent g.links.items g.starts.items seen (set next node place) (way ++ node ∷ []) done →
    IsDescent g.links.items g.starts.items seen (set next node place) way (done ++ node ∷ [])
back g seen next way done node first end place a graph same inner d =
    descent-back (g.starts.len - 1) g.links.items g.starts.items seen (set next node place) way done node graph.starts d
    (get_or-set_same next node place 0 inner ∙ (same ∙ a.last))

-- a link of the node at the place
target : (g : Graph) (seen : List Bool) (next way done : List ℕ) (node first end place : ℕ) → IsAt g seen next way done node first end place →
    IsGraph (g.starts.len - 1) g → first ≤ place → place < end → IsDescent g.links.items g.starts.items seen next (way ++ node ∷ []) done →
    (end_at g.links.items place < length seen) × IsReached g.links.items node (end_at g.links.items place)
target g seen next way done node first end place a graph up less d =
    let links = g.links.items in
    let l = place_link (g.starts.len - 1) node place links g.starts.items graph.starts a.small (omega (arith, a.low)) (omega (arith, a.last)) in
    let within : IsWithin (g.starts.len - 1) l.0 = All-contains (IsWithin (g.starts.len - 1)) links l.0 graph.within l.1 in
    (omega (arith, within.to, l.3, d.size, g.starts.ok.0), reached-link links l.0 node (end_at links place) l.1 l.2 l.3)

on : (g : Graph) (seen : List Bool) (next way done : List ℕ) (node first end place : ℕ) → IsAt g seen next way done node first end place →
    IsGraph (g.starts.len - 1) g → first ≤ place → place < end → flag seen (end_at g.links.items place) ≡ false →
    IsDescent g.links.items g.starts.items seen (set next node place) (way ++ node ∷ []) done →
    IsDescent g.links.items g.starts.items (set seen (end_at g.links.items place) true) (set next node place)
    ((way ++ node ∷ []) ++ end_at g.links.items place ∷ []) done
on g seen next way done node first end place a graph up less free d =
    let links = g.links.items in
    let w = end_at links place in
    let l = place_link (g.starts.len - 1) node place links g.starts.items graph.starts a.small (omega (arith, a.low)) (omega (arith, a.last)) in
    let within : IsWithin (g.starts.len - 1) l.0 = All-contains (IsWithin (g.starts.len - 1)) links l.0 graph.within l.1 in
    descent-on links g.starts.items seen (set next node place) (way ++ node ∷ []) done w d (omega (arith, within.to, l.3, d.size, g.starts.ok.0)) free
    (leads-on links g.starts.items seen (set next node place) way done node w d (reached-link links l.0 node w l.1 l.2 l.3))

pub overflow_add-node : goal.overflow_add-node
overflow_add-node c =
    let g = c.args.graph.now in
    let d = c.requires.descent in
    let inside = last_inside g.links.items g.starts.items c.args.seen.now.items c.args.next.now.items c.args.way.now.items c.args.done.now.items
    c.args.node d in
    omega (arith, inside, d.size, g.starts.ok.0, g.starts.small)

pub index-end-requires : goal.index-end-requires
index-end-requires c =
    let g = c.args.graph.now in
    let d = c.requires.descent in
    let inside = last_inside g.links.items g.starts.items c.args.seen.now.items c.args.next.now.items c.args.way.now.items c.args.done.now.items
    c.args.node d in
    omega (arith, inside, d.size, g.starts.ok.0)

pub index-requires : goal.index-requires
index-requires c =
    let g = c.args.graph.now in
    let d = c.requires.descent in
    let inside = last_inside g.links.items g.starts.items c.args.seen.now.items c.args.next.now.items c.args.way.now.items c.args.done.now.items
    c.args.node d in
    omega (arith, inside, d.size, d.places, c.args.next.now.ok.0)

pub first_unseen-place-requires-clause-order : goal.first_unseen-place-requires-clause-order
first_unseen-place-requires-clause-order c =
    (is_at c.args.graph.now c.args.seen.now.items c.args.next.now.items c.args.way.now.items c.args.done.now.items c.args.node c.index.result.now
    c.index-end.result.now 0 c.requires.graph c.requires.descent c.index-end.ensures c.index.ensures).high

pub first_unseen-place-requires-clause-end : goal.first_unseen-place-requires-clause-end
first_unseen-place-requires-clause-end c =
    let a = is_at c.args.graph.now c.args.seen.now.items c.args.next.now.items c.args.way.now.items c.args.done.now.items c.args.node c.index.result.now
    c.index-end.result.now 0 c.requires.graph c.requires.descent c.index-end.ensures c.index.ensures in
    omega (arith, a.bound, ap (length {A = Link}) c.deref-2.ensures.value)

pub index_mut-requires : goal.index_mut-requires
index_mut-requires c =
    let g = c.args.graph.now in
    let d = c.requires.descent in
    let inside = last_inside g.links.items g.starts.items c.args.seen.now.items c.args.next.now.items c.args.way.now.items c.args.done.now.items
    c.args.node d in
    omega (arith, inside, d.size, d.places, c.args.next.now.ok.0)

pub returns-then-place-end-clause-descent : goal.returns-then-place-end-clause-descent
returns-then-place-end-clause-descent c =
    let g = c.args.graph.now in
    let seen = c.args.seen.now.items in
    let next = c.args.next.now.items in
    let way = c.args.way.now.items in
    let done = c.args.done.now.items in
    let node = c.args.node in
    let first = c.index.result.now in
    let end = c.index-end.result.now in
    let place = c.first_unseen-place.result in
    let d = c.requires.descent in
    let a = is_at g seen next way done node first end place c.requires.graph d c.index-end.ensures c.index.ensures in
    let pass = rw (c.deref.ensures.value, c.deref-2.ensures.value) at c.first_unseen-place.ensures.passed in
    let p = passed g seen next way done node first end place a d c.first_unseen-place.ensures.from c.first_unseen-place.ensures.bound pass in
    subst (λ (xs : List ℕ). IsDescent g.links.items g.starts.items seen (set next node place) way xs) (sym c.in_ok-push.ensures.items)
    (back g seen next way done node first end place a c.requires.graph c.if-place-end.true (omega (arith, a.inside, d.size, d.places)) p)

pub index-requires-2 : goal.index-requires-2
index-requires-2 c =
    let g = c.args.graph.now in
    let a = is_at g c.args.seen.now.items c.args.next.now.items c.args.way.now.items c.args.done.now.items c.args.node c.index.result.now
    c.index-end.result.now 0 c.requires.graph c.requires.descent c.index-end.ensures c.index.ensures in
    omega (arith, a.bound, c.first_unseen-place.ensures.bound, c.if-place-end.false, g.links.ok.0)

-- the node to which the link leads
went : (g : Graph) (k : ℕ) (l : Link) → l ≡ get_or g.links.items k l → k < length g.links.items → l.to ≡ end_at g.links.items k
went g k l e inside = ap (λ (m : Link). m.to) (get_or_read g.links.items k l inside e (record { from = 0; to = 0 }))

pub index_mut-requires-2 : goal.index_mut-requires-2
index_mut-requires-2 c =
    let g = c.args.graph.now in
    let seen = c.args.seen.now.items in
    let next = c.args.next.now.items in
    let way = c.args.way.now.items in
    let done = c.args.done.now.items in
    let node = c.args.node in
    let first = c.index.result.now in
    let end = c.index-end.result.now in
    let place = c.first_unseen-place.result in
    let d = c.requires.descent in
    let a = is_at g seen next way done node first end place c.requires.graph d c.index-end.ensures c.index.ensures in
    let less : place < end = omega (arith, c.first_unseen-place.ensures.bound, c.if-place-end.false) in
    let to = went g place c.index-2.result.now c.index-2.ensures (omega (arith, a.bound)) in
    omega (arith, to, (target g seen next way done node first end place a c.requires.graph c.first_unseen-place.ensures.from less d).0, c.args.seen.now.ok.0)

pub returns-clause-descent : goal.returns-clause-descent
returns-clause-descent c =
    let g = c.args.graph.now in
    let seen = c.args.seen.now.items in
    let next = c.args.next.now.items in
    let way = c.args.way.now.items in
    let done = c.args.done.now.items in
    let node = c.args.node in
    let first = c.index.result.now in
    let end = c.index-end.result.now in
    let place = c.first_unseen-place.result in
    let d = c.requires.descent in
    let a = is_at g seen next way done node first end place c.requires.graph d c.index-end.ensures c.index.ensures in
    let less : place < end = omega (arith, c.first_unseen-place.ensures.bound, c.if-place-end.false) in
    let to = went g place c.index-2.result.now c.index-2.ensures (omega (arith, a.bound)) in
    let pass = rw (c.deref.ensures.value, c.deref-2.ensures.value) at c.first_unseen-place.ensures.passed in
    let free = rw (c.deref.ensures.value, c.deref-2.ensures.value) at (c.first_unseen-place.ensures.unseen less) in
    let p = passed g seen next way done node first end place a d c.first_unseen-place.ensures.from c.first_unseen-place.ensures.bound pass in
    let items : c.push-3.new.self.items ≡ (way ++ node ∷ []) ++ c.index-2.result.now.to ∷ [] =
    c.in_ok-push-3.ensures.items ∙ ap (λ (xs : List ℕ). xs ++ c.index-2.result.now.to ∷ []) c.in_ok-push-2.ensures.items in
    subst (λ (xs : List ℕ). IsDescent g.links.items g.starts.items (set seen c.index-2.result.now.to true) (set next node place) xs done) (sym items)
    (subst (λ (w : ℕ). IsDescent g.links.items g.starts.items (set seen w true) (set next node place) ((way ++ node ∷ []) ++ w ∷ []) done) (sym to)
    (on g seen next way done node first end place a c.requires.graph c.first_unseen-place.ensures.from less free p))

pub returns-clause-less : goal.returns-clause-less
returns-clause-less c =
    let g = c.args.graph.now in
    let seen = c.args.seen.now.items in
    let next = c.args.next.now.items in
    let way = c.args.way.now.items in
    let done = c.args.done.now.items in
    let node = c.args.node in
    let first = c.index.result.now in
    let end = c.index-end.result.now in
    let place = c.first_unseen-place.result in
    let d = c.requires.descent in
    let w = c.index-2.result.now.to in
    let a = is_at g seen next way done node first end place c.requires.graph d c.index-end.ensures c.index.ensures in
    let less : place < end = omega (arith, c.first_unseen-place.ensures.bound, c.if-place-end.false) in
    let to = went g place c.index-2.result.now c.index-2.ensures (omega (arith, a.bound)) in
    let free = rw (c.deref.ensures.value, c.deref-2.ensures.value) at (c.first_unseen-place.ensures.unseen less) in
    let free' : flag seen w ≡ false = ap (flag seen) to ∙ free in
    let inside : w < length seen =
    omega (arith, to, (target g seen next way done node first end place a c.requires.graph c.first_unseen-place.ensures.from less d).0) in
    let long : length c.push-3.new.self.items ≡ length way + 1 + 1 =
    ap (length {A = ℕ}) c.in_ok-push-3.ensures.items ∙ (length_push c.push-2.new.self.items w ∙ ap (λ (n : ℕ). n + 1)
    (ap (length {A = ℕ}) c.in_ok-push-2.ensures.items ∙ length_push way node)) in
    let one = mark-one seen w inside free' in
    omega (arith, one, long)
