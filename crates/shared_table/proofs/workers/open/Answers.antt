use Rattle.std.proofs.Common.{rules, arith, ◌≡◌, ℕ, ◌+◌, ◌∷◌, ◌++◌, [], List, map, length, sym, ap, ◌∙◌, subst, refl, append-nil, length-append}
use Rattle.std.specs.Vec.Iter.{into_iter_items}
use Rattle.shared_table.specs.declared.workers.Part.{Part}
use Rattle.shared_table.specs.Steps.{Mine}
use Rattle.shared_table.specs.Rounds.{splits_from, worker_of, Grown, AreOpened}
use Rattle.shared_table.proofs.Rounding.{no_items, splits_more, still_opener, grown_more, left_more, none_left, as_many, opened_more, opened_none}
use Rattle.shared_table.proofs.workers.open.Goals as goal

pub loop-worker-init : goal.loop-worker-init
loop-worker-init g c =
    let none : length c.args.parts.items ≡ 0 = search rules in
    record {
      opener = c.requires.opener;
      own = sym (append-nil c.args.seat.now.me.0.log) ∙ ap (λ (n : ℕ). c.args.seat.now.me.0.log ++ splits_from (length c.args.seat.now.me.0.logs) n) (sym none);
      logs = (omega arith, λ i l. refl);
      room = search rules;
      left = ap (λ (ps : List (Part g.row.W.Denot)). map worker_of ps ++ into_iter_items c.into_iter-worker-iterator.result) (no_items c.args.parts.items none) ∙ c.into_iter-worker-iterator.ensures.into_iter_gives.0;
      parts = opened_none _ _ _ none;
    }

pub push_reserved-requires : goal.push_reserved-requires
push_reserved-requires g c =
    let inv = c.loop-worker.invariant in
    let step = ap (λ (l : List g.row.W.Denot). length l) c.in-Some.ensures.steps.0 in
    let all = ap (λ (l : List g.row.W.Denot). length l) inv.left in
    let room = inv.room in
    let many = as_many c.loop-worker.parts.items in
    let ok = c.loop-worker.parts.ok in
    let ok2 = c.args.workers.ok in
    omega (arith, length-append (map worker_of c.loop-worker.parts.items) (into_iter_items c.loop-worker.worker-iterator))

pub loop-worker-preserved : goal.loop-worker-preserved
loop-worker-preserved g c =
    let inv = c.loop-worker.invariant in
    let ps : List (Part g.row.W.Denot) = c.loop-worker.parts.items in
    let p : Part g.row.W.Denot = record { seat = c.split-new.result; worker = c.in-Some.worker } in
    let pushed : c.push_reserved.new.self.items ≡ ps ++ p ∷ [] = c.push_reserved.ensures.items in
    let e = c.split-new.ensures.log in
    let m : ℕ = length c.args.seat.now.me.0.logs in
    let count : length c.push_reserved.new.self.items ≡ length ps + 1 = ap (λ (l : List (Part g.row.W.Denot)). length l) pushed ∙ length-append ps (p ∷ []) in
    record {
      opener = still_opener _ _ _ _ inv.opener c.split-new.ensures.own e refl refl;
      own = splits_more m (length ps) (length c.loop-worker.seat.me.0.logs) (length c.push_reserved.new.self.items) _ _ _ inv.own (ap (λ (z : Mine). z.0.log) e) inv.logs.0 count;
      logs = subst (λ (n : ℕ). Grown n c.args.seat.now.me.0 c.split-new.new.seat.me.0) (sym count) (grown_more (length ps) c.args.seat.now.me.0 c.loop-worker.seat.me.0 c.split-new.new.seat.me.0 inv.logs (ap (λ (z : Mine). z.0.logs) e));
      room = search rules;
      left = ap (λ (l : List (Part g.row.W.Denot)). map worker_of l ++ into_iter_items c.next.new.self) pushed ∙ left_more ps p _ _ _ c.in-Some.ensures.steps.0 inv.left;
      parts = subst (λ (l : List (Part g.row.W.Denot)). AreOpened c.args.shared.now m (map worker_of l) l) (sym pushed) (opened_more _ _ ps p c.loop-worker.seat.me.0 inv.parts c.split-new.ensures.new.0 c.split-new.ensures.new.1 inv.logs.0);
    }

pub returns : goal.returns
returns g c =
    let inv = c.loop-worker.invariant in
    let ps : List (Part g.row.W.Denot) = c.loop-worker.parts.items in
    let all : map worker_of ps ≡ c.args.workers.items = none_left ps _ _ inv.left (sym c.loop-worker.worker-iterator.rest.ok.0 ∙ c.in-None.ensures.steps.0) in
    let count : length ps ≡ length c.args.workers.items = sym (as_many ps) ∙ ap (λ (l : List g.row.W.Denot). length l) all in
    record {
      opener = inv.opener;
      own = inv.own ∙ ap (λ (n : ℕ). c.args.seat.now.me.0.log ++ splits_from (length c.args.seat.now.me.0.logs) n) (count ∙ search rules);
      logs = subst (λ (n : ℕ). Grown n c.args.seat.now.me.0 c.loop-worker.seat.me.0) (count ∙ search rules) inv.logs;
      parts = subst (λ (l : List g.row.W.Denot). AreOpened c.args.shared.now (length c.args.seat.now.me.0.logs) l ps) all inv.parts;
    }
