use Rattle.std.proofs.Common.{rules, arith, ◌≡◌, ℕ, ◌+◌, ◌-◌, ◌∷◌, ◌++◌, [], List, map, take, drop, length, sym, ap, ◌∙◌, subst, refl, append-nil, length-append, vec_len}
use Rattle.std.specs.Vec.Iter.{into_iter_items}
use Rattle.shared_table.specs.declared.workers.Part.{Part}
use Rattle.shared_table.specs.Steps.{Mine}
use Rattle.shared_table.specs.Rounds.{joins_from, worker_of, number}
use Rattle.shared_table.proofs.Rounding.{no_items, joins_more, still_opener, drop_step, drop_none, take_all, map_snoc, logs_more}
use Rattle.shared_table.proofs.workers.join_all.Goals as goal

pub loop-part-init : goal.loop-part-init
loop-part-init g c =
    let none : length c.args.workers.items ≡ 0 = search rules in
    let empty = no_items c.args.workers.items none in
    record {
      opener = c.requires.opener;
      fewer = omega arith;
      room = c.requires.room.1;
      rest = c.into_iter-part-iterator.ensures.into_iter_gives.0 ∙ ap (λ (n : ℕ). drop n c.args.parts.items) (sym none);
      workers = empty ∙ ap (λ (n : ℕ). map worker_of (take n c.args.parts.items)) (sym none);
      own = sym (append-nil c.args.seat.now.me.0.log) ∙ ap (λ (n : ℕ). c.args.seat.now.me.0.log ++ joins_from (length c.args.seat.now.me.0.logs - vec_len c.args.parts) n) (sym none);
      len = refl;
      old = λ i l. refl;
      done = λ i d l. absurd (omega arith);
    }

pub push_reserved-requires : goal.push_reserved-requires
push_reserved-requires g c =
    let inv = c.loop-part.invariant in
    let step = drop_step c.args.parts.items (length c.loop-part.workers.items) c.in-Some.part (into_iter_items c.next.new.self) (sym inv.rest ∙ c.in-Some.ensures.steps.0) in
    let room = inv.room in
    let below = step.0 in
    let ok = c.loop-part.workers.ok in
    let ok2 = c.args.parts.ok in
    omega arith

pub loop-part-preserved : goal.loop-part-preserved
loop-part-preserved g c =
    let inv = c.loop-part.invariant in
    let ps : List (Part g.row.W.Denot) = c.args.parts.items in
    let ws : List g.row.W.Denot = c.loop-part.workers.items in
    let i : ℕ = length ws in
    let p : Part g.row.W.Denot = c.in-Some.part in
    let v = c.args.seat.now.me.0 in
    let m : ℕ = length v.logs - vec_len c.args.parts in
    let step = drop_step ps i p (into_iter_items c.next.new.self) (sym inv.rest ∙ c.in-Some.ensures.steps.0) in
    let below = step.0 in
    let e = c.join.ensures.log in
    let pushed : c.push_reserved.new.self.items ≡ ws ++ p.worker ∷ [] = c.push_reserved.ensures.items in
    let count : length c.push_reserved.new.self.items ≡ i + 1 = ap (λ (l : List g.row.W.Denot). length l) pushed ∙ length-append ws (p.worker ∷ []) in
    let enough = c.requires.parts.0 in
    let ok = c.args.parts.ok in
    let whole : m + length ps ≡ length v.logs = omega arith in
    let num : number p ≡ m + i = subst (λ (q : Part g.row.W.Denot). number q ≡ m + i) (step.1 p) (c.requires.parts.1 i p below).2 in
    let more = logs_more m i ps p v c.loop-part.seat.me.0 c.join.new.seat.me.0 whole below step.1 num (ap (λ (z : Mine). z.0.logs) e) inv.len inv.old inv.done in
    record {
      opener = still_opener _ _ _ _ inv.opener c.join.ensures.own e refl refl;
      fewer = omega arith;
      room = search rules;
      rest = sym step.2 ∙ ap (λ (n : ℕ). drop n ps) (sym count);
      workers = pushed ∙ (ap (λ (l : List g.row.W.Denot). l ++ p.worker ∷ []) inv.workers ∙ (sym (map_snoc (take i ps) p) ∙ (ap (λ (l : List (Part g.row.W.Denot)). map worker_of l) (sym step.3) ∙ ap (λ (n : ℕ). map worker_of (take n ps)) (sym count))));
      own = joins_more m i (number p) (length c.push_reserved.new.self.items) _ _ _ inv.own (ap (λ (z : Mine). z.0.log) e) num count;
      len = more.0;
      old = more.1;
      done = λ k d l. more.2 k d (omega arith);
    }

pub returns : goal.returns
returns g c =
    let inv = c.loop-part.invariant in
    let ps : List (Part g.row.W.Denot) = c.args.parts.items in
    let i : ℕ = length c.loop-part.workers.items in
    let none : length (into_iter_items c.loop-part.part-iterator) ≡ 0 = sym c.loop-part.part-iterator.rest.ok.0 ∙ c.in-None.ensures.steps.0 in
    let all : i ≡ length ps = drop_none ps i inv.fewer (ap (λ (l : List (Part g.row.W.Denot)). length l) (sym inv.rest) ∙ none) in
    record {
      opener = inv.opener;
      workers = inv.workers ∙ ap (λ (l : List (Part g.row.W.Denot)). map worker_of l) (take_all ps i all);
      own = inv.own ∙ ap (λ (n : ℕ). c.args.seat.now.me.0.log ++ joins_from (length c.args.seat.now.me.0.logs - vec_len c.args.parts) n) (all ∙ search rules);
      logs = (inv.len, inv.old, λ k d l. inv.done k d (omega arith));
    }
