use Rattle.std.proofs.Common.{rules, arith, ◌≡◌, ◌-◌, ◌++◌, ℕ, List, length, append_assoc, ap, subst, vec_len, sym, ◌∙◌}
use Rattle.shared_table.specs.declared.workers.Part.{Part}
use Rattle.shared_table.specs.Past.{Log}
use Rattle.shared_table.specs.Steps.{Mine}
use Rattle.shared_table.specs.Rounds.{splits_from, joins_from, AreBack, Grown, HasLogs}
use Rattle.shared_table.proofs.Rounding.{as_many, all_ready, all_back, has_round}
use Rattle.shared_table.proofs.workers.round.Goals as goal

pub run-done-requires-clause-ready : goal.run-done-requires-clause-ready
run-done-requires-clause-ready g c κs met = all_ready g.W.Worker.can_work _ _ c.args.workers.items _ c.requires.can c.open-opened.ensures.parts

pub join_all-after-requires-clause-parts : goal.join_all-after-requires-clause-parts
join_all-after-requires-clause-parts g c =
    let ps : List (Part g.row.W.Denot) = c.open-opened.result.items in
    let qs : List (Part g.row.W.Denot) = c.run-done.result.items in
    let same : length qs ≡ length ps = search rules in
    let opened = c.open-opened.ensures.parts in
    let count : length ps ≡ length c.args.workers.items = sym (as_many ps) ∙ ap (λ (l : List g.row.W.Denot). length l) opened.workers_are in
    let size : vec_len c.run-done.result ≡ length qs = search rules in
    let all : vec_len c.args.workers ≡ length c.args.workers.items = search rules in
    let logs = c.open-opened.ensures.logs.0 in
    let m : length c.open-opened.new.seat.me.0.logs - vec_len c.run-done.result ≡ length c.args.seat.now.me.0.logs = omega arith in
    (omega arith, subst (λ (n : ℕ). AreBack c.args.shared.now n qs) (sym m) (all_back _ _ _ _ ps qs opened c.run-done.ensures.ran same))

pub returns-clause-opener : goal.returns-clause-opener
returns-clause-opener g c =
    let was = c.join_all-after.ensures.opener in
    record {
      own = c.learn.ensures.own;
      free = (ap (λ (m : Mine). m.0.held) c.learn.ensures.same ∙ was.free.0, ap (λ (m : Mine). m.1) c.learn.ensures.same ∙ was.free.1);
      opening = ap (λ (m : Mine). m.0.number) c.learn.ensures.same ∙ was.opening;
    }

pub returns-clause-round : goal.returns-clause-round
returns-clause-round g c =
    let ps : List (Part g.row.W.Denot) = c.open-opened.result.items in
    let qs : List (Part g.row.W.Denot) = c.run-done.result.items in
    let v = c.args.seat.now.me.0 in
    let w = c.open-opened.new.seat.me.0 in
    let x = c.join_all-after.new.seat.me.0 in
    let same : length qs ≡ length ps = search rules in
    let size : vec_len c.run-done.result ≡ length qs = search rules in
    let all : vec_len c.args.workers ≡ length c.args.workers.items = search rules in
    has_round _ _ v w x c.learn.new.seat.me.0 _ _ ps qs (subst (λ (n : ℕ). Grown n v w) all c.open-opened.ensures.logs) c.open-opened.ensures.parts c.run-done.ensures.ran same
    (subst (λ (n : ℕ). HasLogs (length w.logs - n) qs w x) size c.join_all-after.ensures.logs) c.join_all-after.ensures.workers (ap (λ (m : Mine). m.0.logs) c.learn.ensures.same)

pub returns-clause-own : goal.returns-clause-own
returns-clause-own g c =
    let ps : List (Part g.row.W.Denot) = c.open-opened.result.items in
    let qs : List (Part g.row.W.Denot) = c.run-done.result.items in
    let v = c.args.seat.now.me.0 in
    let opened = c.open-opened.ensures.parts in
    let same : length qs ≡ length ps = search rules in
    let size : vec_len c.run-done.result ≡ length qs = search rules in
    let all : vec_len c.args.workers ≡ length c.args.workers.items = search rules in
    let count : length ps ≡ length c.args.workers.items = sym (as_many ps) ∙ ap (λ (l : List g.row.W.Denot). length l) opened.workers_are in
    let grown = c.open-opened.ensures.logs.0 in
    let first : length c.open-opened.new.seat.me.0.logs - vec_len c.run-done.result ≡ length v.logs = omega arith in
    let joined : vec_len c.run-done.result ≡ length c.args.workers.items = size ∙ (same ∙ count) in
    ap (λ (m : Mine). m.0.log) c.learn.ensures.same
    ∙ (c.join_all-after.ensures.own
    ∙ (ap (λ (l : Log). l ++ joins_from (length c.open-opened.new.seat.me.0.logs - vec_len c.run-done.result) (vec_len c.run-done.result)) c.open-opened.ensures.own
    ∙ (append_assoc v.log (splits_from (length v.logs) (vec_len c.args.workers)) (joins_from (length c.open-opened.new.seat.me.0.logs - vec_len c.run-done.result) (vec_len c.run-done.result)) ∙ ap (λ (l : Log). v.log ++ l)
    (ap (λ (n : ℕ). splits_from (length v.logs) n ++ joins_from (length c.open-opened.new.seat.me.0.logs - vec_len c.run-done.result) (vec_len c.run-done.result)) all
    ∙ (ap (λ (n : ℕ). splits_from (length v.logs) (length c.args.workers.items) ++ joins_from n (vec_len c.run-done.result)) first
    ∙ ap (λ (n : ℕ). splits_from (length v.logs) (length c.args.workers.items) ++ joins_from (length v.logs) n) joined)))))
