use Rattle.std.proofs.Common.{refl}
use Rattle.hart_turns.proofs.Serving.{on_ok, turned_desk}
use Rattle.hart_turns.proofs.desk.serve_at_desk.Goals as goal

pub returns-clause-served : goal.returns-clause-served
returns-clause-served c =
    on_ok _ _ c.serve_at_desk.result
    (λ ok. record {
      turned = λ file. turned_desk file c.args.harts c.args.tid c.args.request.now c.args.hart.now c.serve_at_desk.new.self c.args.desk.now c.serve_at_desk.new.desk
          c.living-living.result c.joined_at-joined.result c.serve_at_desk.new.events c.requires.uses c.living-living.ensures.value c.living-living.ensures.counted
          c.joined_at-joined.ensures (λ lives asks told. ok file lives asks told);
      few = c.serve_at_desk.ensures.few;
      room = c.living-living.ensures.kept;
      desk_is = refl;
      last_is = refl;
    })
    c.serve_at_desk.ensures.ok
