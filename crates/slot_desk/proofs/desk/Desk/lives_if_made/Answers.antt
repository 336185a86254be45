use Rattle.std.proofs.Common.{◌<◌, length, refl, sym, arith}
use Rattle.std.proofs.lemmas.Option.{slice_get_read}
use Rattle.slot_desk.proofs.LivesLaws.{life_of}
use Rattle.slot_desk.proofs.desk.Desk.lives_if_made.Goals as goal

pub returns : goal.returns
returns c =
    let d = c.self.inside in
    let t = c.index.result.now in
    let long = c.self.invariant.0.all_threads in
    let few = c.self.invariant.0.few_made in
    let made = c.if-tid-self.false in
    let within : c.args.tid < length d.threads.items = omega arith in
    let read = slice_get_read d.threads.items (length d.threads.items) c.args.tid t refl within c.index.ensures in
    rw (← c.self.view_is) (sym (life_of d.era d.made c.args.tid d.threads.items t made read))
