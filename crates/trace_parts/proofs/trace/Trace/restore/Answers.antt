use Rattle.std.proofs.Common.{◌≡◌, subst}
use Rattle.std.specs.Prelude.{IfOk, false, ◌↔◌}
use Rattle.std.proofs.lemmas.Result.{IfOk-weaker}
use Rattle.trace_parts.specs.declared.restored.Restored.{Restored}
use Rattle.trace_parts.specs.declared.restored.Restored.TheVariants.{Lost}
use Rattle.trace_parts.specs.Held.{HeldTrace, has_label}
use Rattle.trace_parts.specs.Sought.{restored, first_held, IsFirstOfAll}
use Rattle.trace_parts.proofs.FirstLaws.{lost_where_not_held, not_held_where_lost, first_of_all}
use Rattle.trace_parts.proofs.trace.Trace.restore.Goals as goal
use Rattle.std.proofs.Common.{refl}

pub returns : goal.returns
returns c =
    let trace = c.args.self.now in
    let l = c.args.label in
    let address = c.args.granule_address in
    let word = c.args.word in
    let found : IfOk c.restore.result (λ (found : Restored). found ≡ restored (first_held trace.held l address word)) =
    subst (λ (t : HeldTrace). IfOk c.restore.result (λ (found : Restored). found ≡ restored (first_held t.held l address word))) c.self.view_is c.restore.ensures
    in
    record {
      found = found;
      lost =
          IfOk-weaker c.restore.result (λ (found : Restored). found ≡ restored (first_held trace.held l address word)) (λ (found : Restored). (found ≡ Lost) ↔ (has_label trace l ≡ false))
          (λ (found : Restored) is. (not_held_where_lost trace l address word found (has_label trace l) refl is c.requires, lost_where_not_held trace l address word found is)) found;
      first =
          IfOk-weaker c.restore.result (λ (found : Restored). found ≡ restored (first_held trace.held l address word)) (IsFirstOfAll trace l address word) (λ (found : Restored) is. first_of_all trace l address word found is) found;
    }
