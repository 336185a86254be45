-- Instructions of a thread without a slot: they only put bytes on the output.
use Rattle.std.proofs.Common.{◌≡◌, ℕ, ◌+◌, true, Option, List, [], ◌∷◌, ◌++◌, append_assoc, append-nil, refl, sym, ap, subst}
use Rattle.std.specs.Prelude.{map}
use Rattle.std.specs.List.{enumerate_from, list_all}
use Rattle.run_record.specs.declared.event.Event.{Event}
use Rattle.run_record.specs.declared.event.Event.TheVariants as events
use Rattle.run_record.specs.declared.entry.Entry.{Entry}
use Rattle.run_record.specs.declared.limits.Limits.{Limits}
use Rattle.run_laws.specs.Moments.{Moment, event_moment, checks_at}
use Rattle.turn_laws.specs.Still.{is_put}
use Rattle.detector.specs.Detected.{Detected}
use Rattle.detector.specs.Stands.{Stands}
use Rattle.detector.proofs.NoteLaws.{stands_put}

-- all moments of an entry that only puts bytes
pub stands_puts : (granules : ℕ) (limits : Limits) (from : ℕ) (leaving : Option ℕ) (h : List Moment) (d : Detected) (i : ℕ) (e : Entry) (n : ℕ) (es : List Event) → Stands granules limits from leaving h d → e.checks ≡ [] → list_all is_put es ≡ true →
    Stands granules limits from leaving (h ++ map (event_moment i e) (enumerate_from n es)) d
stands_puts granules limits from leaving h d i e n [] s none all = subst (λ (ms : List Moment). Stands granules limits from leaving ms d) (sym (append-nil h)) s
stands_puts granules limits from leaving h d i e n (events.Put value count ∷ es) s none all =
    let m : Moment = event_moment i e (n, events.Put value count) in
    subst (λ (ms : List Moment). Stands granules limits from leaving ms d) (append_assoc h (m ∷ []) (map (event_moment i e) (enumerate_from (n + 1) es)))
    (stands_puts granules limits from leaving (h ++ m ∷ []) d i e (n + 1) es (stands_put granules limits from leaving h m d e.tid value count s refl (ap (checks_at n) none)) none all)
stands_puts granules limits from leaving h d i e n (_ ∷ es) s none all = absurd (cc)
