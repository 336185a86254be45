-- Of what stands, a search reads the frames, the locks, and whether the label is the sought one.
use Rattle.std.proofs.Common.{◌≡◌, ℕ, ◌∷◌, ◌&&◌, Bool, true, false, if◌then◌else◌, List, [], Option, Some, None, refl, sym, ◌∙◌, ap}
use Rattle.std.specs.Option.{option_or, option_map_or}
use Rattle.std.specs.List.{list_any}
use Rattle.std.proofs.lemmas.Bool.{or_parts}
use Rattle.run_record.specs.declared.entry.Label.{Label}
use Rattle.run_record.specs.declared.report.KeptLock.{KeptLock}
use Rattle.run_laws.specs.Accesses.{Access}
use Rattle.run_laws.specs.Stacks.{frames_after, locks_after}
use Rattle.run_laws.specs.Window.{TraceEvent, Labelled, Traced, is_label}
use Rattle.trace_parts.specs.declared.restored.Restored.{Restored}
use Rattle.trace_parts.specs.declared.restored.Restored.TheVariants.{Found, Lost}
use Rattle.trace_parts.specs.Snapshot.{Snapshot, snapshot_after, after_all}
use Rattle.trace_parts.specs.Sought.{is_under, leaves_word, access_in, told_if}
use Rattle.trace_parts.proofs.SeekLaws.{first_told, first_told-cons}

-- nothing is told of an event under another label
told_if-elsewhere : (l : Label) (address word : ℕ) (s : Snapshot) (e : TraceEvent) → is_under l s.label ≡ false → told_if l address word s e ≡ None
told_if-elsewhere l address word s e h = rw h refl

-- without its event no label comes
under_after : (l : Label) (s : Snapshot) (e : TraceEvent) → is_under l s.label ≡ false → is_label l e ≡ false → is_under l (snapshot_after s e).label ≡ false
under_after l s (Labelled m) h other = other
under_after l s (Traced e) h other = h

pub under_after_all : (l : Label) (s : Snapshot) (es : List TraceEvent) → is_under l s.label ≡ false → list_any (is_label l) es ≡ false → is_under l (after_all s es).label ≡ false
under_after_all l s [] h none = h
under_after_all l s (e ∷ es) h none =
    let parts = or_parts (is_label l e) (list_any (is_label l) es) none in
    under_after_all l (snapshot_after s e) es (under_after l s e h parts.0) parts.1

-- so nothing is found
pub none_told : (l : Label) (address word : ℕ) (s : Snapshot) (es : List TraceEvent) → is_under l s.label ≡ false → list_any (is_label l) es ≡ false → first_told l address word s es ≡ None
none_told l address word s [] h none = refl
none_told l address word s (e ∷ es) h none =
    let parts = or_parts (is_label l e) (list_any (is_label l) es) none in
    first_told-cons l address word s e es ∙ ap (λ (o : Option Restored). option_or o (first_told l address word (snapshot_after s e) es)) (told_if-elsewhere l address word s e h)
    ∙ none_told l address word (snapshot_after s e) es (under_after l s e h parts.0) parts.1

-- what is told of an event, by what is read of what stood before it
told_by : Label → ℕ → ℕ → TraceEvent → Bool → List ℕ → List KeptLock → Option Restored
told_by l address word e under frames locks =
    if under && option_map_or (leaves_word l address word) (access_in e) false then Some (option_map_or (λ (a : Access). Found a.place a.addr a.size (a.place ∷ frames) locks) (access_in e) Lost) else None

told_if-same : (l : Label) (address word : ℕ) (s t : Snapshot) (e : TraceEvent) → s.frames ≡ t.frames → s.locks ≡ t.locks → is_under l s.label ≡ is_under l t.label → told_if l address word s e ≡ told_if l address word t e
unfolding told_by
told_if-same l address word s t e frames locks under =
    ap (λ (b : Bool). told_by l address word e b s.frames s.locks) under ∙ ap (λ (x : List ℕ). told_by l address word e (is_under l t.label) x s.locks) frames
    ∙ ap (told_by l address word e (is_under l t.label) t.frames) locks

first_told-same :
    (l : Label) (address word : ℕ) (s t : Snapshot) (e : TraceEvent) (es : List TraceEvent) → told_if l address word s e ≡ told_if l address word t e → first_told l address word (snapshot_after s e) es ≡ first_told l address word (snapshot_after t e) es →
    first_told l address word s (e ∷ es) ≡ first_told l address word t (e ∷ es)
first_told-same l address word s t e es here rest =
    first_told-cons l address word s e es ∙ ap (λ (o : Option Restored). option_or o (first_told l address word (snapshot_after s e) es)) here
    ∙ ap (option_or (told_if l address word t e)) rest ∙ sym (first_told-cons l address word t e es)

-- So from the same frames and locks, with the label at both or at neither, the same is told.
pub same_under : (l : Label) (address word : ℕ) (s t : Snapshot) (es : List TraceEvent) → s.frames ≡ t.frames → s.locks ≡ t.locks → is_under l s.label ≡ is_under l t.label → first_told l address word s es ≡ first_told l address word t es
same_under l address word s t [] frames locks under = refl
same_under l address word s t (Labelled m ∷ es) frames locks under =
    first_told-same l address word s t (Labelled m) es (told_if-same l address word s t (Labelled m) frames locks under) (same_under l address word (snapshot_after s (Labelled m)) (snapshot_after t (Labelled m)) es frames locks refl)
same_under l address word s t (Traced e ∷ es) frames locks under =
    first_told-same l address word s t (Traced e) es (told_if-same l address word s t (Traced e) frames locks under)
    (same_under l address word (snapshot_after s (Traced e)) (snapshot_after t (Traced e)) es (ap (λ (x : List ℕ). frames_after x e) frames) (ap (λ (x : List KeptLock). locks_after x e) locks) under)

-- frames and locks depend on no label
pub same_frames : (s t : Snapshot) (es : List TraceEvent) → s.frames ≡ t.frames → (after_all s es).frames ≡ (after_all t es).frames
same_frames s t [] h = h
same_frames s t (Labelled m ∷ es) h = same_frames (snapshot_after s (Labelled m)) (snapshot_after t (Labelled m)) es h
same_frames s t (Traced e ∷ es) h = same_frames (snapshot_after s (Traced e)) (snapshot_after t (Traced e)) es (ap (λ (x : List ℕ). frames_after x e) h)

pub same_locks : (s t : Snapshot) (es : List TraceEvent) → s.locks ≡ t.locks → (after_all s es).locks ≡ (after_all t es).locks
same_locks s t [] h = h
same_locks s t (Labelled m ∷ es) h = same_locks (snapshot_after s (Labelled m)) (snapshot_after t (Labelled m)) es h
same_locks s t (Traced e ∷ es) h = same_locks (snapshot_after s (Traced e)) (snapshot_after t (Traced e)) es (ap (λ (x : List KeptLock). locks_after x e) h)
