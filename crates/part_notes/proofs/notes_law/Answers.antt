use Rattle.part_notes.proofs.Histories.{all_labelled, all_notes}
use Rattle.part_notes.proofs.notes_law.Goals as goal

pub returns-clause-labelled : goal.returns-clause-labelled
returns-clause-labelled c file limits lay m rs ranges some first ok h = all_labelled file limits ok lay ranges some m first rs h

pub returns-clause-notes : goal.returns-clause-notes
returns-clause-notes c file limits lay m rs ranges some first ok h = all_notes file limits ok lay ranges some m first rs h
