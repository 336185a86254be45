use Rattle.watched_turns.proofs.Listed.{listed_watched, listed_told, listed_right}
use Rattle.watched_turns.proofs.listed_law.Goals as goal

pub returns-clause-state : goal.returns-clause-state
returns-clause-state c file harts g slots w h n m xs ys ok j line sorted same placed stand = listed_watched file harts g slots ok w h n m xs ys j line sorted same placed stand

pub returns-clause-told : goal.returns-clause-told
returns-clause-told c file harts g slots w h n m xs ys ok j line sorted same placed stand = listed_told file harts g slots ok w h n m xs ys j line sorted same placed stand

pub returns-clause-right : goal.returns-clause-right
returns-clause-right c file harts g slots w h n m xs ys ok j line sorted same placed stand = listed_right file harts g slots ok w h n m xs ys j line sorted same placed stand
